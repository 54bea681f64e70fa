-- What one packet changes.
use Rattle.std.specs.Prelude.{ℕ, ◌≡◌, false, Some, Ok, Err, List, ◌++◌}
use Rattle.bencode_values.specs.declared.value.Value.{Value}
use Rattle.window_model.specs.Desktop.{Window}
use Rattle.packet_kinds.specs.declared.to_client.ToClient.{ToClient}
use Rattle.packet_kinds.specs.ToShapes.{to_client}
use Rattle.packet_kinds.specs.Effects.{effect}
use Rattle.packet_kinds.specs.Replies.{answer_to, has_effect, said_bytes}
use Rattle.client_replay.specs.declared.fault.ReplayFault.TheVariants as F
use Rattle.client_replay.specs.declared.step.Step.{Step}
use Rattle.client_replay.specs.declared.step.Step.TheVariants as S

-- the windows and the replies stay
abbrev pub Stay : List Window → List Window → List ℕ → List ℕ → Type 0
Stay windows windows' waiting waiting' = (windows' ≡ windows) × (waiting' ≡ waiting)

-- a packet of this value: the windows before and after, the bytes of the replies before and after
abbrev pub StepGives : Value → List Window → List Window → List ℕ → List ℕ → Step → Type 0
StepGives v windows windows' waiting waiting' S.Shown =
    (m : ToClient) × (to_client v ≡ Ok m) × (effect windows m ≡ Some windows') × (waiting' ≡ waiting ++ said_bytes (answer_to m))
StepGives v windows windows' waiting waiting' (S.Faulty (F.Frame fault)) = ⊥
StepGives v windows windows' waiting waiting' (S.Faulty (F.Shape i)) = (to_client v ≡ Err i) × Stay windows windows' waiting waiting'
StepGives v windows windows' waiting waiting' (S.Faulty F.Data) =
    (m : ToClient) × (to_client v ≡ Ok m) × (has_effect m ≡ false) × Stay windows windows' waiting waiting'
StepGives v windows windows' waiting waiting' S.NoMemory = Stay windows windows' waiting waiting'
