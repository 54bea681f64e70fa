-- All packets that are there, one after the other.
use Rattle.std.proofs.Common.{◌≡◌, ℕ, List, ◌∷◌, [], ◌++◌, sym, ◌∙◌}
use Rattle.std.specs.Prelude.{Ok, Err, Some, false}
use Rattle.bencode_values.specs.declared.value.Value.{Value}
use Rattle.window_model.specs.Desktop.{Window}
use Rattle.packet_frames.specs.declared.fault.FrameFault.{FrameFault}
use Rattle.packet_frames.specs.declared.next.Next.{Next}
use Rattle.packet_frames.specs.declared.next.Next.TheVariants as N
use Rattle.packet_frames.specs.Stream.{Packet}
use Rattle.packet_frames.specs.Following.{Framing, Follows, Gives, Tells}
use Rattle.packet_frames.proofs.Taking.{gives_limit}
use Rattle.client_replay.specs.declared.fault.ReplayFault.{ReplayFault}
use Rattle.client_replay.specs.declared.fault.ReplayFault.TheVariants as F
use Rattle.client_replay.specs.declared.fault.Fed.{Fed}
use Rattle.client_replay.specs.declared.fault.Fed.TheVariants as Fd
use Rattle.client_replay.specs.declared.step.Step.{Step}
use Rattle.client_replay.specs.declared.step.Step.TheVariants as S
use Rattle.client_replay.specs.Replaying.{Painting, painting, Paints, ShowsPart, Takes}
use Rattle.client_replay.specs.Steps.{StepGives}
use Rattle.client_replay.proofs.ReplayLemmas.{painted_on, shape_shows, data_shows, need_shows, bad_shows, part_shows, part_now}

-- what was so before is so now
pub record GoesOn (start now : Painting) : Type 0 where
  pub paints : (bytes taken : List ℕ) → Paints bytes taken start → Paints bytes taken now
  pub same : now.framing.limit ≡ start.framing.limit

-- what the framer's answer says of all bytes
abbrev pub Told : Framing → Next → Framing → Type 0
Told old answer new = (bytes : List ℕ) (given : List Packet) → Follows bytes given old → Tells bytes given answer new

module _ (start old : Painting) (so_far : GoesOn start old) (framing : Framing) (place : ℕ) (v : Value) (gives : Gives old.framing (N.Packet place v) framing)
    (told : Told old.framing (N.Packet place v) framing) where
  abbrev p : Packet
  p = record { place = place; value = v }

  pub goes_on : (new : Painting) → new.framing ≡ framing → StepGives v old.windows new.windows old.waiting new.waiting S.Shown → GoesOn start new
  goes_on new same step = record {
    paints = λ bytes taken before.
        let paints = so_far.paints bytes taken before in
        painted_on bytes taken old paints p step.0 new (rw same (told bytes paints.given paints.follows)) step.1 step.2 step.3;
    same = rw same (gives_limit old.framing (N.Packet place v) framing gives ∙ so_far.same);
  }

  -- where the packet is a fault, or memory is wanted, the loop ends
  pub ends_in : (windows : List Window) (waiting : List ℕ) (fault : ReplayFault) → StepGives v old.windows windows old.waiting waiting (S.Faulty fault)
      → (bytes taken : List ℕ) → Paints bytes taken start → Takes bytes taken (Fd.Bad place fault) (painting framing windows waiting)
  ends_in windows waiting (F.Frame kind) step bytes taken before = absurd step
  ends_in windows waiting (F.Shape i) step bytes taken before =
      let paints = so_far.paints bytes taken before in
      rw (step.1.0, step.1.1) (shape_shows bytes taken old paints framing p i (told bytes paints.given paints.follows) step.0)
  ends_in windows waiting F.Data step bytes taken before =
      let paints = so_far.paints bytes taken before in
      rw (step.3.0, step.3.1) (data_shows bytes taken old paints framing p step.0 (told bytes paints.given paints.follows) step.1 step.2)

  pub ends_short : (windows : List Window) (waiting : List ℕ) → StepGives v old.windows windows old.waiting waiting S.NoMemory
      → (bytes taken : List ℕ) → Paints bytes taken start → ShowsPart bytes taken (painting framing windows waiting)
  ends_short windows waiting step bytes taken before =
      let paints = so_far.paints bytes taken before in
      rw (step.0, step.1) (part_shows bytes taken old paints framing (p ∷ []) (told bytes paints.given paints.follows))

module _ (start old : Painting) (so_far : GoesOn start old) (framing : Framing) where
  pub ends_whole : Told old.framing N.Need framing → (bytes taken : List ℕ) → Paints bytes taken start → Takes bytes taken Fd.Ok (painting framing old.windows old.waiting)
  ends_whole told bytes taken before = let paints = so_far.paints bytes taken before in need_shows bytes taken old paints framing (told bytes paints.given paints.follows)

  pub ends_bad : (place : ℕ) (kind : FrameFault) → Told old.framing (N.Bad place kind) framing
      → (bytes taken : List ℕ) → Paints bytes taken start → Takes bytes taken (Fd.Bad place (F.Frame kind)) (painting framing old.windows old.waiting)
  ends_bad place kind told bytes taken before = let paints = so_far.paints bytes taken before in bad_shows bytes taken old paints framing place kind (told bytes paints.given paints.follows)

  pub ends_unread : Told old.framing N.NoMemory framing → (bytes taken : List ℕ) → Paints bytes taken start → ShowsPart bytes taken (painting framing old.windows old.waiting)
  ends_unread told bytes taken before = let paints = so_far.paints bytes taken before in part_now bytes taken old paints framing (told bytes paints.given paints.follows)
