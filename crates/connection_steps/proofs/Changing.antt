-- A paint line.
use Rattle.std.proofs.Common.{◌≡◌, ℕ, ◌<◌, Bool, false, ◌⊎◌, inl, inr, Some, None, List, length, refl, sym, ap, ◌∙◌, subst}
use Rattle.std.specs.Prelude.{Option}
use Rattle.std.specs.Option.{option_map}
use Rattle.hello_caps.specs.declared.caps.Caps.{Caps}
use Rattle.window_model.specs.Desktop.{Window}
use Rattle.window_source.specs.Source.{SourceSeen}
use Rattle.client_talk.specs.Mapped.{IsShownBy}
use Rattle.client_talk.specs.Kept.{IsListening, IsMarked}
use Rattle.client_talk.specs.Laws.{MarkBegins}
use Rattle.client_delivery.specs.Attached.{find_source}
use Rattle.attached_client.specs.Client.{ClientSeen}
use Rattle.open_connection.specs.Connection.{ConnectionSeen, caps_of}
use Rattle.packet_frames.specs.Following.{Framing}
use Rattle.connection_steps.specs.Kept.{AreMarked, IsUnseen}
use Rattle.connection_steps.specs.Laws.{MarksStay, ClientStays, ChangingKeeps}

-- the capabilities stay
same_caps : (old : ℕ → Bool) (o o' : Option ClientSeen) → ClientStays old o o' → option_map caps_of o' ≡ option_map caps_of o
same_caps old None None stays = refl
same_caps old None (Some c') stays = absurd stays
same_caps old (Some c) None stays = absurd stays
same_caps old (Some c) (Some c') stays = ap (λ (caps : Caps). Some caps) stays.0

module _ (begins : MarkBegins) (old : ℕ → Bool) (sent given heard : List ℕ) (unseen : IsUnseen old sent) where
  -- a window that is opened now was shown by no byte
  mark_stays : (c c' : ClientSeen) → MarksStay old c c' → AreMarked (Some c) sent given heard → AreMarked (Some c') sent given heard
  mark_stays c c' stays marks wid s' found = go (stays wid s' found)
    where
      go : (((s : SourceSeen) × (find_source c.seen.sources wid ≡ Some s) × (s'.mapped ≡ s.mapped)) ⊎ ((s'.mapped ≡ false) × (old wid ≡ false))) → IsMarked wid s'.mapped sent given heard
      go (inl was) = subst (λ (b : Bool). IsMarked wid b sent given heard) (sym was.2) (marks wid was.0 was.1)
      go (inr fresh) = subst (λ (b : Bool). IsMarked wid b sent given heard) (sym fresh.0) (begins wid sent given heard (λ n low shown. unseen wid n fresh.1 low shown))

  marks_stay : (o o' : Option ClientSeen) → ClientStays old o o' → AreMarked o sent given heard → AreMarked o' sent given heard
  marks_stay None None stays marks = tt
  marks_stay None (Some c') stays marks = absurd stays
  marks_stay (Some c) None stays marks = absurd stays
  marks_stay (Some c) (Some c') stays marks = mark_stays c c' stays.1 marks

pub changing_keeps : MarkBegins → ChangingKeeps
changing_keeps begins tells desk desk' old new k r c c' more same stays told kept = record {
  sent = kept.sent;
  given = kept.given;
  heard = kept.heard;
  told = kept.told;
  for_each = kept.for_each;
  listens = subst (λ (caps : Option Caps). IsListening kept.given c'.framing caps) (sym (same_caps old c.client c'.client stays))
      (subst (λ (f : Framing). IsListening kept.given f (option_map caps_of c.client)) (sym same) kept.listens);
  client = told kept.sent kept.client;
  marks = marks_stay begins old kept.sent kept.given kept.heard kept.unseen c.client c'.client stays kept.marks;
  unseen = λ wid n unopened low shown. kept.unseen wid n (more wid unopened) low shown;
}
