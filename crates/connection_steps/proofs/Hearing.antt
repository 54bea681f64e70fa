-- What is read of a connection.
use Rattle.std.proofs.Common.{◌≡◌, ℕ, Bool, true, false, Some, None, List, [], ◌∷◌, ◌++◌, length, cond, eqb, refl, sym, ap, ◌∙◌, subst, arith}
use Rattle.std.specs.Prelude.{Option, map}
use Rattle.window_model.specs.Desktop.{Window, IsDesktop, find_window}
use Rattle.window_source.specs.Source.{SourceSeen}
use Rattle.client_talk.specs.Handling.{Outcome}
use Rattle.client_talk.specs.Kept.{Hears, IsMarked}
use Rattle.client_talk.specs.Marks.{marked}
use Rattle.client_talk.specs.Laws.{MarkBefore, MarksFollow, MarkBegins, MarkHears}
use Rattle.client_delivery.specs.Attached.{find_source, started_source}
use Rattle.client_delivery.specs.Delivered.{AreOfOneSize, IsTold}
use Rattle.client_delivery.specs.Keeping.{HoldsDesk}
use Rattle.attached_client.specs.Client.{ClientSeen}
use Rattle.attached_client.specs.Acting.{acts}
use Rattle.attached_client.specs.Laws.{ActingMarks, mark_in, mark_on}
use Rattle.open_connection.specs.Connection.{ConnectionSeen, IsListeningTo, caps_of}
use Rattle.open_connection.specs.Laws.{HearingListens, HearingEnds, HearingTells, IsToldTo}
use Rattle.connection_steps.specs.Kept.{AreMarked}
use Rattle.connection_steps.specs.Laws.{HearingKeeps, HearingEndsIt}
use Rattle.connection_steps.proofs.Bytes.{given_told, tells_given}

-- a source as it begins is not marked
begins_unmarked : (conn now wid : ℕ) (desk : List Window) (w : Window) → find_window desk wid ≡ Some w → mark_in (find_source (map (started_source conn now) desk) wid) ≡ Some false
begins_unmarked conn now wid [] w found = absurd (cc found)
begins_unmarked conn now wid (v ∷ desk) w found = go (eqb v.wid wid) found (begins_unmarked conn now wid desk w)
  where
    go : (b : Bool) → cond b (Some v) (find_window desk wid) ≡ Some w → (find_window desk wid ≡ Some w → mark_in (find_source (map (started_source conn now) desk) wid) ≡ Some false)
        → mark_in (cond b (Some (started_source conn now v)) (find_source (map (started_source conn now) desk) wid)) ≡ Some false
    go true found later = refl
    go false found later = later found

-- where there is a source there is a window, and the other way round
window_of_source : (desk : List Window) (o : Option Window) (s : Option SourceSeen) (t : SourceSeen) → AreOfOneSize o s → s ≡ Some t → (w : Window) × (o ≡ Some w)
window_of_source desk None None t sized is = absurd (cc is)
window_of_source desk None (Some s) t sized is = absurd sized
window_of_source desk (Some w) None t sized is = absurd sized
window_of_source desk (Some w) (Some s) t sized is = (w, refl)

source_of_window : (o : Option Window) (s : Option SourceSeen) (w : Window) → AreOfOneSize o s → o ≡ Some w → (t : SourceSeen) × (s ≡ Some t)
source_of_window None s w sized is = absurd (cc is)
source_of_window (Some v) None w sized is = absurd sized
source_of_window (Some v) (Some s) w sized is = (s, refl)

some_same : {A : Type 0} (a b : A) → Some a ≡ Some b → a ≡ b
some_same a b same = cc same

module _ (listens : HearingListens) (tells_all : HearingTells) (acting : ActingMarks) (follow : MarksFollow ClientSeen) (begins : MarkBegins) (hears_so : MarkHears) where
  -- the client that stands after a read is told as the one before
  told_after : (desk : List Window) (were_opened : ℕ → Bool) (k now : ℕ) (sent bytes : List ℕ) (c c' : ConnectionSeen) (ignored : ℕ) → IsDesktop desk → HoldsDesk desk were_opened
      → Hears (acts desk k now) c.framing c.client bytes c'.framing c'.client ignored → IsToldTo desk were_opened k c.client sent → IsToldTo desk were_opened k c'.client sent
  told_after desk were_opened k now sent bytes c c' ignored desktop holds hears told =
      subst (λ (o : Outcome ClientSeen). IsToldTo desk were_opened k o.attached sent) hears.outcome (tells_all desk were_opened k now sent c.client hears.packets None desktop holds told)

  -- its marks are those of the messages
  marks_after : (desk : List Window) (were_opened : ℕ → Bool) (k now : ℕ) (sent given heard bytes : List ℕ) (c c' : ConnectionSeen) (ignored : ℕ) (client : Option ClientSeen) (a : ClientSeen)
      → c.client ≡ client → c'.client ≡ Some a
      → Hears (acts desk k now) c.framing c.client bytes c'.framing c'.client ignored → IsListeningTo given c → IsToldTo desk were_opened k client sent → IsTold desk were_opened a.seen sent → AreMarked client sent given heard
      → (wid : ℕ) (s : SourceSeen) → find_source a.seen.sources wid ≡ Some s → IsMarked wid s.mapped sent (given ++ bytes) heard
  marks_after desk were_opened k now sent given heard bytes c c' ignored client a before after hears listening told told' marks wid s found = go client before told marks
    where
      there : (w : Window) × (find_window desk wid ≡ Some w)
      there = window_of_source desk (find_window desk wid) (find_source a.seen.sources wid) s (told'.delivered.sized wid) found

      hears' : Hears (acts desk k now) c.framing c.client bytes c'.framing (Some a) ignored
      hears' = subst (λ (o : Option ClientSeen). Hears (acts desk k now) c.framing c.client bytes c'.framing o ignored) after hears

      follows : (was : Bool) → MarkBefore (acts desk k now) (mark_on wid) c.client was → IsMarked wid was sent given heard → IsMarked wid s.mapped sent (given ++ bytes) heard
      follows was marking kept =
          let more = follow (acts desk k now) caps_of wid (mark_on wid) was given bytes c.framing c'.framing c.client a ignored (record { attach = λ caps. refl; act = λ m b. refl }) (acting desk k now wid) marking listening hears' in
          let same : marked wid was more.0 ≡ s.mapped = some_same (marked wid was more.0) s.mapped (sym more.2 ∙ ap mark_in found) in
          subst (λ b. IsMarked wid b sent (given ++ bytes) heard) same (hears_so wid was sent given heard bytes more.0 more.1 kept)

      go : (client : Option ClientSeen) → c.client ≡ client → IsToldTo desk were_opened k client sent → AreMarked client sent given heard → IsMarked wid s.mapped sent (given ++ bytes) heard
      go None before nothing marks = follows false (subst (λ (o : Option ClientSeen). MarkBefore (acts desk k now) (mark_on wid) o false) (sym before) (λ caps. begins_unmarked k now wid desk there.0 there.1))
          (begins wid sent given heard (λ n low shown. absurd (let none = ap length nothing in omega (arith, none, low))))
      go (Some cl) before told marks =
          let t = source_of_window (find_window desk wid) (find_source cl.seen.sources wid) there.0 (told.1.delivered.sized wid) there.1 in
          let first = t.0 in
          follows first.mapped (subst (λ (o : Option ClientSeen). MarkBefore (acts desk k now) (mark_on wid) o first.mapped) (sym before) (ap mark_in t.1)) (marks wid first t.1)

  pub hearing_keeps : HearingKeeps
  hearing_keeps tells desk were_opened k now r r' c c' bytes ignored desktop holds gives hears kept = record {
    sent = kept.sent;
    given = kept.given ++ bytes;
    heard = kept.heard;
    told = given_told tells r r' kept.sent kept.given kept.heard bytes gives kept.told;
    for_each = kept.for_each;
    listens = listens desk k now kept.given bytes c c' ignored kept.listens hears;
    client = told_now;
    marks = go c'.client refl told_now;
    unseen = kept.unseen;
  }
    where
      told_now : IsToldTo desk were_opened k c'.client kept.sent
      told_now = told_after desk were_opened k now kept.sent bytes c c' ignored desktop holds hears kept.client

      go : (o : Option ClientSeen) → c'.client ≡ o → IsToldTo desk were_opened k o kept.sent → AreMarked o kept.sent (kept.given ++ bytes) kept.heard
      go None after told = tt
      go (Some a) after told = λ wid s found. marks_after desk were_opened k now kept.sent kept.given kept.heard bytes c c' ignored c.client a refl after hears kept.listens kept.client told.1 kept.marks wid s found

pub ends_it : HearingEnds → HearingEndsIt
ends_it ends tells desk were_opened k now r r' c client bytes ending ignored gives hearing kept =
    tells_given tells r' kept.sent (kept.given ++ bytes) kept.heard _ (given_told tells r r' kept.sent kept.given kept.heard bytes gives kept.told)
    (ends desk k now kept.given bytes c client ending ignored kept.listens hearing)
