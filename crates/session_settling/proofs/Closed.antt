-- All connections that are open are closed.
use Rattle.std.proofs.Common.{◌≡◌, ◌⊎◌, inl, inr, ℕ, ◌<◌, Option, Some, None, List, set, length, refl, sym, ap, ◌∙◌, subst, zero, suc, [], ◌∷◌}
use Rattle.std.specs.Prelude.{slice_get}
use Rattle.std.proofs.lemmas.Bool.{cases_eq}
use Rattle.std.proofs.lemmas.List.{length-set}
use Rattle.xp_base.specs.declared.numbers.Conn.{Conn}
use Rattle.link_bay.specs.Connections.{AllStay}
use Rattle.connection_table.specs.Tables.{Slot, Open, Away, Ended, opened, open_at, open_count}
use Rattle.connection_ends.specs.declared.end.End.{End}
use Rattle.connection_ends.specs.declared.end.End.TheVariants as E
use Rattle.open_connection.specs.Connection.{ConnectionSeen}
use Rattle.session_steps.specs.Seen.{Known, Seen}
use Rattle.session_steps.specs.Settling.{EndsWhere, EndsNow, EndsOpen, SettlingKeeps, CauseCame}
use Rattle.session_settling.specs.Through.{GoesThrough, IsOn, IsAny}
use Rattle.session_settling.specs.Settled.{closed, ClosesAll}
use Rattle.session_settling.proofs.Acts.{stays, both, any_acts, closing}
use Rattle.session_settling.proofs.Places.{set_other, stay_put, one_less_open, ended_there, open_slot}

-- each slot is as before, or was closed
pub record ClosesSome {B : Type 0} (known : Known B) (old now : Seen B) : Type 0 where
  pub provider : known.provider now.bay ≡ known.provider old.bay
  pub connections : AllStay (known.connection old.bay) (known.connection now.bay)
  pub desk : now.desk ≡ old.desk
  pub long : length now.slots ≡ length old.slots
  pub each : (k : ℕ) (slot : Slot ConnectionSeen End) → slice_get old.slots k ≡ Some slot → (slice_get now.slots k ≡ Some slot) ⊎ (slice_get now.slots k ≡ Some (closed slot))

never_open : (slot : Slot ConnectionSeen End) (t : ConnectionSeen) → closed slot ≡ Open t → ⊥
never_open (Open u) t is = cc is
never_open Away t is = cc is
never_open (Ended e) t is = cc is

slot_same : (a b : Slot ConnectionSeen End) → Some a ≡ Some b → a ≡ b
slot_same a b same = cc same

set_here : (slots : List (Slot ConnectionSeen End)) (k : ℕ) (t : ConnectionSeen) (slot : Slot ConnectionSeen End) → open_at slots k ≡ Some t → slice_get (set slots k slot) k ≡ Some slot
set_here [] k t slot is = absurd (cc is)
set_here (s ∷ slots) zero t slot is = refl
set_here (s ∷ slots) (suc k) t slot is = set_here slots k t slot is

module _ {B : Type 0} (known : Known B) where
  pub closes_none : (s : Seen B) → ClosesSome known s s
  closes_none s = record { provider = refl; connections = λ d. refl; desk = refl; long = refl; each = λ k slot is. inl is }

  module _ (c : Conn) (old now new : Seen B) (connection : ConnectionSeen) (opened_now : open_at now.slots c.0 ≡ Some connection) (ends : EndsOpen known c E.Unended now new) where
    ended : EndsNow known c E.Unended now new
    ended = subst (λ (o : Option ConnectionSeen). EndsWhere known o c E.Unended now new) opened_now ends

    slots_are : new.slots ≡ set now.slots c.0 (Ended E.Unended)
    slots_are = ap (λ (s : Seen B). s.slots) ended.changed

    pub closes_one : ClosesSome known old now → ClosesSome known old new
    closes_one some = record {
      provider = ended.provider ∙ some.provider;
      connections = λ d. ended.connections d ∙ some.connections d;
      desk = ap (λ (s : Seen B). s.desk) ended.changed ∙ some.desk;
      long = ap length slots_are ∙ length-set now.slots c.0 (Ended E.Unended) ∙ some.long;
      each = λ k slot is. go k slot (cases_eq k c.0) (some.each k slot is);
    }
      where
        here : (k : ℕ) (slot : Slot ConnectionSeen End) → k ≡ c.0 → (slice_get now.slots k ≡ Some slot) ⊎ (slice_get now.slots k ≡ Some (closed slot)) → slice_get new.slots k ≡ Some (closed slot)
        here k slot same (inl is) =
            let was : slot ≡ Open connection = slot_same slot (Open connection) (sym is ∙ ap (slice_get now.slots) same ∙ open_slot now.slots c.0 connection opened_now) in
            ap (λ (ss : List (Slot ConnectionSeen End)). slice_get ss k) slots_are ∙ ap (slice_get (set now.slots c.0 (Ended E.Unended))) same ∙ set_here now.slots c.0 connection (Ended E.Unended) opened_now
            ∙ ap (λ (s : Slot ConnectionSeen End). Some (closed s)) (sym was)
        here k slot same (inr is) = absurd (never_open slot connection (slot_same (closed slot) (Open connection) (sym is ∙ ap (slice_get now.slots) same ∙ open_slot now.slots c.0 connection opened_now)))

        go : (k : ℕ) (slot : Slot ConnectionSeen End) → (k ≡ c.0) ⊎ (k ≡ c.0 → ⊥) → (slice_get now.slots k ≡ Some slot) ⊎ (slice_get now.slots k ≡ Some (closed slot))
            → (slice_get new.slots k ≡ Some slot) ⊎ (slice_get new.slots k ≡ Some (closed slot))
        go k slot (inl same) was = inr (here k slot same was)
        go k slot (inr other) (inl is) = inl (ap (λ (ss : List (Slot ConnectionSeen End)). slice_get ss k) slots_are ∙ set_other now.slots c.0 (Ended E.Unended) k other ∙ is)
        go k slot (inr other) (inr is) = inr (ap (λ (ss : List (Slot ConnectionSeen End)). slice_get ss k) slots_are ∙ set_other now.slots c.0 (Ended E.Unended) k other ∙ is)

    pub one_fewer : open_count new.slots < open_count now.slots
    one_fewer = subst (λ (ss : List (Slot ConnectionSeen End)). open_count ss < open_count now.slots) (sym slots_are)
        (let stay = stay_put c.0 now.slots connection (Ended E.Unended) opened_now in one_less_open now.slots (set now.slots c.0 (Ended E.Unended)) c.0 connection stay.long stay.none opened_now (ended_there now.slots c.0 E.Unended))

    pub closes_on : SettlingKeeps B → CauseCame B → GoesThrough known IsAny old now → GoesThrough known IsAny old new
    closes_on keeps came through = both known keeps IsAny old now new through
        (any_acts known (IsOn c.0) now new (closing known keeps came c E.Unended now now new connection connection opened_now opened_now (stays known (IsOn c.0) now) ends (λ n. tt) (λ phase were_opened steady. tt) (λ bad. absurd (cc bad))))

  -- none is open any more
  pub all_closed : (old now : Seen B) → ClosesSome known old now → ((k : ℕ) → open_at now.slots k ≡ None) → ClosesAll known old now
  all_closed old now some none = record {
    provider = some.provider;
    connections = some.connections;
    desk = some.desk;
    long = some.long;
    each = λ k slot is. go k slot (some.each k slot is);
  }
    where
      go : (k : ℕ) (slot : Slot ConnectionSeen End) → (slice_get now.slots k ≡ Some slot) ⊎ (slice_get now.slots k ≡ Some (closed slot)) → slice_get now.slots k ≡ Some (closed slot)
      go k slot (inr is) = is
      go k (Open t) (inl is) = let bad : Some t ≡ None = sym (ap opened is) ∙ none k in absurd (cc bad)
      go k Away (inl is) = is
      go k (Ended e) (inl is) = is
