-- One connection is taken over, or stays.
use Rattle.std.proofs.Common.{◌≡◌, ℕ, Bool, true, false, Option, Some, None, List, refl, sym, ap, ◌∙◌, subst, cond}
use Rattle.std.specs.Prelude.{slice_get}
use Rattle.std.specs.Option.{option_map}
use Rattle.xp_base.specs.declared.numbers.Conn.{Conn}
use Rattle.connection_table.specs.Tables.{Slot, Open, Away, Ended, opened, open_at}
use Rattle.connection_ends.specs.declared.end.End.{End}
use Rattle.connection_ends.specs.declared.end.End.TheVariants as E
use Rattle.open_connection.specs.Connection.{OpenSeen, ConnectionSeen, connection_in}
use Rattle.session_steps.specs.Slots.{taken_over}
use Rattle.session_state.specs.Views.{slot_in, slots_in, is_named_in}
use Rattle.session_state.proofs.Viewed.{view_at}

-- by whether the connection is named
by_slot : (o : Option (Slot OpenSeen End)) (uuid : List ℕ) (c : Conn) (b : Bool) (slot : Slot ConnectionSeen End) → is_named_in uuid (opened o) ≡ b → option_map slot_in o ≡ Some slot
    → taken_over c uuid slot ≡ cond b (Ended (E.TakenOver c)) slot
by_slot None uuid c b slot named is = absurd (cc is)
by_slot (Some (Open o)) uuid c b slot named is =
    let same : Open (connection_in o) ≡ slot = cc is in
    subst (λ (s : Slot ConnectionSeen End). taken_over c uuid s ≡ cond b (Ended (E.TakenOver c)) s) same (ap (λ (t : Bool). cond t (Ended (E.TakenOver c)) (Open (connection_in o))) named)
by_slot (Some Away) uuid c false slot named is = let same : Away ≡ slot = cc is in subst (λ (s : Slot ConnectionSeen End). taken_over c uuid s ≡ s) same refl
by_slot (Some Away) uuid c true slot named is = absurd (cc named)
by_slot (Some (Ended e)) uuid c false slot named is = let same : Ended e ≡ slot = cc is in subst (λ (s : Slot ConnectionSeen End). taken_over c uuid s ≡ s) same refl
by_slot (Some (Ended e)) uuid c true slot named is = absurd (cc named)

pub named_ends : (slots : List (Slot OpenSeen End)) (n : ℕ) (uuid : List ℕ) (c : Conn) (slot : Slot ConnectionSeen End) → is_named_in uuid (open_at slots n) ≡ true → slice_get (slots_in slots) n ≡ Some slot
    → taken_over c uuid slot ≡ Ended (E.TakenOver c)
named_ends slots n uuid c slot named is = by_slot (slice_get slots n) uuid c true slot named (sym (view_at slots n) ∙ is)

pub unnamed_stays : (slots : List (Slot OpenSeen End)) (n : ℕ) (uuid : List ℕ) (c : Conn) (slot : Slot ConnectionSeen End) → is_named_in uuid (open_at slots n) ≡ false → slice_get (slots_in slots) n ≡ Some slot
    → taken_over c uuid slot ≡ slot
unnamed_stays slots n uuid c slot named is = by_slot (slice_get slots n) uuid c false slot named (sym (view_at slots n) ∙ is)
