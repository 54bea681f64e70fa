-- Windows that are drawn at once, and the next open connection, as the steps see them.
use Rattle.std.proofs.Common.{◌≡◌, ℕ, Bool, true, Option, Some, List, set, sym, ap, ◌∙◌, subst}
use Rattle.std.specs.Prelude.{slice_get, Result, Ok, Err, OnOk, is_ok}
use Rattle.std.specs.Option.{option_map}
use Rattle.xp_base.specs.declared.numbers.Conn.{Conn}
use Rattle.window_model.specs.Desktop.{Window}
use Rattle.connection_table.specs.Tables.{Slot, Open, Away, open_at, IsNextOpen, NoneFrom}
use Rattle.connection_ends.specs.declared.end.End.{End}
use Rattle.open_connection.specs.Connection.{OpenSeen, ConnectionSeen, connection_in}
use Rattle.open_connection.specs.Drawing.{ConnectionDraws, ConnectionNearer}
use Rattle.session_steps.specs.Seen.{Seen}
use Rattle.session_steps.specs.Slots.{Slots}
use Rattle.session_steps.specs.Drawing.{DrawsWhere, DrawsAt}
use Rattle.session_state.specs.Views.{slots_in}
use Rattle.session_state.proofs.Sets.{set_twice}
use Rattle.session_state.proofs.Viewed.{view_open}

-- what is open is seen so, and nothing else
pub viewed_next : (table : List (Slot OpenSeen End)) (from k : ℕ) → IsNextOpen table from k → IsNextOpen (slots_in table) from k
viewed_next table from k is = record {
  least = is.least;
  there = (connection_in (is.there).0, view_open table k ∙ ap (option_map connection_in) (is.there).1);
  none_before = λ j low high. view_open table j ∙ ap (option_map connection_in) (is.none_before j low high);
}

pub viewed_none : (table : List (Slot OpenSeen End)) (from : ℕ) → NoneFrom table from → NoneFrom (slots_in table) from
viewed_none table from none j low = view_open table j ∙ ap (option_map connection_in) (none j low)

pub where_ok : {T E P : Type 0} (r : Result T E) → OnOk r P → is_ok r ≡ true → P
where_ok (Ok x) on is = on
where_ok (Err e) on is = absurd (cc is)

-- a window was drawn for a connection that was taken out and put back
pub draws_so : {B : Type 0} (c : Conn) (place : ℕ) (went_well : Bool) (seen old : Seen B) (slots slots' : Slots) (window : Window) (connection after : ConnectionSeen)
    → seen ≡ old → slice_get seen.desk place ≡ Some window → open_at seen.slots c.0 ≡ Some connection → slots ≡ set seen.slots c.0 Away → slots' ≡ set slots c.0 (Open after)
    → ConnectionDraws window seen.clock connection after → (went_well ≡ true → ConnectionNearer window.wid connection after) → DrawsAt c place went_well old (record seen { slots = slots' })
draws_so c place went_well seen old slots slots' window connection after is placed at away put draws nearer = subst (λ (s : Seen _). DrawsAt c place went_well s (record seen { slots = slots' })) is
    (subst (λ (o : Option Window). DrawsWhere c o went_well (open_at seen.slots c.0) seen (record seen { slots = slots' })) (sym placed)
    (subst (λ (o : Option ConnectionSeen). DrawsWhere c (Some window) went_well o seen (record seen { slots = slots' })) (sym at) (record {
      after = after;
      draws = draws;
      nearer = nearer;
      changed = ap (λ (ss : Slots). record seen { slots = ss }) (put ∙ ap (λ (ss : Slots). set ss c.0 (Open after)) away ∙ set_twice seen.slots c.0 Away (Open after));
    })))
