-- Reads one after another.
use Rattle.std.proofs.Common.{◌≡◌, ℕ, ◌-◌, ◌≤◌, refl, sym, ap, ◌∙◌, subst, arith}
use Rattle.xp_base.specs.Counts.{Rose}
use Rattle.xp_base.specs.declared.numbers.Conn.{Conn}
use Rattle.connection_table.specs.Tables.{open_at}
use Rattle.session_steps.specs.declared.answers.Received.{Received}
use Rattle.session_steps.specs.declared.answers.Received.TheVariants as R
use Rattle.session_steps.specs.Seen.{Known, Seen}
use Rattle.session_steps.specs.Reading.{Receives}
use Rattle.session_steps.specs.Settling.{Reading, SettlingKeeps}
use Rattle.session_state.specs.Ready.{IsReady}
use Rattle.session_settling.specs.Through.{IsSettling, GoesThrough, IsOn}
use Rattle.session_settling.specs.Reading.{StaysOpen, UsesUp, IsReadOut}
use Rattle.session_settling.proofs.Acts.{one_act, both}
use Rattle.session_settling.proofs.Heard.{took, again, used_none, used_read, used_both}

pub ready : {B : Type 0} (known : Known B) (s : Seen B) → IsSettling known s → IsReady known s
ready known s settling = record { counted = (settling.2).counted; early = (settling.2).clocked }

pub rose_later : (a b c : ℕ) → a ≤ b → Rose b c → Rose a c
rose_later a b c low rose = record { later = let later = rose.later in omega (arith, low, later); risen = let risen = rose.risen in omega (arith, low, risen) }

module _ {B : Type 0} (known : Known B) (keeps : SettlingKeeps B) (c : Conn) (old now new : Seen B) (through : GoesThrough known (IsOn c.0) old now) where
  pub reads_on : (answer : Received) → Receives known c now answer new → GoesThrough known (IsOn c.0) old new
  reads_on answer receives = both known keeps (IsOn c.0) old now new through (one_act known (IsOn c.0) (Reading c answer) now new refl (λ phase. receives))

  module _ (rest left : ℕ) (some : 1 ≤ left) (used : UsesUp known c.0 rest left old now) (waits : (known.connection old.bay c.0).waits ≤ (known.connection now.bay c.0).waits) where
    pub reads_out : (left ≡ rest → now ≡ old) → Receives known c now R.Again new → IsReadOut known c.0 rest left old new
    reads_out quiet receives =
        let read = again known c now new receives in
        record {
          opened = read.opened;
          some = some;
          used = used_both known c.0 rest left left old now new used (used_none known c.0 left now new read.given);
          heard = read.heard;
          waited = rose_later (known.connection old.bay c.0).waits (known.connection now.bay c.0).waits (known.connection new.bay c.0).waits waits read.waited;
          quiet = λ same. read.same ∙ ap (λ (s : Seen B). open_at s.slots c.0) (quiet same);
        }

    pub uses_more : (n then : ℕ) → then ≡ left - n → Receives known c now (R.Took n) new → UsesUp known c.0 rest then old new
    uses_more n then is receives = subst (λ m. UsesUp known c.0 rest m old new) (sym is)
        (used_both known c.0 rest left (left - n) old now new used (used_read known c left n now new (took known c now new n receives)))

    pub waits_more : (n : ℕ) → Receives known c now (R.Took n) new → (known.connection old.bay c.0).waits ≤ (known.connection new.bay c.0).waits
    waits_more n receives = let read = took known c now new n receives in let later = read.waits in omega (arith, waits, later)

    pub not_quiet : (n then : ℕ) → then ≡ left - n → Receives known c now (R.Took n) new → then ≡ rest → new ≡ old
    not_quiet n then is receives same = let read = took known c now new n receives in let one = read.some in let low = used.fewer in absurd (omega (arith, some, one, low, same, is))

    pub flooded : (n then : ℕ) → then ≡ left - n → Receives known c now (R.Took n) new → then ≡ 0 → StaysOpen c.0 new × UsesUp known c.0 rest 0 old new
    flooded n then is receives none = let read = took known c now new n receives in (read.opened, subst (λ m. UsesUp known c.0 rest m old new) none (uses_more n then is receives))
