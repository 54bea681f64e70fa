-- A connection that tells nothing, after a read or a write.
use Rattle.std.proofs.Common.{◌≡◌, ℕ, ◌≤◌, List, length, Some, refl, sym, ap, ◌∙◌, max}
use Rattle.std.specs.Prelude.{Option}
use Rattle.xp_base.specs.Counts.{Rose, RoseOnlyIf, count_sum}
use Rattle.link_bay.specs.declared.counters.Counters.{Counters}
use Rattle.link_bay.specs.Answers.{ReadGives, WriteGives, is_dry}
use Rattle.link_bay.specs.Counted.{mute_connection, after_write}
use Rattle.link_bay.specs.declared.bay.Gave.TheVariants as G
use Rattle.link_bay.specs.declared.bay.Wrote.TheVariants as W

pub mute_waited : (old new : Option Counters) (k k' : Counters) (bytes : List ℕ) (max : ℕ) → old ≡ Some k → new ≡ Some k'
    → k' ≡ record k { waits = count_sum k.waits 1; unheard = 0 } → Rose k.waits k'.waits
    → ReadGives (mute_connection old) (mute_connection new) bytes bytes max G.Again
mute_waited old new k k' bytes max was is counts rose = rw (was, is) (refl, rose, ap (λ (m : Counters). mute_connection (Some m)) counts ∙ ap (λ (n : ℕ). mute_connection (Some (record k { waits = n; unheard = 0 }))) (ap (λ (m : Counters). m.waits) (sym counts)))

pub mute_took : (old new : Option Counters) (k k' : Counters) (piece : List ℕ) (n : ℕ) → old ≡ Some k → new ≡ Some k' → n ≤ length piece
    → k' ≡ after_write piece n k → RoseOnlyIf (is_dry piece n) k.dry k'.dry
    → WriteGives (mute_connection old) (mute_connection new) piece (W.Took n)
mute_took old new k k' piece n was is most counts rose = rw (was, is) (most, rose, ap (λ (m : Counters). mute_connection (Some m)) counts ∙ ap (λ (d : ℕ). mute_connection (Some (record (after_write piece n k) { dry = d }))) (ap (λ (m : Counters). m.dry) (sym counts)))
