-- What a connection has to say is read out.
use Rattle.std.specs.Prelude.{ℕ, ◌≡◌, ◌+◌, ◌≤◌, None, Some, List, length}
use Rattle.xp_base.specs.Counts.{Rose}
use Rattle.xp_base.specs.Told.{told_append}
use Rattle.connection_table.specs.Tables.{open_at}
use Rattle.open_connection.specs.Connection.{ConnectionSeen}
use Rattle.session_steps.specs.Seen.{Known, Seen}
use Rattle.session_settling.specs.declared.reading.ReadOut.{ReadOut}
use Rattle.session_settling.specs.declared.reading.ReadOut.TheVariants as R

abbrev pub StaysOpen : {B : Type 0} → ℕ → Seen B → Type 0
StaysOpen k s = (connection : ConnectionSeen) × (open_at s.slots k ≡ Some connection)

-- so many bytes might be given before, and so many now: those between were given, or more
pub record UsesUp {B : Type 0} (known : Known B) (k rest left : ℕ) (old new : Seen B) : Type 0 where
  pub fewer : left ≤ rest
  pub bytes : List ℕ
  pub many : rest ≤ left + length bytes
  pub given : (known.connection new.bay k).given ≡ told_append (known.connection old.bay k).given bytes

-- it is open, and a read found nothing more; where no byte was read, it is as before
pub record IsReadOut {B : Type 0} (known : Known B) (k rest left : ℕ) (old new : Seen B) : Type 0 where
  pub opened : StaysOpen k new
  pub some : 1 ≤ left
  pub used : UsesUp known k rest left old new
  pub heard : (known.connection new.bay k).unheard ≡ 0
  pub waited : Rose (known.connection old.bay k).waits (known.connection new.bay k).waits
  pub quiet : left ≡ rest → open_at new.slots k ≡ open_at old.slots k

abbrev pub ReadsOut : {B : Type 0} → Known B → ℕ → ℕ → Seen B → ReadOut → Seen B → Type 0
ReadsOut known k rest old R.Over new = open_at new.slots k ≡ None
ReadsOut known k rest old R.Flooded new = StaysOpen k new × UsesUp known k rest 0 old new
ReadsOut known k rest old (R.Out left) new = IsReadOut known k rest left old new
