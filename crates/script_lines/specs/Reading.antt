-- What a reader of lines may answer. This project's own.
use Rattle.std.specs.Prelude.{◌≡◌, Result, Ok, Err}
use Rattle.script_lines.specs.declared.why.Why.{Why}
use Rattle.script_lines.specs.declared.reading.LineError.{LineError}
use Rattle.script_lines.specs.declared.reading.LineError.TheVariants as error

-- that, unless memory runs out
abbrev pub Gives : {A : Type 0} → Result A LineError → Result A Why → Type 0
Gives (Ok a) wanted = wanted ≡ Ok a
Gives (Err error.Memory) wanted = Unit {0}
Gives (Err (error.Fault w)) wanted = wanted ≡ Err w
