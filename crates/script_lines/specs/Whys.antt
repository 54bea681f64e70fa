-- The word that is printed for each fault of a script. This project's own.
use Rattle.std.specs.Prelude.{ℕ, List, codes}
use Rattle.script_lines.specs.declared.why.Why.{Why}
use Rattle.script_lines.specs.declared.why.Why.TheVariants as why

abbrev pub why_name : Why → List ℕ
why_name why.Lines = codes "lines"
why_name why.Word = codes "word"
why_name why.Count = codes "count"
why_name why.Number = codes "number"
why_name why.Range = codes "range"
why_name why.NoWindow = codes "no-window"
why_name why.NoPeer = codes "no-peer"
why_name why.Reused = codes "reused"
why_name why.Outside = codes "outside"
why_name why.Windows = codes "windows"
why_name why.Pixels = codes "pixels"
why_name why.Bytes = codes "bytes"
