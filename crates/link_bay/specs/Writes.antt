-- One entry a write, in place of one a byte.
use Rattle.std.specs.Prelude.{ℕ, List, [], ◌∷◌, ◌++◌, replicate}
use Rattle.link_bay.specs.declared.writes.Write.{Write}

-- for each byte taken, how many had been handed out by then
abbrev pub heard_of : List Write → List ℕ
heard_of [] = []
heard_of (w ∷ writes) = replicate w.taken w.given ++ heard_of writes
