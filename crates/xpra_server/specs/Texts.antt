-- The texts that the program prints. This project's own; each line ends with the byte 10.
use Rattle.std.specs.Prelude.{ℕ, List, [], ◌∷◌, ◌++◌, codes}
use Rattle.std.specs.Fmt.{decimal}

-- the usage line
abbrev pub usage_line : List ℕ
usage_line = codes "usage: xpra_server play | replay | gen N | crowd N | serve ADDR | view ADDR" ++ 10 ∷ []

-- the fault line of a script
abbrev pub fault_line : ℕ → List ℕ
fault_line number = codes "script line " ++ decimal number ++ codes ": unbuilt" ++ 10 ∷ []
