-- Words taken one after the other, each as its place wants it: what the reader of a line has in hand on its way.
use Rattle.std.specs.Prelude.{ℕ, ◌==◌, nat_le, if◌then◌else◌, Option, Some, None, Result, Ok, Err, List, [], ◌∷◌, length}
use Rattle.script_lines.specs.declared.why.Why.{Why}
use Rattle.script_lines.specs.declared.why.Why.TheVariants as why
use Rattle.script_lines.specs.Arguments.{Argument, is_spelled, is_within, judged}

-- what a word comes to at such a place; none is a word too few
abbrev pub first : {A : Type 0} → Argument → (List ℕ → A) → Option (List ℕ) → Result A Why
first argument a None = Err why.Count
first argument a (Some word) = judged (is_spelled argument word) (is_within argument word) (a word)

-- where the faults of words stand in the table
abbrev pub rank : Why → ℕ
rank why.Count = 0
rank why.Number = 1
rank _ = 2

-- both, or the earlier fault of the table
abbrev pub both : {A B : Type 0} → Result A Why → Result B Why → Result (A × B) Why
both (Ok a) (Ok b) = Ok (a, b)
both (Ok a) (Err w) = Err w
both (Err v) (Ok b) = Err v
both (Err v) (Err w) = Err (if nat_le (rank v) (rank w) then v else w)

-- that, where no words are left
abbrev pub only : {A : Type 0} → Result A Why → List (List ℕ) → Result A Why
only a words = if length words == 0 then a else Err why.Count

-- a word that stands for nothing but itself
abbrev pub nothing : List ℕ → Unit {0}
nothing word = tt

abbrev pub no_value : List (List ℕ) → Unit {0}
no_value words = tt
