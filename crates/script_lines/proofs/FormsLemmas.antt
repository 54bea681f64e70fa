-- A line of a kind, by what its words come to.
use Rattle.std.proofs.Common.{◌≡◌, ℕ, ◌^◌, ◌<◌, ◌≤◌, Option, Some, None, Result, Ok, Err, List, [], ◌∷◌, length, refl, sym, ap, ◌∙◌, arith}
use Rattle.std.specs.Prelude.{IfSome}
use Rattle.script_lines.specs.declared.why.Why.{Why}
use Rattle.script_lines.specs.declared.line.Line.{Line}
use Rattle.script_lines.specs.declared.paint.Paint.{Paint}
use Rattle.script_lines.specs.Arguments.{Argument, read}
use Rattle.script_lines.specs.Reading.{Gives}
use Rattle.script_lines.specs.declared.reading.LineError.{LineError}
use Rattle.script_lines.specs.declared.reading.LineError.TheVariants as error
use Rattle.script_lines.proofs.Digits.{numeral_small}
use Rattle.script_lines.proofs.PlacesLemmas.{read_ok, read_err}

pub small_if : (o : Option ℕ) (word : List ℕ) → length word ≤ 10 → IfSome o (λ n. n < 16 ^ length word) → IfSome o (λ n. n < 2 ^ 40)
small_if None word short below = tt
small_if (Some n) word short below = numeral_small n word short below

-- a value of the words, where another one was read
pub made : {A B : Type 0} (places : List Argument) (v : List (List ℕ) → A) (f : A → B) (u : List (List ℕ) → B) (ws : List (List ℕ)) (x : A) (r : Result A Why)
    → ((words : List (List ℕ)) → f (v words) ≡ u words) → r ≡ read places v ws → r ≡ Ok x → Ok (f x) ≡ read places u ws
made places v f u ws x r same is ok =
    let e = read_ok places v u ws x (sym is ∙ ok) in
    sym (e.0 ∙ ap Ok (sym (same ws) ∙ ap f e.1))

pub not_made : {A B : Type 0} (places : List Argument) (v : List (List ℕ) → A) (u : List (List ℕ) → B) (ws : List (List ℕ)) (w : Why) (r : Result A Why)
    → r ≡ read places v ws → r ≡ Err w → Err w ≡ read places u ws
not_made places v u ws w r is err = sym (read_err places v u ws w (sym is ∙ err))

-- the same, where memory may run out
pub gives_made : {A B : Type 0} (places : List Argument) (v : List (List ℕ) → A) (f : A → B) (u : List (List ℕ) → B) (ws : List (List ℕ)) (x : A) (r : Result A LineError)
    → ((words : List (List ℕ)) → f (v words) ≡ u words) → Gives r (read places v ws) → r ≡ Ok x → read places u ws ≡ Ok (f x)
gives_made places v f u ws x (Ok y) same is ok =
    let e = read_ok places v u ws y is in
    e.0 ∙ ap Ok (sym (same ws) ∙ ap f (e.1 ∙ cc))
gives_made places v f u ws x (Err e) same is ok = absurd cc

pub gives_not : {A B : Type 0} (places : List Argument) (v : List (List ℕ) → A) (u : List (List ℕ) → B) (ws : List (List ℕ)) (e : LineError) (r : Result A LineError)
    → Gives r (read places v ws) → r ≡ Err e → Gives {A = B} (Err e) (read places u ws)
gives_not places v u ws e (Ok y) is err = absurd cc
gives_not places v u ws error.Memory (Err d) is err = tt
gives_not places v u ws (error.Fault w) (Err (error.Fault w')) is err = read_err places v u ws w (is ∙ ap (λ (t : Why). Err t) cc)
gives_not places v u ws (error.Fault w) (Err error.Memory) is err = absurd cc
