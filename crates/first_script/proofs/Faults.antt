-- Which lines are read from a text, and which fault.
use Rattle.std.proofs.Common.{◌≡◌, inl, inr, ℕ, ◌+◌, Bool, true, false, Option, Some, None, Result, Ok, Err, List, [], ◌∷◌, ◌++◌, length, take, map, cond, leb, refl, sym, ap, ◌∙◌, append_assoc, subst}
use Rattle.std.specs.List.{slice_get}
use Rattle.std.proofs.lemmas.Bool.{leb-true, leb-false}
use Rattle.std.proofs.lemmas.Option.{same_Some, none-some}
use Rattle.std.proofs.lemmas.List.{append-nil}
use Rattle.first_script.specs.declared.line.Line.{Line}
use Rattle.first_script.specs.Text.{lines_of}
use Rattle.first_script.specs.Forms.{line_of}
use Rattle.first_script.specs.Reading.{◌>>=◌, may_follow, allowed, next_line, script_after, script_of}
use Rattle.first_script.specs.Laws.{AreFollowing, IsScriptOf, IsWrongAfter, IsFaultOf, ScriptsOfTexts}
use Rattle.first_script.proofs.Steps.{next_taken, script_more, script_ends, script_whole}
use Rattle.first_script.proofs.Scripts.{bind_ok, next_is}

-- lines after these
abbrev IsRead : List Line → List (List ℕ) → List Line → Type 0
IsRead before texts lines = (more : List Line) × (lines ≡ before ++ more) × (map line_of texts ≡ map Some more) × AreFollowing before more

pairs : {A : Type 0} (a b : A) (xs ys : List A) → a ≡ b → xs ≡ ys → a ∷ xs ≡ b ∷ ys
pairs a b xs ys p q = cc

read_after : (texts : List (List ℕ)) (before lines : List Line) → script_after before texts ≡ Ok lines → IsRead before texts lines
unfolding script_after
read_after [] before lines e = let is : before ≡ lines = cc in ([], sym is ∙ sym (append-nil before), refl, tt)
read_after (text ∷ texts) before lines e =
    let a = bind_ok _ (next_line before text) lines e in
    let t = next_is before text a.0 a.1 in
    let rest = read_after texts (before ++ a.0 ∷ []) lines a.2 in
    (a.0 ∷ rest.0, rest.1 ∙ append_assoc before (a.0 ∷ []) rest.0, pairs (line_of text) (Some a.0) (map line_of texts) (map Some rest.0) t.0 rest.2, (t.1, rest.3))

first_same : {A : Type 0} (a b : A) (xs ys : List A) → a ∷ xs ≡ b ∷ ys → (a ≡ b) × (xs ≡ ys)
first_same a b xs ys e = (cc, cc)

only_after : (texts : List (List ℕ)) (before more : List Line) → map line_of texts ≡ map Some more → AreFollowing before more
    → script_after before texts ≡ Ok (before ++ more)
only_after [] before [] forms follow = script_ends before ∙ ap Ok (sym (append-nil before))
only_after [] before (next ∷ more) forms follow = absurd cc
only_after (text ∷ texts) before [] forms follow = absurd cc
only_after (text ∷ texts) before (next ∷ more) forms follow =
    let same = first_same (line_of text) (Some next) (map line_of texts) (map Some more) forms in
    script_more before text texts next (next_taken before text next same.0 follow.0) ∙ only_after texts (before ++ next ∷ []) more same.1 follow.1
    ∙ ap Ok (append_assoc before (next ∷ []) more)

-- the first wrong line after these
abbrev IsFault : List Line → List (List ℕ) → ℕ → Type 0
IsFault before texts number = (more : List Line) × (number ≡ length (before ++ more) + 1) × (map line_of (take (length more) texts) ≡ map Some more)
    × AreFollowing before more × IsWrongAfter (before ++ more) (slice_get texts (length more))

refused : (before : List Line) (o : Option Line) (number : ℕ) → allowed before o ≡ Err number
    → (number ≡ length before + 1) × ((next : Line) → o ≡ Some next → may_follow before next ≡ false)
refused before None number e = (cc, λ next is. absurd (none-some next is))
refused before (Some line) number e = refused_is (may_follow before line) refl e
  where
    refused_is : (b : Bool) → may_follow before line ≡ b → cond b (Ok line) (Err (length before + 1)) ≡ Err number
        → (number ≡ length before + 1) × ((next : Line) → Some line ≡ Some next → may_follow before next ≡ false)
    refused_is true may e = absurd cc
    refused_is false may e = (cc, λ next is. subst (λ l. may_follow before l ≡ false) (same_Some line next is) may)

next_refused_is : (before : List Line) (text : List ℕ) (number : ℕ) → next_line before text ≡ Err number → (number ≡ length before + 1) × IsWrongAfter before (Some text)
unfolding next_line
next_refused_is before text number e = refused before (line_of text) number e

fault_by : (text : List ℕ) (texts : List (List ℕ)) (before : List Line) (number : ℕ) (r : Result Line ℕ) → next_line before text ≡ r
    → ((next : Line) → script_after (before ++ next ∷ []) texts ≡ Err number → IsFault (before ++ next ∷ []) texts number)
    → (r >>= λ next. script_after (before ++ next ∷ []) texts) ≡ Err number → IsFault before (text ∷ texts) number
fault_by text texts before number (Err wrong) is later e =
    let same : wrong ≡ number = cc in
    let no = next_refused_is before text wrong is in
    let whole = sym (append-nil before) in
    ([], sym same ∙ no.0 ∙ ap (λ (l : List Line). length l + 1) whole, refl, tt, subst (λ l. IsWrongAfter l (Some text)) whole no.1)
fault_by text texts before number (Ok next) is later e =
    let t = next_is before text next is in
    let rest = later next e in
    let whole = append_assoc before (next ∷ []) rest.0 in (
      next ∷ rest.0,
      rest.1 ∙ ap (λ (l : List Line). length l + 1) whole,
      pairs (line_of text) (Some next) (map line_of (take (length rest.0) texts)) (map Some rest.0) t.0 rest.2,
      (t.1, rest.3),
      subst (λ l. IsWrongAfter l (slice_get texts (length rest.0))) whole rest.4,
    )

fault_after : (texts : List (List ℕ)) (before : List Line) (number : ℕ) → script_after before texts ≡ Err number → IsFault before texts number
unfolding script_after
fault_after [] before number e = absurd cc
fault_after (text ∷ texts) before number e =
    fault_by text texts before number (next_line before text) refl (λ next. fault_after texts (before ++ next ∷ []) number) e

read_whole : (text : List ℕ) (lines : List Line) (b : Bool) → leb (length text) 65536 ≡ b → cond b (script_after [] (lines_of text)) (Err 0) ≡ Ok lines → IsScriptOf text lines
read_whole text lines true short e =
    let r = read_after (lines_of text) [] lines e in
    record { short = leb-true (length text) 65536 short; forms = r.2 ∙ ap (map Some) (sym r.1); follow = subst (AreFollowing []) (sym r.1) r.3 }
read_whole text lines false long e = absurd cc

fault_whole : (text : List ℕ) (number : ℕ) (b : Bool) → leb (length text) 65536 ≡ b → cond b (script_after [] (lines_of text)) (Err 0) ≡ Err number → IsFaultOf text number
fault_whole text number true short e =
    let f = fault_after (lines_of text) [] number e in
    inr (f.0, f.1, record { short = leb-true (length text) 65536 short; forms = f.2; follow = f.3; wrong = f.4 })
fault_whole text number false long e = let is : 0 ≡ number = cc in inl (sym is, leb-false (length text) 65536 long)

pub scripts_of_texts_lem : ScriptsOfTexts
unfolding script_of
scripts_of_texts_lem = record {
  read = λ text lines e. read_whole text lines (leb (length text) 65536) refl e;
  only = λ text lines is. script_whole text is.short ∙ only_after (lines_of text) [] lines is.forms is.follow;
  fault = λ text number e. fault_whole text number (leb (length text) 65536) refl e;
}
