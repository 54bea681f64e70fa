-- A text, line by line.
use Rattle.std.proofs.Common.{◌≡◌, ◌⊎◌, inl, inr, ℕ, zero, suc, ◌+◌, ◌-◌, ◌<◌, ◌≤◌, Bool, true, false, Option, Some, None, Result, Ok, Err, List, [], ◌∷◌, ◌++◌, length, take, drop, get_or, cond, leb, ltb, refl, sym, ap, ◌∙◌, arith, subst}
use Rattle.std.specs.Option.{option_map, option_or}
use Rattle.std.specs.List.{position_or_len}
use Rattle.std.specs.Prelude.{position, not}
use Rattle.std.proofs.lemmas.Bool.{cases_lt, le-leb, lt-leb, leb-true, le-ltb, lt-ltb}
use Rattle.std.proofs.lemmas.List.{take_more, append-nil, append_assoc}
use Rattle.std.proofs.lemmas.Grind.{common_steps}
use Rattle.script_lines.specs.declared.why.Why.{Why}
use Rattle.script_lines.specs.declared.why.Why.TheVariants as why
use Rattle.script_lines.specs.declared.line.Line.{Line}
use Rattle.script_lines.specs.declared.reading.LineError.{LineError}
use Rattle.script_lines.specs.declared.reading.LineError.TheVariants as error
use Rattle.script_lines.specs.Text.{lines_of}
use Rattle.script_lines.specs.Forms.{text_line}
use Rattle.script_lines.specs.Reading.{Gives as OneGives}
use Rattle.paint_script.specs.Faults.{fault_after}
use Rattle.paint_script.specs.declared.fault.ScriptFault.{ScriptFault}
use Rattle.paint_script.specs.Text.{made, made_of, own_fault, line_fault, fault_at, first_fault, unless, script_of, Fails, Takes, failed_at, is_plan, first_plan_line}
use Rattle.paint_script.specs.Laws.{IsScriptOf, IsFaultOf, IsTooLong, ScriptsOfTexts}

-- ---- the first fault

abbrev pub fault_with : ℕ → Why → ScriptFault
fault_with place why = record { line = place + 1; why = why }

more_none : (texts : List (List ℕ)) (place : ℕ) → first_fault texts place ≡ None → fault_at texts place ≡ None → first_fault texts (suc place) ≡ None
unfolding first_fault
more_none texts place before here = rw before (rw here refl)

more_some : (texts : List (List ℕ)) (place : ℕ) (w : Why) → first_fault texts place ≡ None → fault_at texts place ≡ Some w
    → first_fault texts (suc place) ≡ Some (record { line = place + 1; why = w })
unfolding first_fault
more_some texts place w before here = rw before (rw here refl)

later_some : (texts : List (List ℕ)) (place more : ℕ) (fault : ScriptFault) → first_fault texts place ≡ Some fault → first_fault texts (more + place) ≡ Some fault
unfolding first_fault
later_some texts place zero fault is = let same : zero + place ≡ place = omega arith in ap (first_fault texts) same ∙ is
later_some texts place (suc more) fault is =
    let next : suc more + place ≡ suc (more + place) = omega arith in
    ap (first_fault texts) next ∙ ap (λ o. option_or o (option_map (fault_with (more + place)) (fault_at texts (more + place)))) (later_some texts place more fault is)

first_none : (o : Option ScriptFault) (next : Option ScriptFault) → option_or o next ≡ None → (o ≡ None) × (next ≡ None)
first_none None next e = (refl, e)
first_none (Some fault) next e = absurd cc

unmapped_none : (place : ℕ) (o : Option Why) → option_map (fault_with place) o ≡ None → o ≡ None
unmapped_none place None e = refl
unmapped_none place (Some w) e = absurd cc

none_before : (texts : List (List ℕ)) (count : ℕ) → first_fault texts count ≡ None → (place : ℕ) → place < count → fault_at texts place ≡ None
unfolding first_fault
none_before texts zero none place within = absurd (omega arith)
none_before texts (suc count) none place within =
    let parts = first_none (first_fault texts count) (option_map (fault_with count) (fault_at texts count)) none in
    elim (cases_lt place count) [
      | inl before ↦ none_before texts count parts.0 place before
      | inr past ↦ let last : count ≡ place = omega (arith, past, within) in subst (λ n. fault_at texts n ≡ None) last (unmapped_none count (fault_at texts count) parts.1)
    ]

none_at_first : (texts : List (List ℕ)) → first_fault texts zero ≡ None
unfolding first_fault
none_at_first texts = refl

none_from : (texts : List (List ℕ)) (count : ℕ) → ((place : ℕ) → place < count → fault_at texts place ≡ None) → first_fault texts count ≡ None
none_from texts zero each = none_at_first texts
none_from texts (suc count) each = more_none texts count (none_from texts count (λ place within. each place (omega arith))) (each count (omega arith))

-- ---- scripts

script_short : (text : List ℕ) → length text ≤ 33554432 → script_of text ≡ unless (first_fault (lines_of text) (length (lines_of text))) (made_of (lines_of text))
unfolding script_of
script_short text short = ap (λ b. cond b (unless (first_fault (lines_of text) (length (lines_of text))) (made_of (lines_of text))) (Err (record { line = 0; why = why.Bytes }))) (le-leb (length text) 33554432 short)

pub script_long : (text : List ℕ) → 33554432 < length text → script_of text ≡ Err (record { line = 0; why = why.Bytes })
unfolding script_of
script_long text long = ap (λ b. cond b (unless (first_fault (lines_of text) (length (lines_of text))) (made_of (lines_of text))) (Err (record { line = 0; why = why.Bytes }))) (lt-leb (length text) 33554432 long)

fault_stays : (text : List ℕ) (place : ℕ) (w : Why) → length text ≤ 33554432 → place < length (lines_of text) → first_fault (lines_of text) place ≡ None → fault_at (lines_of text) place ≡ Some w
    → script_of text ≡ Err (record { line = place + 1; why = w })
fault_stays text place w short within before here =
    let texts = lines_of text in
    let rest : (length texts - suc place) + suc place ≡ length texts = omega arith in
    let first : first_fault texts (length texts) ≡ Some (record { line = place + 1; why = w }) =
    ap (first_fault texts) (sym rest) ∙ later_some texts (suc place) (length texts - suc place) (record { line = place + 1; why = w }) (more_some texts place w before here) in
    script_short text short ∙ ap (λ o. unless o (made_of texts)) first

-- ---- what is known once so many lines were read

pub record IsRead (text : List ℕ) (reader : List Line) (place : ℕ) (rest : List ℕ) : Type 0 where
  pub lines : reader ≡ made_of (take place (lines_of text))
  pub faultless : first_fault (lines_of text) place ≡ None
  pub left : drop place (lines_of text) ≡ lines_of rest
  pub within : place ≤ length (lines_of text)
  pub few : place + length rest ≤ length text

pub read_none : (text : List ℕ) → IsRead text [] 0 text
unfolding made_of first_fault
read_none text = record { lines = refl; faultless = refl; left = refl; within = omega arith; few = omega arith }

module _ {A : Type 0} where
  drop_within : (xs : List A) (k : ℕ) (x : A) (rest : List A) → drop k xs ≡ x ∷ rest → k < length xs
  drop_within [] zero x rest e = absurd cc
  drop_within [] (suc k) x rest e = absurd cc
  drop_within (y ∷ xs) zero x rest e = omega arith
  drop_within (y ∷ xs) (suc k) x rest e = omega (arith, drop_within xs k x rest e)

  drop_here : (xs : List A) (k : ℕ) (x d : A) (rest : List A) → drop k xs ≡ x ∷ rest → get_or xs k d ≡ x
  drop_here [] zero x d rest e = absurd cc
  drop_here [] (suc k) x d rest e = absurd cc
  drop_here (y ∷ xs) zero x d rest e = cc
  drop_here (y ∷ xs) (suc k) x d rest e = drop_here xs k x d rest e

  drop_next : (xs : List A) (k : ℕ) (x : A) (rest : List A) → drop k xs ≡ x ∷ rest → drop (suc k) xs ≡ rest
  drop_next [] zero x rest e = absurd cc
  drop_next [] (suc k) x rest e = absurd cc
  drop_next (y ∷ xs) zero x rest e = cc
  drop_next (y ∷ xs) (suc k) x rest e = drop_next xs k x rest e

  drop_none : (xs : List A) (k : ℕ) → drop k xs ≡ [] → length xs ≤ k
  drop_none [] k e = omega arith
  drop_none (y ∷ xs) zero e = absurd cc
  drop_none (y ∷ xs) (suc k) e = omega (arith, drop_none xs k e)

  take-all : (xs : List A) (k : ℕ) → length xs ≤ k → take k xs ≡ xs
  take-all xs k past = grind (arith, common_steps)

made_of-append : (texts more : List (List ℕ)) → made_of (texts ++ more) ≡ made_of texts ++ made_of more
unfolding made_of
made_of-append [] more = refl
made_of-append (text ∷ texts) more = ap (λ ls. made (text_line text) ++ ls) (made_of-append texts more) ∙ sym (append_assoc (made (text_line text)) (made_of texts) (made_of more))

made_of-one : (text : List ℕ) → made_of (text ∷ []) ≡ made (text_line text)
unfolding made_of
made_of-one text = append-nil (made (text_line text))

fault_here : (text : List ℕ) (reader : List Line) (place : ℕ) (rest line after : List ℕ) → IsRead text reader place rest → lines_of rest ≡ line ∷ lines_of after
    → fault_at (lines_of text) place ≡ line_fault reader place line
unfolding fault_at
fault_here text reader place rest line after is cut =
    ap (λ (ls : List Line). line_fault ls place (get_or (lines_of text) place [])) (sym is.lines)
    ∙ ap (line_fault reader place) (drop_here (lines_of text) place line [] (lines_of after) (is.left ∙ cut))

pub read_more : (text : List ℕ) (reader lines : List Line) (place : ℕ) (rest line after : List ℕ) → IsRead text reader place rest → lines_of rest ≡ line ∷ lines_of after
    → length after < length rest → Takes reader place line (Ok lines) → IsRead text lines (place + 1) after
read_more text reader lines place rest line after is cut less taken =
    let texts = lines_of text in
    let next : suc place ≡ place + 1 = omega arith in
    let within = drop_within texts place line (lines_of after) (is.left ∙ cut) in
    let more : take (place + 1) texts ≡ take place texts ++ line ∷ [] =
    take_more texts place [] within ∙ ap (λ l. take place texts ++ l ∷ []) (drop_here texts place line [] (lines_of after) (is.left ∙ cut)) in
    record {
      lines = taken.1 ∙ ap (λ (ls : List Line). ls ++ made (text_line line)) is.lines ∙ ap (λ (ls : List Line). made_of (take place texts) ++ ls) (sym (made_of-one line))
          ∙ sym (made_of-append (take place texts) (line ∷ [])) ∙ ap made_of (sym more);
      faultless = ap (first_fault texts) (sym next) ∙ more_none texts place is.faultless (fault_here text reader place rest line after is cut ∙ taken.0);
      left = ap (λ n. drop n texts) (sym next) ∙ drop_next texts place line (lines_of after) (is.left ∙ cut);
      within = omega (arith, within);
      few = omega (arith, is.few, less);
    }

pub read_fails : (text : List ℕ) (reader : List Line) (place : ℕ) (rest line after : List ℕ) (e : LineError) → length text ≤ 33554432 → IsRead text reader place rest
    → lines_of rest ≡ line ∷ lines_of after → Takes reader place line (Err e) → Fails (failed_at e (place + 1)) (script_of text)
read_fails text reader place rest line after error.Memory short is cut taken = tt
read_fails text reader place rest line after (error.Fault w) short is cut taken =
    fault_stays text place w short (drop_within (lines_of text) place line (lines_of after) (is.left ∙ cut)) is.faultless (fault_here text reader place rest line after is cut ∙ taken)

pub read_all : (text : List ℕ) (reader : List Line) (place : ℕ) (rest : List ℕ) → length text ≤ 33554432 → IsRead text reader place rest → rest ≡ [] → script_of text ≡ Ok reader
read_all text reader place rest short is none =
    let texts = lines_of text in
    let past = drop_none texts place (is.left ∙ ap lines_of none) in
    let all : place ≡ length texts = omega (arith, past, is.within) in
    script_short text short ∙ ap (λ o. unless o (made_of texts)) (ap (first_fault texts) (sym all) ∙ is.faultless)
    ∙ ap (λ (ls : List Line). Ok ls) (ap made_of (sym (take-all texts place past)) ∙ sym is.lines)

-- ---- which lines a text is, and which fault it has

unless_ok : (o : Option ScriptFault) (made_lines lines : List Line) → unless o made_lines ≡ Ok lines → (o ≡ None) × (lines ≡ made_lines)
unless_ok None made_lines lines e = (refl, cc)
unless_ok (Some fault) made_lines lines e = absurd cc

chosen_ok : (b : Bool) (r : Result (List Line) ScriptFault) (fault : ScriptFault) (lines : List Line) → cond b r (Err fault) ≡ Ok lines → (b ≡ true) × (r ≡ Ok lines)
chosen_ok true r fault lines e = (refl, e)
chosen_ok false r fault lines e = absurd cc

read_is : (text : List ℕ) (lines : List Line) → script_of text ≡ Ok lines → IsScriptOf text lines
unfolding script_of
read_is text lines e =
    let a = chosen_ok (leb (length text) 33554432) (unless (first_fault (lines_of text) (length (lines_of text))) (made_of (lines_of text))) (record { line = 0; why = why.Bytes }) lines e in
    let b = unless_ok (first_fault (lines_of text) (length (lines_of text))) (made_of (lines_of text)) lines a.1 in
    record { short = leb-true (length text) 33554432 a.0; faultless = none_before (lines_of text) (length (lines_of text)) b.0; made = b.1 }

read_only : (text : List ℕ) (lines : List Line) → IsScriptOf text lines → script_of text ≡ Ok lines
read_only text lines is =
    script_short text is.short ∙ ap (λ o. unless o (made_of (lines_of text))) (none_from (lines_of text) (length (lines_of text)) is.faultless) ∙ ap (λ (ls : List Line). Ok ls) (sym is.made)

fault_is : (text : List ℕ) (place : ℕ) (fault : ScriptFault) → IsFaultOf text place fault → script_of text ≡ Err fault
fault_is text place fault is =
    fault_stays text place fault.why is.short is.there (none_from (lines_of text) place is.first) is.is ∙ ap (λ n. Err (record { line = n; why = fault.why })) (sym is.number)

err_same : (a b : ScriptFault) → ◌≡◌ {A = Result (List Line) ScriptFault} (Err a) (Err b) → b ≡ a
err_same a b e = cc

long_is : (text : List ℕ) (fault : ScriptFault) → IsTooLong text fault → script_of text ≡ Err fault
long_is text fault is = script_long text is.long ∙ ap (λ (f : ScriptFault). Err f) (sym is.is)

-- the first fault of so many lines, by the line that it names
record IsFirst (texts : List (List ℕ)) (count : ℕ) (fault : ScriptFault) : Type 0 where
  within : fault.line - 1 < count
  number : fault.line ≡ (fault.line - 1) + 1
  is : fault_at texts (fault.line - 1) ≡ Some fault.why
  first : (before : ℕ) → before < fault.line - 1 → fault_at texts before ≡ None

first_here : (texts : List (List ℕ)) (count : ℕ) (w : Why) → first_fault texts count ≡ None → fault_at texts count ≡ Some w → IsFirst texts (suc count) (fault_with count w)
first_here texts count w none here =
    let place : (count + 1) - 1 ≡ count = omega arith in
    record {
      within = omega arith;
      number = omega arith;
      is = ap (fault_at texts) place ∙ here;
      first = λ before less. none_before texts count none before (omega (arith, less));
    }

here_or : (texts : List (List ℕ)) (count : ℕ) (fault : ScriptFault) (o : Option Why) → first_fault texts count ≡ None → fault_at texts count ≡ o → option_map (fault_with count) o ≡ Some fault
    → IsFirst texts (suc count) fault
here_or texts count fault None none here e = absurd cc
here_or texts count fault (Some w) none here e = let same : fault_with count w ≡ fault = cc in subst (λ (f : ScriptFault). IsFirst texts (suc count) f) same (first_here texts count w none here)

wider : (texts : List (List ℕ)) (count : ℕ) (fault : ScriptFault) → IsFirst texts count fault → IsFirst texts (suc count) fault
wider texts count fault is = record { within = omega (arith, is.within); number = is.number; is = is.is; first = is.first }

first_or : (texts : List (List ℕ)) (count : ℕ) (fault : ScriptFault) (o : Option ScriptFault) → first_fault texts count ≡ o → option_or o (option_map (fault_with count) (fault_at texts count)) ≡ Some fault
    → ((g : ScriptFault) → first_fault texts count ≡ Some g → IsFirst texts count g) → IsFirst texts (suc count) fault
first_or texts count fault None none e before = here_or texts count fault (fault_at texts count) none refl e
first_or texts count fault (Some g) is e before = let same : g ≡ fault = cc in subst (λ (f : ScriptFault). IsFirst texts (suc count) f) same (wider texts count g (before g is))

some_first : (texts : List (List ℕ)) (count : ℕ) (fault : ScriptFault) → first_fault texts count ≡ Some fault → IsFirst texts count fault
unfolding first_fault
some_first texts zero fault e = absurd cc
some_first texts (suc count) fault e = first_or texts count fault (first_fault texts count) refl e (λ g is. some_first texts count g is)

unless_err : (o : Option ScriptFault) (made_lines : List Line) (fault : ScriptFault) → unless o made_lines ≡ Err fault → o ≡ Some fault
unless_err None made_lines fault e = absurd cc
unless_err (Some f) made_lines fault e = cc

refused_is : (text : List ℕ) (fault : ScriptFault) → script_of text ≡ Err fault → IsTooLong text fault ⊎ IsFaultOf text (fault.line - 1) fault
refused_is text fault e = elim (cases_lt 33554432 (length text)) [
  | inl long ↦ inl (record { long = long; is = err_same _ fault (sym (script_long text long) ∙ e) })
  | inr short ↦
      let first = some_first (lines_of text) (length (lines_of text)) fault (unless_err (first_fault (lines_of text) (length (lines_of text))) (made_of (lines_of text)) fault (sym (script_short text short) ∙ e)) in
      inr (record { short = short; there = first.within; number = first.number; is = first.is; first = first.first })
]

pub scripts_of_texts_lem : ScriptsOfTexts
scripts_of_texts_lem = record { read = read_is; only = read_only; fault = fault_is; long = long_is; refused = refused_is }

-- ---- the first plan line

-- no line of the first so many is a plan line
pub record IsSearched (text : List ℕ) (number : ℕ) (rest : List ℕ) : Type 0 where
  pub found : position (λ line. is_plan (text_line line)) (lines_of text) ≡ option_map (λ place. place + number) (position (λ line. is_plan (text_line line)) (lines_of rest))
  pub few : number + length rest ≤ length text

place_after : (k n : ℕ) → cond (ltb (1 + k) (suc n)) (Some (1 + k)) None ≡ option_map (λ place. place + 1) (cond (ltb k n) (Some k) None)
place_after k n = elim (cases_lt k n) [
  | inl before ↦ rw (lt-ltb k n before) (rw (lt-ltb (1 + k) (suc n) (omega (arith, before))) (ap Some (omega arith)))
  | inr past ↦ rw (le-ltb k n past) (rw (le-ltb (1 + k) (suc n) (omega (arith, past))) refl)
]

position-cons : {A : Type 0} (p : A → Bool) (x : A) (xs : List A) → position p (x ∷ xs) ≡ cond (p x) (Some 0) (option_map (λ place. place + 1) (position p xs))
position-cons p x xs =
    elim (p x) as (λ b. cond (ltb (cond (not b) (1 + position_or_len p xs) 0) (suc (length xs))) (Some (cond (not b) (1 + position_or_len p xs) 0)) None ≡ cond b (Some 0) (option_map (λ place. place + 1) (position p xs))) [
      | true ↦ rw (lt-ltb 0 (suc (length xs)) (omega arith)) refl
      | false ↦ place_after (position_or_len p xs) (length xs)
    ]

pub searched_none : (text : List ℕ) → IsSearched text 0 text
searched_none text = record { found = sym (add_none (position (λ line. is_plan (text_line line)) (lines_of text))); few = omega arith }
  where
    add_none : (o : Option ℕ) → option_map (λ place. place + 0) o ≡ o
    add_none None = refl
    add_none (Some n) = ap Some (omega arith)

pub searched_more : (text : List ℕ) (number : ℕ) (rest line after : List ℕ) → IsSearched text number rest → lines_of rest ≡ line ∷ lines_of after → length after < length rest
    → is_plan (text_line line) ≡ false → IsSearched text (number + 1) after
searched_more text number rest line after is cut less not = record {
  found = is.found ∙ ap (λ ls. option_map (λ place. place + number) (position (λ l. is_plan (text_line l)) ls)) cut
      ∙ ap (option_map (λ place. place + number)) (position-cons (λ l. is_plan (text_line l)) line (lines_of after) ∙ ap (λ b. cond b (Some 0) (option_map (λ place. place + 1) (position (λ l. is_plan (text_line l)) (lines_of after)))) not)
      ∙ add_both (position (λ l. is_plan (text_line l)) (lines_of after));
  few = omega (arith, is.few, less);
}
  where
    add_both : (o : Option ℕ) → option_map (λ place. place + number) (option_map (λ place. place + 1) o) ≡ option_map (λ place. place + (number + 1)) o
    add_both None = refl
    add_both (Some n) = ap Some (omega arith)

pub searched_here : (text : List ℕ) (number : ℕ) (rest line after : List ℕ) → IsSearched text number rest → lines_of rest ≡ line ∷ lines_of after
    → is_plan (text_line line) ≡ true → Some (number + 1) ≡ first_plan_line text
unfolding first_plan_line
searched_here text number rest line after is cut here =
    sym (ap (option_map (λ place. place + 1)) (is.found ∙ ap (λ ls. option_map (λ place. place + number) (position (λ l. is_plan (text_line l)) ls)) cut
    ∙ ap (option_map (λ place. place + number)) (position-cons (λ l. is_plan (text_line l)) line (lines_of after) ∙ ap (λ b. cond b (Some 0) (option_map (λ place. place + 1) (position (λ l. is_plan (text_line l)) (lines_of after)))) here))
    ∙ ap Some (omega arith))

pub searched_all : (text : List ℕ) (number : ℕ) (rest : List ℕ) → IsSearched text number rest → rest ≡ [] → None ≡ first_plan_line text
unfolding first_plan_line
searched_all text number rest is none =
    sym (ap (option_map (λ place. place + 1)) (is.found ∙ ap (λ ls. option_map (λ place. place + number) (position (λ l. is_plan (text_line l)) (lines_of ls))) none))

-- ---- what the reader makes of one line

pub take_long : (before : List Line) (place : ℕ) (text : List ℕ) → 100000 ≤ place → line_fault before place text ≡ Some why.Lines
unfolding line_fault
take_long before place text long = ap (λ b. cond b (Some why.Lines) (own_fault before (text_line text))) (le-leb 100000 place long)

own : (before : List Line) (place : ℕ) (text : List ℕ) (r : Result (Option Line) Why) → place < 100000 → text_line text ≡ r → line_fault before place text ≡ own_fault before r
unfolding line_fault
own before place text r short is = ap (λ b. cond b (Some why.Lines) (own_fault before (text_line text))) (lt-leb 100000 place short) ∙ ap (own_fault before) is

pub take_fails : (before : List Line) (place : ℕ) (text : List ℕ) (e : LineError) → place < 100000 → OneGives (Err e) (text_line text) → Takes before place text (Err e)
take_fails before place text error.Memory short is = tt
take_fails before place text (error.Fault w) short is = own before place text (Err w) short is

pub take_none : (before : List Line) (place : ℕ) (text : List ℕ) → place < 100000 → text_line text ≡ Ok None
    → (line_fault before place text ≡ None) × (before ≡ before ++ made (text_line text))
take_none before place text short is = (own before place text (Ok None) short is, sym (append-nil before) ∙ ap (λ r. before ++ made r) (sym is))

pub take_refused : (before : List Line) (place : ℕ) (text : List ℕ) (next : Line) (w : Why) → place < 100000 → text_line text ≡ Ok (Some next) → fault_after before next ≡ Some w
    → line_fault before place text ≡ Some w
take_refused before place text next w short is fault = own before place text (Ok (Some next)) short is ∙ fault

pub take_line : (before more : List Line) (place : ℕ) (text : List ℕ) (next : Line) → place < 100000 → text_line text ≡ Ok (Some next) → fault_after before next ≡ None → more ≡ before ++ next ∷ []
    → (line_fault before place text ≡ None) × (more ≡ before ++ made (text_line text))
take_line before more place text next short is none pushed = (own before place text (Ok (Some next)) short is ∙ none, pushed ∙ ap (λ r. before ++ made r) (sym is))
