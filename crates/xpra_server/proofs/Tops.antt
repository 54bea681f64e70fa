-- From the input that was read to what was written.
use Rattle.std.proofs.Common.{◌≡◌, ℕ, ◌+◌, ◌<◌, Option, Result, Some, None, Ok, Err, List, [], ◌++◌, length, refl, sym, ap, ◌∙◌, arith}
use Rattle.std.proofs.lemmas.List.{append-nil, length-append}
use Rattle.std.proofs.lemmas.Bool.Decides.{nat_tests}
use Rattle.xp_base.specs.Told.{told_append, HandsOut, HasNoneLeft}
use Rattle.first_script.specs.declared.line.Line.{Line}
use Rattle.first_script.specs.Reading.{script_of}
use Rattle.first_script.specs.Validity.{paint_lines}
use Rattle.first_script.specs.Painting.{last_desk}
use Rattle.client_connection.specs.declared.ends.End.{End}
use Rattle.xpra_server.specs.Read.{ReadsPast}
use Rattle.xpra_server.specs.Report.{report}
use Rattle.xpra_server.specs.Texts.{fault_line}
use Rattle.xpra_server.specs.Statuses.{Faults, IsPrinted, WritesPartOf, WritesPart}

-- what was read to its end is all that was left
pub all_read : (bytes rest text : List ℕ) → bytes ≡ text ++ rest → rest ≡ [] → bytes ≡ text
all_read bytes rest text is none = is ∙ ap (λ r. text ++ r) none ∙ append-nil text

pub long_script : (text : List ℕ) → 65536 < length text → script_of text ≡ Err 0
unfolding script_of
long_script text long = grind (arith, nat_tests)

-- where more than the limit was read, more than the limit was left
pub long_left : (bytes rest text : List ℕ) → bytes ≡ text ++ rest → 65536 < length text → 65536 < length bytes
long_left bytes rest text is long = let counted : length bytes ≡ length text + length rest = ap length is ∙ length-append text rest in omega arith

pub faults_long : (left left' taken taken' : Option (List ℕ)) → ReadsPast 65536 left left' → taken' ≡ told_append taken (fault_line 0) → Faults left taken taken'
faults_long None left' taken taken' past wrote = tt
faults_long (Some bytes) None taken taken' past wrote = absurd past.1
faults_long (Some bytes) (Some rest) taken taken' past wrote = (fault_line 0, rw (long_script bytes (long_left bytes rest past.0 past.1 past.2)) refl, wrote)

-- nothing was written
nothing : (text : List ℕ) (taken : Option (List ℕ)) → WritesPartOf text taken taken
nothing text None = (0, omega arith, refl)
nothing text (Some taken) = (0, omega arith, ap (λ (xs : List ℕ). Some xs) (sym (append-nil taken)))

pub nothing_printed : (left : Option (List ℕ)) (ends : List End) (taken : Option (List ℕ)) → WritesPart left ends taken taken
nothing_printed None ends taken = (fault_line 0, (Err 0, refl), nothing (fault_line 0) taken)
nothing_printed (Some text) ends taken = printed (script_of text)
  where
    printed : (judged : Result (List Line) ℕ) → (line : List ℕ) × IsPrinted judged ends line × WritesPartOf line taken taken
    printed (Ok lines) = (report (last_desk (paint_lines lines)) ends, refl, nothing (report (last_desk (paint_lines lines)) ends) taken)
    printed (Err number) = (fault_line number, refl, nothing (fault_line number) taken)

-- a part of what the text that was read prints
pub part_of_whole : (left left' : Option (List ℕ)) (text printed : List ℕ) (judged : Result (List Line) ℕ) (ends : List End) (taken taken' : Option (List ℕ))
    → HandsOut left left' text → HasNoneLeft left' → script_of text ≡ judged → IsPrinted judged ends printed → WritesPartOf printed taken taken' → WritesPart left ends taken taken'
part_of_whole None left' text printed judged ends taken taken' hands none is says part = (printed, (judged, says), part)
part_of_whole (Some bytes) None text printed judged ends taken taken' hands none is says part = absurd hands
part_of_whole (Some bytes) (Some rest) text printed judged ends taken taken' hands none is says part = (printed, rw (all_read bytes rest text hands none, is) says, part)

pub part_of_long : (left left' : Option (List ℕ)) (ends : List End) (taken taken' : Option (List ℕ)) → ReadsPast 65536 left left' → WritesPartOf (fault_line 0) taken taken' → WritesPart left ends taken taken'
part_of_long None left' ends taken taken' past part = (fault_line 0, (Err 0, refl), part)
part_of_long (Some bytes) None ends taken taken' past part = absurd past.1
part_of_long (Some bytes) (Some rest) ends taken taken' past part = (fault_line 0, rw (long_script bytes (long_left bytes rest past.0 past.1 past.2)) refl, part)
