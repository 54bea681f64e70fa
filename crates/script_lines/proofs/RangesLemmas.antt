-- The numbers of a line that was read are in their ranges.
use Rattle.std.proofs.Common.{◌≡◌, inl, inr, ℕ, zero, suc, ◌+◌, ◌*◌, ◌^◌, ◌%◌, ◌<◌, ◌≤◌, Bool, true, false, ◌&&◌, Option, Some, None, Result, Ok, Err, List, [], ◌∷◌, length, map, drop, cond, eqb, leb, ltb, refl, sym, ap, subst, ◌∙◌, arith}
use Rattle.std.specs.Prelude.{ℤ, pos, negsuc, ◌≤ℤ◌, int_le, is_some, All}
use Rattle.std.specs.Option.{unwrap_or}
use Rattle.std.specs.List.{list_all}
use Rattle.std.proofs.lemmas.Bool.{and_parts, leb-true, ltb-true, eqb-true}
use Rattle.std.proofs.lemmas.Int.{ints}
use Rattle.std.proofs.lemmas.List.Elements.{All-nil, All-cons}
use Rattle.script_lines.specs.declared.why.Why.{Why}
use Rattle.script_lines.specs.declared.line.Line.{Line}
use Rattle.script_lines.specs.declared.kinds.Kind.{Kind}
use Rattle.script_lines.specs.declared.kinds.Kind.TheVariants as kind
use Rattle.script_lines.specs.declared.kinds.PaintKind.{PaintKind}
use Rattle.script_lines.specs.declared.kinds.PaintKind.TheVariants as paint
use Rattle.script_lines.specs.declared.kinds.PeerKind.{PeerKind}
use Rattle.script_lines.specs.declared.kinds.PeerKind.TheVariants as peer
use Rattle.script_lines.specs.declared.kinds.PlanKind.{PlanKind}
use Rattle.script_lines.specs.declared.kinds.PlanKind.TheVariants as plan
use Rattle.script_lines.specs.Text.{words_of, without_return, is_comment}
use Rattle.script_lines.specs.Numbers.{is_between, digit, are_digits, value, numeral, number, signed, colour, is_hex, bytes_of, is_name}
use Rattle.script_lines.specs.Arguments.{Argument, Number, Place, Colour, Hex, Uuid, is_spelled, is_within, first_word, are_spelled, are_within, number_of, place_of, colour_of, read}
use Rattle.script_lines.specs.Kinds.{kind_of}
use Rattle.script_lines.specs.Forms.{paint_arguments, paint_line, peer_arguments, peer_order, plan_arguments, plan_line, arguments, line_of, form, present, of_kind, of_words, text_line}
use Rattle.script_lines.specs.Ranges.{IsBetween, IsPlace, IsBox, IsPaint, IsSpoken, IsUuid, IsOrder, IsPlan, IsLine}
use Rattle.script_lines.proofs.Digits.{value_below}
use Rattle.script_lines.proofs.PlacesLemmas.{read_ok, read_right, spelled_hex}

-- ---- what one word holds

abbrev pub Holds : Argument → List ℕ → Type 0
Holds (Number low high) word = IsBetween low high (number_of word)
Holds Place word = IsPlace (place_of word)
Holds Colour word = colour_of word < 2 ^ 24
Holds Hex word = IsSpoken (bytes_of word)
Holds Uuid word = IsUuid word

is_between-true : (low high n : ℕ) → is_between low high n ≡ true → IsBetween low high n
is_between-true low high n e =
    let parts = and_parts (leb low n) (leb n high) e in
    record { least = leb-true low n parts.0; most = leb-true n high parts.1 }

int_le-true : (a b : ℤ) → int_le a b ≡ true → a ≤ℤ b
int_le-true a b e = grind (arith, ints)

if_all : (p : ℕ → Bool) (P : ℕ → Type 0) → ((n : ℕ) → p n ≡ true → P n) → (ns : List ℕ) → list_all p ns ≡ true → All P ns
if_all p P from [] e = All-nil P
if_all p P from (n ∷ ns) e =
    let parts = and_parts (p n) (list_all p ns) e in
    All-cons P n ns (from n parts.0) (if_all p P from ns parts.1)

some_of : (o : Option ℕ) → is_some o ≡ true → o ≡ Some (unwrap_or o 0)
some_of None e = absurd cc
some_of (Some n) e = refl

chosen : {A : Type 0} (b : Bool) (o : Option A) (a : A) → cond b o None ≡ Some a → (b ≡ true) × (o ≡ Some a)
chosen true o a e = (refl, e)
chosen false o a e = absurd cc

colour_small : (word : List ℕ) → is_some (colour word) ≡ true → colour_of word < 2 ^ 24
unfolding colour numeral
colour_small word e =
    let c = colour_of word in
    let some = some_of (colour word) e in
    let six = chosen (eqb (length word) 6) (numeral 16 word) c some in
    let digits = chosen (are_digits 16 word) (Some (value 16 (map digit word))) c six.1 in
    let below = value_below 16 word digits.0 in
    let long : length word ≡ 6 = eqb-true (length word) 6 six.0 in
    let same : value 16 (map digit word) ≡ c = cc in
    subst (λ n. n < 2 ^ 24) same (subst (λ n. value 16 (map digit word) < 16 ^ n) long below)

bytes_count : (word : List ℕ) → (2 * length (bytes_of word) ≤ length word) × (length word ≤ 2 * length (bytes_of word) + 1)
bytes_count [] = (omega arith, omega arith)
bytes_count (a ∷ []) = (omega arith, omega arith)
bytes_count (a ∷ b ∷ word) = let more = bytes_count word in (omega (arith, more.0), omega (arith, more.1))

bytes_small : (word : List ℕ) → are_digits 16 word ≡ true → All (λ byte. byte < 256) (bytes_of word)
bytes_small [] e = All-nil (λ byte. byte < 256)
bytes_small (a ∷ []) e = All-nil (λ byte. byte < 256)
bytes_small (a ∷ b ∷ word) e =
    let first = and_parts (ltb (digit a) 16) (are_digits 16 (b ∷ word)) e in
    let second = and_parts (ltb (digit b) 16) (are_digits 16 word) first.1 in
    let high : digit a < 16 = ltb-true (digit a) 16 first.0 in
    let low : digit b < 16 = ltb-true (digit b) 16 second.0 in
    All-cons (λ byte. byte < 256) (16 * digit a + digit b) (bytes_of word) (small (digit a) (digit b) high low) (bytes_small word second.1)
  where
    small : (m n : ℕ) → m < 16 → n < 16 → 16 * m + n < 256
    small m n p q = omega arith

hex_spoken : (word : List ℕ) → is_hex word ≡ true → IsSpoken (bytes_of word)
unfolding is_hex
hex_spoken word e =
    let digits = spelled_hex word e in
    let front = and_parts (is_between 2 65536 (length word) && eqb (length word % 2) 0) (are_digits 16 word) e in
    let size = is_between-true 2 65536 (length word) (and_parts (is_between 2 65536 (length word)) (eqb (length word % 2) 0) front.0).0 in
    let count = bytes_count word in
    record {
      size = record { least = omega (arith, size.least, count.1); most = omega (arith, size.most, count.0) };
      small = bytes_small word digits;
    }

name_uuid : (word : List ℕ) → is_name word ≡ true → IsUuid word
unfolding is_name
name_uuid word e =
    let parts = and_parts (is_between 1 64 (length word)) (list_all (is_between 33 126) word) e in
    record {
      size = is_between-true 1 64 (length word) parts.0;
      visible = if_all (is_between 33 126) (IsBetween 33 126) (is_between-true 33 126) word parts.1;
    }

holds : (a : Argument) (word : List ℕ) → is_spelled a word ≡ true → is_within a word ≡ true → Holds a word
holds (Number low high) word s i = is_between-true low high (number_of word) i
holds Place word s i =
    let parts = and_parts (int_le (negsuc 32767) (place_of word)) (int_le (place_of word) (pos 32767)) i in
    record { least = int_le-true (negsuc 32767) (place_of word) parts.0; most = int_le-true (place_of word) (pos 32767) parts.1 }
holds Colour word s i = colour_small word s
holds Hex word s i = hex_spoken word s
holds Uuid word s i = name_uuid word s

-- ---- what the words of a line hold

abbrev pub AllHold : List Argument → List (List ℕ) → Type 0
AllHold [] ws = Unit {0}
AllHold (a ∷ places) ws = Holds a (first_word ws) × AllHold places (drop 1 ws)

all_hold : (places : List Argument) (ws : List (List ℕ)) → are_spelled places ws ≡ true → are_within places ws ≡ true → AllHold places ws
all_hold [] ws s i = tt
all_hold (a ∷ places) ws s i =
    let spelled = and_parts (is_spelled a (first_word ws)) (are_spelled places (drop 1 ws)) s in
    let within = and_parts (is_within a (first_word ws)) (are_within places (drop 1 ws)) i in
    (holds a (first_word ws) spelled.0 within.0, all_hold places (drop 1 ws) spelled.1 within.1)

paint_holds : (k : PaintKind) (ws : List (List ℕ)) → AllHold (paint_arguments k) ws → IsPaint (paint_line k ws)
paint_holds paint.Open ws h = (h.0, h.1.0, h.1.1.0, h.1.1.1.0, h.1.1.1.1.0)
paint_holds paint.Close ws h = h.0
paint_holds paint.Fill ws h = (record { window = h.0; across = h.1.0; down = h.1.1.0; wide = h.1.1.1.0; high = h.1.1.1.1.0 }, h.1.1.1.1.1.0)
paint_holds paint.Copy ws h = (record { window = h.0; across = h.1.0; down = h.1.1.0; wide = h.1.1.1.0; high = h.1.1.1.1.0 }, h.1.1.1.1.1.0, h.1.1.1.1.1.1.0)
paint_holds paint.Noise ws h = (record { window = h.0; across = h.1.0; down = h.1.1.0; wide = h.1.1.1.0; high = h.1.1.1.1.0 }, omega (arith, h.1.1.1.1.1.0.most))
paint_holds paint.Resize ws h = (h.0, h.1.0, h.1.1.0)
paint_holds paint.Move ws h = (h.0, h.1.0, h.1.1.0)
paint_holds paint.Raise ws h = h.0

peer_holds : (k : PeerKind) (ws : List (List ℕ)) → AllHold (peer_arguments k) ws → IsOrder (peer_order k ws)
peer_holds peer.Exact ws h = inl refl
peer_holds peer.NamedExact ws h = inr h.0
peer_holds peer.Lossy ws h = inl refl
peer_holds peer.NamedLossy ws h = inr h.0
peer_holds peer.Dry ws h = (h.0, refl)
peer_holds peer.Hex ws h = h.0
peer_holds peer.Map ws h = (h.0, h.1.0)
peer_holds peer.Unmap ws h = (h.0, h.1.0)
peer_holds peer.Refresh ws h = (h.0, h.1.0)
peer_holds peer.Leave ws h = h.0
peer_holds peer.Say ws h = (h.0, h.1.0)

plan_holds : (k : PlanKind) (ws : List (List ℕ)) → AllHold (plan_arguments k) ws → IsPlan (plan_line k ws)
plan_holds plan.Accept ws h = tt
plan_holds plan.Read ws h = h.0
plan_holds plan.Capture ws h = (h.0, h.1.0)
plan_holds plan.Take ws h = tt
plan_holds plan.Finish ws h = h.0
plan_holds plan.Send ws h = (h.0, h.1.0)
plan_holds plan.Owed ws h = (h.0, h.1.0)
plan_holds plan.Wait ws h = h.0
plan_holds plan.Turn ws h = tt

line_holds : (k : Kind) (ws : List (List ℕ)) → AllHold (arguments k) ws → IsLine (line_of k ws)
line_holds (kind.Paint k) ws h = paint_holds k ws h
line_holds (kind.Peer k) ws h = peer_holds k ws h
line_holds (kind.Plan k) ws h = plan_holds k ws h

form_holds : (k : Kind) (ws : List (List ℕ)) (l : Line) → form k ws ≡ Ok l → IsLine l
form_holds k ws l e =
    let right = read_right (arguments k) (line_of k) ws l e in
    let same = read_ok (arguments k) (line_of k) (line_of k) ws l e in
    subst IsLine same.1 (line_holds k ws (all_hold (arguments k) ws right.0 right.1))

present_ok : (r : Result Line Why) (l : Line) → present r ≡ Ok (Some l) → r ≡ Ok l
present_ok (Ok x) l e = cc
present_ok (Err w) l e = absurd cc

of_kind_holds : (o : Option (Kind × List (List ℕ))) (l : Line) → of_kind o ≡ Ok (Some l) → IsLine l
of_kind_holds None l e = absurd cc
of_kind_holds (Some x) l e = form_holds x.0 x.1 l (present_ok (form x.0 x.1) l e)

of_words_holds : (ws : List (List ℕ)) (l : Line) → of_words ws ≡ Ok (Some l) → IsLine l
of_words_holds [] l e = absurd cc
of_words_holds (w ∷ ws) l e = of_kind_holds (kind_of (w ∷ ws)) l e

uncommented : (b : Bool) (r : Result (Option Line) Why) (l : Line) → cond b (Ok None) r ≡ Ok (Some l) → r ≡ Ok (Some l)
uncommented true r l e = absurd cc
uncommented false r l e = e

pub text_holds : (text : List ℕ) (l : Line) → text_line text ≡ Ok (Some l) → IsLine l
unfolding text_line
text_holds text l e = of_words_holds (words_of (without_return text)) l (uncommented (is_comment text) (of_words (words_of (without_return text))) l e)
