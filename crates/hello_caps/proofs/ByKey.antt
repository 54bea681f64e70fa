-- What stands under the keys decides.
use Rattle.std.proofs.Common.{◌≡◌, ◌<◌, ◌≤◌, ◌⊎◌, inl, inr, ℕ, Bool, true, false, Option, None, Some, List, [], length, Decides, refl, sym, ap, subst, ◌∙◌, arith}
use Rattle.std.specs.Prelude.{Result, Ok, Err, IsOk, ◌||◌, codes, option_and_then, if◌then◌else◌}
use Rattle.std.proofs.lemmas.Bool.{false≢true}
use Rattle.std.proofs.lemmas.Bool.Decides.{leb_tells, not_from_Decides}
use Rattle.bencode_values.specs.Lookup.{last_value}
use Rattle.bencode_values.specs.declared.value.Value.{Value}
use Rattle.bencode_values.specs.declared.value.Value.TheVariants as V
use Rattle.bencode_values.specs.declared.value.Pair.{Pair}
use Rattle.hello_caps.specs.declared.caps.Caps.{Caps}
use Rattle.hello_caps.specs.declared.caps.HelloFault.{HelloFault}
use Rattle.hello_caps.specs.declared.caps.HelloFault.TheVariants as F
use Rattle.hello_caps.specs.Capabilities.{items_of, text_of, holds, takes_rgb, takes_lossy, list_under, text_under, uuid_of, with_uuid, caps_of}
use Rattle.hello_caps.specs.Table.{HasNoRgb, AllowsLossy, HasUuid, HasLongUuid}
use Rattle.hello_caps.proofs.Layered.{items_of-List, text_of-Bytes}
use Rattle.hello_caps.proofs.Texts.{a_list, a_text, holds-Decides}

-- a list or a byte string that stands somewhere
list_there : (o : Option Value) (items : List Value) → option_and_then items_of o ≡ Some items → o ≡ Some (V.List items)
list_there None items e = absurd (cc)
list_there (Some v) items e = ap Some (a_list v items e)

there_list : (o : Option Value) (items : List Value) → o ≡ Some (V.List items) → option_and_then items_of o ≡ Some items
there_list o items e = ap (option_and_then items_of) e ∙ items_of-List items

text_there : (o : Option Value) (text : List ℕ) → option_and_then text_of o ≡ Some text → o ≡ Some (V.Bytes text)
text_there None text e = absurd (cc)
text_there (Some v) text e = ap Some (a_text v text e)

there_text : (o : Option Value) (text : List ℕ) → o ≡ Some (V.Bytes text) → option_and_then text_of o ≡ Some text
there_text o text e = ap (option_and_then text_of) e ∙ text_of-Bytes text

-- tests
neither : (a b : Bool) → (a || b) ≡ false → (a ≡ false) × (b ≡ false)
neither false false e = (refl, refl)
neither false true e = absurd (false≢true (sym e))
neither true b e = absurd (false≢true (sym e))

or_false : (a b : Bool) → a ≡ false → b ≡ false → (a || b) ≡ false
or_false a b one two = rw (one, two) refl

false_from : {P : Type 0} (b : Bool) → Decides b P → ¬ P → b ≡ false
false_from false d other = refl
false_from true d other = absurd (other (d.0 refl))

true_from : {P : Type 0} (b : Bool) → (b ≡ false → P) → ¬ P → b ≡ true
true_from true d other = refl
true_from false d other = absurd (other (d refl))

-- the encodings
no_rgb_from : (pairs : List Pair) (o : Option (List Value)) → list_under (codes "encodings") pairs ≡ o → takes_rgb o ≡ false → HasNoRgb pairs
no_rgb_from pairs None e told = absurd (false≢true (sym told))
no_rgb_from pairs (Some items) e told =
    let parts = neither (holds (codes "rgb32") items) (holds (codes "rgb") items) told in
    record {
      items = items;
      stands = list_there (last_value (codes "encodings") pairs) items e;
      no_rgb32 = not_from_Decides (holds (codes "rgb32") items) (holds-Decides (codes "rgb32") items) parts.0;
      no_rgb = not_from_Decides (holds (codes "rgb") items) (holds-Decides (codes "rgb") items) parts.1;
    }

no_rgb-false : (pairs : List Pair) → HasNoRgb pairs → takes_rgb (list_under (codes "encodings") pairs) ≡ false
no_rgb-false pairs h =
    ap takes_rgb (there_list (last_value (codes "encodings") pairs) h.items h.stands)
    ∙ or_false (holds (codes "rgb32") h.items) (holds (codes "rgb") h.items)
    (false_from (holds (codes "rgb32") h.items) (holds-Decides (codes "rgb32") h.items) h.no_rgb32)
    (false_from (holds (codes "rgb") h.items) (holds-Decides (codes "rgb") h.items) h.no_rgb)

rgb-true : (pairs : List Pair) → ¬ HasNoRgb pairs → takes_rgb (list_under (codes "encodings") pairs) ≡ true
rgb-true pairs = true_from (takes_rgb (list_under (codes "encodings") pairs)) (no_rgb_from pairs (list_under (codes "encodings") pairs) refl)

-- the formats
lossy_from : (pairs : List Pair) (o : Option (List Value)) → list_under (codes "encodings.rgb_formats") pairs ≡ o → takes_lossy o ≡ true → AllowsLossy pairs
lossy_from pairs None e told = absurd (false≢true told)
lossy_from pairs (Some items) e told = record {
  items = items;
  stands = list_there (last_value (codes "encodings.rgb_formats") pairs) items e;
  format = (holds-Decides (codes "BGR565") items).0 told;
}

lossy-true : (pairs : List Pair) → AllowsLossy pairs → takes_lossy (list_under (codes "encodings.rgb_formats") pairs) ≡ true
lossy-true pairs h =
    ap takes_lossy (there_list (last_value (codes "encodings.rgb_formats") pairs) h.items h.stands)
    ∙ (holds-Decides (codes "BGR565") h.items).1 h.format

-- the uuid
uuid_cases : (text : List ℕ) → ((uuid_of (Some text) ≡ Ok text) × (length text ≤ 64)) ⊎ ((uuid_of (Some text) ≡ Err (F.Uuid (length text))) × (64 < length text))
uuid_cases text = elim (leb_tells (length text) 64) [
  | inl h ↦ inl (ap (λ (b : Bool). if b then Ok text else Err (F.Uuid (length text))) h.0, h.1)
  | inr h ↦ inr (ap (λ (b : Bool). if b then Ok text else Err (F.Uuid (length text))) h.0, h.1)
]

-- the answer, from what the three keys say
unfoldable from_keys : Bool → Bool → Option (List ℕ) → Result Caps HelloFault
from_keys takes lossy o = if takes then with_uuid lossy (uuid_of o) else Err F.NoEncoding

caps_from : (pairs : List Pair) → caps_of pairs ≡ from_keys (takes_rgb (list_under (codes "encodings") pairs)) (takes_lossy (list_under (codes "encodings.rgb_formats") pairs)) (text_under (codes "uuid") pairs)
unfolding caps_of from_keys
caps_from pairs = refl

from_no_rgb : (lossy : Bool) (o : Option (List ℕ)) (takes : Bool) → takes ≡ false → from_keys takes lossy o ≡ Err F.NoEncoding
unfolding from_keys
from_no_rgb lossy o takes e = rw e refl

anonymous_keys : (lossy : Bool) → from_keys true lossy None ≡ Ok (record { lossy = lossy; uuid = [] })
unfolding from_keys
anonymous_keys lossy = refl

short_keys : (lossy : Bool) (text : List ℕ) → uuid_of (Some text) ≡ Ok text → from_keys true lossy (Some text) ≡ Ok (record { lossy = lossy; uuid = text })
unfolding from_keys
short_keys lossy text e = ap (with_uuid lossy) e

long_keys : (lossy : Bool) (text : List ℕ) → uuid_of (Some text) ≡ Err (F.Uuid (length text)) → from_keys true lossy (Some text) ≡ Err (F.Uuid (length text))
unfolding from_keys
long_keys lossy text e = ap (with_uuid lossy) e

-- what an answer tells of the keys: by the answers that there are
pub data Told (takes lossy : Bool) (o : Option (List ℕ)) (answer : Result Caps HelloFault) : Type 0 where
  no_rgb : takes ≡ false → answer ≡ Err F.NoEncoding → Told takes lossy o answer
  anonymous : takes ≡ true → o ≡ None → answer ≡ Ok (record { lossy = lossy; uuid = [] }) → Told takes lossy o answer
  named : (text : List ℕ) → takes ≡ true → o ≡ Some text → length text ≤ 64 → answer ≡ Ok (record { lossy = lossy; uuid = text }) → Told takes lossy o answer
  long : (text : List ℕ) → takes ≡ true → o ≡ Some text → 64 < length text → answer ≡ Err (F.Uuid (length text)) → Told takes lossy o answer

told_by : (takes lossy : Bool) (o : Option (List ℕ)) → Told takes lossy o (from_keys takes lossy o)
told_by false lossy o = no_rgb refl (from_no_rgb lossy o false refl)
told_by true lossy None = anonymous refl refl (anonymous_keys lossy)
told_by true lossy (Some text) = elim (uuid_cases text) [
  | inl h ↦ named text refl refl h.1 (short_keys lossy text h.0)
  | inr h ↦ long text refl refl h.1 (long_keys lossy text h.0)
]

abbrev pub TellsCaps : List Pair → Type 0
TellsCaps pairs = Told (takes_rgb (list_under (codes "encodings") pairs)) (takes_lossy (list_under (codes "encodings.rgb_formats") pairs)) (text_under (codes "uuid") pairs) (caps_of pairs)

tells_caps : (pairs : List Pair) → TellsCaps pairs
tells_caps pairs =
    subst (Told (takes_rgb (list_under (codes "encodings") pairs)) (takes_lossy (list_under (codes "encodings.rgb_formats") pairs)) (text_under (codes "uuid") pairs)) (sym (caps_from pairs))
    (told_by (takes_rgb (list_under (codes "encodings") pairs)) (takes_lossy (list_under (codes "encodings.rgb_formats") pairs)) (text_under (codes "uuid") pairs))

-- the clauses
pub no_encoding_tells : (pairs : List Pair) → caps_of pairs ≡ Err F.NoEncoding → HasNoRgb pairs
no_encoding_tells pairs e = elim (tells_caps pairs) [
  | no_rgb takes is ↦ no_rgb_from pairs (list_under (codes "encodings") pairs) refl takes
  | anonymous takes none is ↦ absurd (cc)
  | named text takes some short is ↦ absurd (cc)
  | long text takes some size is ↦ absurd (cc)
]

pub no_encoding_told : (pairs : List Pair) → HasNoRgb pairs → caps_of pairs ≡ Err F.NoEncoding
no_encoding_told pairs h = caps_from pairs ∙ from_no_rgb _ _ _ (no_rgb-false pairs h)

has_rgb : (pairs : List Pair) → takes_rgb (list_under (codes "encodings") pairs) ≡ true → ¬ HasNoRgb pairs
has_rgb pairs takes h = false≢true (sym (no_rgb-false pairs h) ∙ takes)

pub long_uuid_tells : (pairs : List Pair) (size : ℕ) → caps_of pairs ≡ Err (F.Uuid size) → (¬ HasNoRgb pairs) × HasLongUuid pairs size
long_uuid_tells pairs size e = elim (tells_caps pairs) [
  | no_rgb takes is ↦ absurd (cc)
  | anonymous takes none is ↦ absurd (cc)
  | named text takes some short is ↦ absurd (cc)
  | long text takes some more is ↦
      (let same : length text ≡ size = cc in
      (has_rgb pairs takes, record { text = text; stands = text_there (last_value (codes "uuid") pairs) text some; sized = same; long = omega arith }))
]

uuid_stands : (pairs : List Pair) (text : List ℕ) → HasUuid pairs text → text_under (codes "uuid") pairs ≡ Some text
uuid_stands pairs text h = there_text (last_value (codes "uuid") pairs) text h

pub long_uuid_told : (pairs : List Pair) (size : ℕ) → ¬ HasNoRgb pairs → HasLongUuid pairs size → caps_of pairs ≡ Err (F.Uuid size)
long_uuid_told pairs size rgb h =
    let there = uuid_stands pairs h.text h.stands in
    let takes_it = rgb-true pairs rgb in
    elim (tells_caps pairs) [
      | no_rgb takes is ↦ absurd (false≢true (sym takes ∙ takes_it))
      | anonymous takes none is ↦ absurd (cc)
      | named text takes some short is ↦
          (let same : text ≡ h.text = cc in
          let sizes = ap length same in let sized = h.sized in let more = h.long in absurd (omega arith))
      | long text takes some more is ↦
          (let same : text ≡ h.text = cc in
          is ∙ ap (λ (n : ℕ). Err (F.Uuid n)) (ap length same ∙ h.sized))
    ]

pub accepted_tells : (pairs : List Pair) → IsOk (caps_of pairs) → (¬ HasNoRgb pairs) × ((size : ℕ) → ¬ HasLongUuid pairs size)
accepted_tells pairs ok =
    let rgb : ¬ HasNoRgb pairs = λ h. false≢true (subst IsOk (no_encoding_told pairs h) ok) in
    (rgb, λ size h. false≢true (subst IsOk (long_uuid_told pairs size rgb h) ok))

pub accepted_told : (pairs : List Pair) → ¬ HasNoRgb pairs → ((size : ℕ) → ¬ HasLongUuid pairs size) → IsOk (caps_of pairs)
accepted_told pairs rgb short = elim (tells_caps pairs) [
  | no_rgb takes is ↦ absurd (rgb (no_encoding_tells pairs is))
  | anonymous takes none is ↦ subst IsOk (sym is) refl
  | named text takes some size is ↦ subst IsOk (sym is) refl
  | long text takes some more is ↦ absurd (short (length text) ((long_uuid_tells pairs (length text) is).1))
]

lossy_is : (pairs : List Pair) (caps : Caps) → caps_of pairs ≡ Ok caps → caps.lossy ≡ takes_lossy (list_under (codes "encodings.rgb_formats") pairs)
lossy_is pairs caps e = elim (tells_caps pairs) [
  | no_rgb takes is ↦ absurd (cc)
  | anonymous takes none is ↦ cc
  | named text takes some short is ↦ cc
  | long text takes some more is ↦ absurd (cc)
]

pub lossy_tells : (pairs : List Pair) (caps : Caps) → caps_of pairs ≡ Ok caps → caps.lossy ≡ true → AllowsLossy pairs
lossy_tells pairs caps e told = lossy_from pairs (list_under (codes "encodings.rgb_formats") pairs) refl (sym (lossy_is pairs caps e) ∙ told)

pub lossy_told : (pairs : List Pair) (caps : Caps) → caps_of pairs ≡ Ok caps → AllowsLossy pairs → caps.lossy ≡ true
lossy_told pairs caps e h = lossy_is pairs caps e ∙ lossy-true pairs h

pub uuid_told : (pairs : List Pair) (caps : Caps) (text : List ℕ) → caps_of pairs ≡ Ok caps → HasUuid pairs text → caps.uuid ≡ text
uuid_told pairs caps text e h =
    let there = uuid_stands pairs text h in
    elim (tells_caps pairs) [
      | no_rgb takes is ↦ absurd (cc)
      | anonymous takes none is ↦ absurd (cc)
      | named bytes takes some short is ↦ cc
      | long bytes takes some more is ↦ absurd (cc)
    ]

pub anonymous_told : (pairs : List Pair) (caps : Caps) → caps_of pairs ≡ Ok caps → ((text : List ℕ) → ¬ HasUuid pairs text) → caps.uuid ≡ []
anonymous_told pairs caps e never = elim (tells_caps pairs) [
  | no_rgb takes is ↦ absurd (cc)
  | anonymous takes none is ↦ cc
  | named text takes some short is ↦ absurd (never text (text_there (last_value (codes "uuid") pairs) text some))
  | long text takes some more is ↦ absurd (cc)
]

pub uuid_short : (pairs : List Pair) (caps : Caps) → caps_of pairs ≡ Ok caps → length caps.uuid ≤ 64
uuid_short pairs caps e = elim (tells_caps pairs) [
  | no_rgb takes is ↦ absurd (cc)
  | anonymous takes none is ↦ (let same : caps.uuid ≡ [] = cc in rw same (omega arith))
  | named text takes some short is ↦ (let same : caps.uuid ≡ text = cc in rw same short)
  | long text takes some more is ↦ absurd (cc)
]
