-- Whether a value is a byte string, and whether a list has it; and what form a value has.
use Rattle.std.proofs.Common.{◌≡◌, ℕ, true, Option, None, Some, List, Decides, refl, ap, ◌∙◌}
use Rattle.std.specs.Prelude.{Contains}
use Rattle.std.specs.List.{list_any}
use Rattle.std.specs.Cmp.Lexicographic.{bytes_decides}
use Rattle.std.proofs.lemmas.Bool.{false≢true}
use Rattle.std.proofs.lemmas.Bool.Decides.{Decides-by_or}
use Rattle.std.proofs.lemmas.List.Elements.{Decides-contains}
use Rattle.bencode_values.specs.declared.value.Value.{Value}
use Rattle.bencode_values.specs.declared.value.Value.TheVariants as V
use Rattle.bencode_values.specs.declared.value.Pair.{Pair}
use Rattle.bencode_values.proofs.Values.{induction}
use Rattle.hello_caps.specs.Capabilities.{items_of, pairs_of, text_of, is_same_text, is_text, holds}
use Rattle.hello_caps.proofs.Layered.{items_of-Int, items_of-Bytes, items_of-List, items_of-Dict, pairs_of-Int, pairs_of-Bytes, pairs_of-List, pairs_of-Dict, text_of-Int, text_of-Bytes, text_of-List, text_of-Dict}

-- no value has another form
none_some : {A : Type 0} {B : Type 0} (o : Option A) (x : A) → o ≡ None → o ≡ Some x → B
none_some o x none some = absurd (cc)

some_some : {A : Type 0} (o : Option A) (x y : A) → o ≡ Some x → o ≡ Some y → x ≡ y
some_some o x y one two = cc

pub a_list : (v : Value) (items : List Value) → items_of v ≡ Some items → v ≡ V.List items
a_list = induction (λ v. (items : List Value) → items_of v ≡ Some items → v ≡ V.List items) (λ p. Unit {0})
    (λ n items e. none_some _ items (items_of-Int n) e)
    (λ text items e. none_some _ items (items_of-Bytes text) e)
    (λ vs h items e. ap V.List (some_some _ vs items (items_of-List vs) e))
    (λ ps h items e. none_some _ items (items_of-Dict ps) e)
    (λ k v h. tt)

pub a_dictionary : (v : Value) (pairs : List Pair) → pairs_of v ≡ Some pairs → v ≡ V.Dict pairs
a_dictionary = induction (λ v. (pairs : List Pair) → pairs_of v ≡ Some pairs → v ≡ V.Dict pairs) (λ p. Unit {0})
    (λ n pairs e. none_some _ pairs (pairs_of-Int n) e)
    (λ text pairs e. none_some _ pairs (pairs_of-Bytes text) e)
    (λ vs h pairs e. none_some _ pairs (pairs_of-List vs) e)
    (λ ps h pairs e. ap V.Dict (some_some _ ps pairs (pairs_of-Dict ps) e))
    (λ k v h. tt)

pub a_text : (v : Value) (text : List ℕ) → text_of v ≡ Some text → v ≡ V.Bytes text
a_text = induction (λ v. (text : List ℕ) → text_of v ≡ Some text → v ≡ V.Bytes text) (λ p. Unit {0})
    (λ n text e. none_some _ text (text_of-Int n) e)
    (λ bytes text e. ap V.Bytes (some_some _ bytes text (text_of-Bytes bytes) e))
    (λ vs h text e. none_some _ text (text_of-List vs) e)
    (λ ps h text e. none_some _ text (text_of-Dict ps) e)
    (λ k v h. tt)

-- the test of a byte string
same_text-Some : (text : List ℕ) (o : Option (List ℕ)) → is_same_text text o ≡ true → o ≡ Some text
same_text-Some text None e = absurd (false≢true e)
same_text-Some text (Some bytes) e = ap Some ((bytes_decides bytes text).0 e)

pub is_text-Decides : (text : List ℕ) (v : Value) → Decides (is_text text v) (v ≡ V.Bytes text)
is_text-Decides text v = (
  λ e. a_text v text (same_text-Some text (text_of v) e),
  λ e. ap (is_text text) e ∙ ap (is_same_text text) (text_of-Bytes text) ∙ (bytes_decides text text).1 refl,
)

pub holds-Decides : (text : List ℕ) (items : List Value) → Decides (holds text items) (Contains items (V.Bytes text))
holds-Decides text items =
    Decides-contains items (V.Bytes text) (holds text items)
    (Decides-by_or (is_text text) (λ v. v ≡ V.Bytes text) (list_any (is_text text)) (is_text-Decides text) refl (λ _ _. refl) items)
