-- Which values are hellos.
use Rattle.std.proofs.Common.{◌≡◌, ◌≢◌, ℕ, Bool, true, false, Option, None, Some, List, [], ◌∷◌, refl, ap, ◌∙◌}
use Rattle.std.specs.Prelude.{Ok, Err, codes, nat_le, length, option_and_then, if◌then◌else◌}
use Rattle.bencode_values.specs.declared.value.Value.{Value}
use Rattle.bencode_values.specs.declared.value.Value.TheVariants as V
use Rattle.bencode_values.specs.declared.value.Pair.{Pair}
use Rattle.hello_caps.specs.declared.caps.HelloFault.TheVariants as F
use Rattle.hello_caps.specs.Capabilities.{items_of, pairs_of, is_text, hello_pairs, takes_rgb, takes_lossy, list_under, text_under, uuid_of, with_uuid, caps_of, caps_or_fault, hello_of}
use Rattle.hello_caps.proofs.Layered.{items_of-List, pairs_of-Dict}
use Rattle.hello_caps.proofs.Texts.{a_list, a_dictionary, is_text-Decides}

-- a hello
pub hello_form : (pairs : List Pair) (further : List Value) → hello_of (V.List (V.Bytes (codes "hello") ∷ V.Dict pairs ∷ further)) ≡ caps_of pairs
unfolding hello_of
hello_form pairs further =
    let items : List Value = V.Bytes (codes "hello") ∷ V.Dict pairs ∷ further in
    ap (λ (o : Option (List Value)). caps_or_fault (option_and_then hello_pairs o)) (items_of-List items)
    ∙ ap (λ (b : Bool). caps_or_fault (if b then pairs_of (V.Dict pairs) else None)) ((is_text-Decides (codes "hello") (V.Bytes (codes "hello"))).1 refl)
    ∙ ap caps_or_fault (pairs_of-Dict pairs)

abbrev IsOther : Value → Type 0
IsOther v = (pairs : List Pair) (further : List Value) → v ≢ V.List (V.Bytes (codes "hello") ∷ V.Dict pairs ∷ further)

second_other : (second : Value) (further : List Value) (o : Option (List Pair)) → pairs_of second ≡ o → IsOther (V.List (V.Bytes (codes "hello") ∷ second ∷ further)) → o ≡ None
second_other second further None e other = refl
second_other second further (Some pairs) e other =
    absurd (other pairs further (ap (λ (w : Value). V.List (V.Bytes (codes "hello") ∷ w ∷ further)) (a_dictionary second pairs e)))

first_other : (first second : Value) (further : List Value) (b : Bool) → is_text (codes "hello") first ≡ b → IsOther (V.List (first ∷ second ∷ further)) → (if b then pairs_of second else None) ≡ None
first_other first second further false e other = refl
first_other first second further true e other =
    let is = (is_text-Decides (codes "hello") first).0 e in
    second_other second further (pairs_of second) refl
    (λ pairs more same. other pairs more (ap (λ (w : Value). V.List (w ∷ second ∷ further)) is ∙ same))

items_other : (items : List Value) → IsOther (V.List items) → hello_pairs items ≡ None
items_other [] other = refl
items_other (first ∷ []) other = refl
items_other (first ∷ second ∷ further) other = first_other first second further (is_text (codes "hello") first) refl other

value_other : (v : Value) (o : Option (List Value)) → items_of v ≡ o → IsOther v → option_and_then hello_pairs o ≡ None
value_other v None e other = refl
value_other v (Some items) e other = items_other items (λ pairs more same. other pairs more (a_list v items e ∙ same))

-- any other value
pub other_form : (v : Value) → IsOther v → hello_of v ≡ Err F.NotHello
unfolding hello_of
other_form v other = ap caps_or_fault (value_other v (items_of v) refl other)

-- a dictionary is never refused as no hello
uuid_only : (lossy within : Bool) (text : List ℕ) (size : ℕ) → with_uuid lossy (if within then Ok text else Err (F.Uuid size)) ≢ Err F.NotHello
uuid_only lossy true text size e = cc
uuid_only lossy false text size e = cc

parts_only : (rgb lossy : Bool) (o : Option (List ℕ)) → (if rgb then with_uuid lossy (uuid_of o) else Err F.NoEncoding) ≢ Err F.NotHello
parts_only false lossy o e = cc
parts_only true lossy None e = cc
parts_only true lossy (Some text) e = uuid_only lossy (nat_le (length text) 64) text (length text) e

pub never_no_hello : (pairs : List Pair) → caps_of pairs ≢ Err F.NotHello
unfolding caps_of
never_no_hello pairs = parts_only (takes_rgb (list_under (codes "encodings") pairs)) (takes_lossy (list_under (codes "encodings.rgb_formats") pairs)) (text_under (codes "uuid") pairs)
