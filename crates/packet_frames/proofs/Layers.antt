-- One layer of a value.
use Rattle.std.proofs.Common.{◌≡◌, ℕ, zero, suc, ◌<◌, true, false, List, [], ◌∷◌, length, sym, ap, ◌∙◌, arith}
use Rattle.std.proofs.lemmas.Bool.{false≢true}
use Rattle.std.specs.Prelude.{ℤ, Some, None, slice_get, slice_set, if◌then◌else◌}
use Rattle.bencode_values.specs.declared.value.Value.{Value, out-Value, out-roll-Value}
use Rattle.bencode_values.specs.declared.value.Value.TheVariants as V
use Rattle.bencode_values.specs.declared.value.Value.TheOpen.{Value-F}
use Rattle.bencode_values.specs.declared.value.Pair.{Pair}
use Rattle.packet_frames.specs.Framing.{is_empty_layer, is_empty_string, put_in_layer, put_in}

pub out-Int : (n : ℤ) → out-Value (V.Int n) ≡ Value-F.Int n
out-Int n = ap out-Value (sym (V.rolls-Int n)) ∙ out-roll-Value (Value-F.Int n)

pub out-Bytes : (text : List ℕ) → out-Value (V.Bytes text) ≡ Value-F.Bytes text
out-Bytes text = ap out-Value (sym (V.rolls-Bytes text)) ∙ out-roll-Value (Value-F.Bytes text)

pub out-List : (vs : List Value) → out-Value (V.List vs) ≡ Value-F.List vs
out-List vs = ap out-Value (sym (V.rolls-List vs)) ∙ out-roll-Value (Value-F.List vs)

pub out-Dict : (ps : List Pair) → out-Value (V.Dict ps) ≡ Value-F.Dict ps
out-Dict ps = ap out-Value (sym (V.rolls-Dict ps)) ∙ out-roll-Value (Value-F.Dict ps)

-- a chunk's bytes in the place of an item, by the value's form
pub put_in-List : (items : List Value) (index : ℕ) (bytes : List ℕ) → put_in (V.List items) index bytes ≡ put_in_layer (Value-F.List items) index bytes
unfolding put_in
put_in-List items index bytes = ap (λ layer. put_in_layer layer index bytes) (out-List items)

pub put_in-Int : (n : ℤ) (index : ℕ) (bytes : List ℕ) → put_in (V.Int n) index bytes ≡ None
unfolding put_in
put_in-Int n index bytes = ap (λ layer. put_in_layer layer index bytes) (out-Int n)

pub put_in-Bytes : (text : List ℕ) (index : ℕ) (bytes : List ℕ) → put_in (V.Bytes text) index bytes ≡ None
unfolding put_in
put_in-Bytes text index bytes = ap (λ layer. put_in_layer layer index bytes) (out-Bytes text)

pub put_in-Dict : (ps : List Pair) (index : ℕ) (bytes : List ℕ) → put_in (V.Dict ps) index bytes ≡ None
unfolding put_in
put_in-Dict ps index bytes = ap (λ layer. put_in_layer layer index bytes) (out-Dict ps)

pub put_in-fit : (items : List Value) (index : ℕ) (bytes : List ℕ) → is_empty_string (slice_get items index) ≡ true → put_in (V.List items) index bytes ≡ Some (V.List (slice_set items index (V.Bytes bytes)))
put_in-fit items index bytes h = put_in-List items index bytes ∙ ap (λ b. if b then Some (V.List (slice_set items index (V.Bytes bytes))) else None) h

pub put_in-misfit : (items : List Value) (index : ℕ) (bytes : List ℕ) → is_empty_string (slice_get items index) ≡ false → put_in (V.List items) index bytes ≡ None
put_in-misfit items index bytes h = put_in-List items index bytes ∙ ap (λ b. if b then Some (V.List (slice_set items index (V.Bytes bytes))) else None) h

pub empty_string : (v : Value) (layer : Value-F Value Pair) → out-Value v ≡ layer → is_empty_string (Some v) ≡ is_empty_layer layer
empty_string v layer is = ap is_empty_layer is

-- an item that is an empty byte string is there
pub item_there : (items : List Value) (index : ℕ) → is_empty_string (slice_get items index) ≡ true → index < length items
item_there [] index h = absurd (false≢true h)
item_there (v ∷ items) zero h = omega arith
item_there (v ∷ items) (suc index) h = let there = item_there items index h in omega arith

pub empty_is : (text : List ℕ) → is_empty_string (Some (V.Bytes text)) ≡ is_empty_layer (Value-F.Bytes text)
empty_is text = ap is_empty_layer (out-Bytes text)

pub no_string : (n : ℤ) (vs : List Value) (ps : List Pair) → (is_empty_string (Some (V.Int n)) ≡ false) × (is_empty_string (Some (V.List vs)) ≡ false) × (is_empty_string (Some (V.Dict ps)) ≡ false)
no_string n vs ps = (ap is_empty_layer (out-Int n), ap is_empty_layer (out-List vs), ap is_empty_layer (out-Dict ps))
