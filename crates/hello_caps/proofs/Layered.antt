-- The forms of values.
use Rattle.std.proofs.Common.{◌≡◌, ℕ, None, Some, List, ap}
use Rattle.std.specs.Prelude.{ℤ}
use Rattle.bencode_values.specs.declared.value.Value.{Value}
use Rattle.bencode_values.specs.declared.value.Value.TheVariants as V
use Rattle.bencode_values.specs.declared.value.Pair.{Pair}
use Rattle.packet_frames.proofs.Layers.{out-Int, out-Bytes, out-List, out-Dict}
use Rattle.hello_caps.specs.Capabilities.{items_layer, items_of, pairs_layer, pairs_of, text_layer, text_of}

pub items_of-Int : (n : ℤ) → items_of (V.Int n) ≡ None
items_of-Int n = ap items_layer (out-Int n)

pub items_of-Bytes : (text : List ℕ) → items_of (V.Bytes text) ≡ None
items_of-Bytes text = ap items_layer (out-Bytes text)

pub items_of-List : (items : List Value) → items_of (V.List items) ≡ Some items
items_of-List items = ap items_layer (out-List items)

pub items_of-Dict : (pairs : List Pair) → items_of (V.Dict pairs) ≡ None
items_of-Dict pairs = ap items_layer (out-Dict pairs)

pub pairs_of-Int : (n : ℤ) → pairs_of (V.Int n) ≡ None
pairs_of-Int n = ap pairs_layer (out-Int n)

pub pairs_of-Bytes : (text : List ℕ) → pairs_of (V.Bytes text) ≡ None
pairs_of-Bytes text = ap pairs_layer (out-Bytes text)

pub pairs_of-List : (items : List Value) → pairs_of (V.List items) ≡ None
pairs_of-List items = ap pairs_layer (out-List items)

pub pairs_of-Dict : (pairs : List Pair) → pairs_of (V.Dict pairs) ≡ Some pairs
pairs_of-Dict pairs = ap pairs_layer (out-Dict pairs)

pub text_of-Int : (n : ℤ) → text_of (V.Int n) ≡ None
text_of-Int n = ap text_layer (out-Int n)

pub text_of-Bytes : (text : List ℕ) → text_of (V.Bytes text) ≡ Some text
text_of-Bytes text = ap text_layer (out-Bytes text)

pub text_of-List : (items : List Value) → text_of (V.List items) ≡ None
text_of-List items = ap text_layer (out-List items)

pub text_of-Dict : (pairs : List Pair) → text_of (V.Dict pairs) ≡ None
text_of-Dict pairs = ap text_layer (out-Dict pairs)
