-- A client's hello, and the capabilities that the server reads from it. The hello is a list of the byte string `hello`
-- and a dictionary. The keys are named after Xpra's; which of them are read, and how, is this project's own.
use Rattle.std.specs.Prelude.{ℕ, Bool, true, false, ◌||◌, ◌==◌, Option, Some, None, Result, Ok, Err, option_and_then, List, [], ◌∷◌, length, codes, nat_le, if◌then◌else◌}
use Rattle.std.specs.List.{list_any}
use Rattle.std.specs.Cmp.Lexicographic.{pointwise}
use Rattle.bencode_values.specs.Lookup.{last_value}
use Rattle.bencode_values.specs.declared.value.Value.{Value, out-Value}
use Rattle.bencode_values.specs.declared.value.Value.TheOpen.{Value-F}
use Rattle.bencode_values.specs.declared.value.Pair.{Pair}
use Rattle.hello_caps.specs.declared.caps.Caps.{Caps}
use Rattle.hello_caps.specs.declared.caps.HelloFault.{HelloFault}
use Rattle.hello_caps.specs.declared.caps.HelloFault.TheVariants as F

abbrev pub items_layer : Value-F Value Pair → Option (List Value)
items_layer (Value-F.Int n) = None
items_layer (Value-F.Bytes text) = None
items_layer (Value-F.List items) = Some items
items_layer (Value-F.Dict pairs) = None

-- the items, where the value is a list
abbrev pub items_of : Value → Option (List Value)
items_of v = items_layer (out-Value v)

abbrev pub pairs_layer : Value-F Value Pair → Option (List Pair)
pairs_layer (Value-F.Int n) = None
pairs_layer (Value-F.Bytes text) = None
pairs_layer (Value-F.List items) = None
pairs_layer (Value-F.Dict pairs) = Some pairs

-- the pairs, where the value is a dictionary
abbrev pub pairs_of : Value → Option (List Pair)
pairs_of v = pairs_layer (out-Value v)

abbrev pub text_layer : Value-F Value Pair → Option (List ℕ)
text_layer (Value-F.Int n) = None
text_layer (Value-F.Bytes text) = Some text
text_layer (Value-F.List items) = None
text_layer (Value-F.Dict pairs) = None

-- the bytes, where the value is a byte string
abbrev pub text_of : Value → Option (List ℕ)
text_of v = text_layer (out-Value v)

abbrev pub is_same_text : List ℕ → Option (List ℕ) → Bool
is_same_text text None = false
is_same_text text (Some bytes) = pointwise (λ a b. a == b) bytes text

-- whether the value is this byte string
abbrev pub is_text : List ℕ → Value → Bool
is_text text v = is_same_text text (text_of v)

-- whether an item is this byte string
abbrev pub holds : List ℕ → List Value → Bool
holds text items = list_any (is_text text) items

abbrev pub hello_pairs : List Value → Option (List Pair)
hello_pairs [] = None
hello_pairs (first ∷ []) = None
hello_pairs (first ∷ second ∷ further) = if is_text (codes "hello") first then pairs_of second else None

-- the dictionary of a hello: it stands second, behind the byte string `hello`; further items are ignored
abbrev pub dictionary_of : Value → Option (List Pair)
dictionary_of v = option_and_then hello_pairs (items_of v)

-- what stands under a key, where it is a list, and where it is a byte string; of pairs with one key the last counts
abbrev pub list_under : List ℕ → List Pair → Option (List Value)
list_under key pairs = option_and_then items_of (last_value key pairs)

abbrev pub text_under : List ℕ → List Pair → Option (List ℕ)
text_under key pairs = option_and_then text_of (last_value key pairs)

-- `encodings`: a list must hold `rgb32` or `rgb`; where there is none it counts as `rgb32`
abbrev pub takes_rgb : Option (List Value) → Bool
takes_rgb None = true
takes_rgb (Some items) = holds (codes "rgb32") items || holds (codes "rgb") items

-- `encodings.rgb_formats`: lossy draws are allowed by a list that holds `BGR565`, and by nothing else
abbrev pub takes_lossy : Option (List Value) → Bool
takes_lossy None = false
takes_lossy (Some items) = holds (codes "BGR565") items

-- `uuid`: a byte string of up to 64 bytes; where there is none, or an empty one, the client is anonymous
abbrev pub uuid_of : Option (List ℕ) → Result (List ℕ) HelloFault
uuid_of None = Ok []
uuid_of (Some text) = if nat_le (length text) 64 then Ok text else Err (F.Uuid (length text))

abbrev pub with_uuid : Bool → Result (List ℕ) HelloFault → Result Caps HelloFault
with_uuid lossy (Ok uuid) = Ok (record { lossy = lossy; uuid = uuid })
with_uuid lossy (Err fault) = Err fault

-- the capabilities in a hello's dictionary
unfoldable pub caps_of : List Pair → Result Caps HelloFault
caps_of pairs =
    if takes_rgb (list_under (codes "encodings") pairs)
    then with_uuid (takes_lossy (list_under (codes "encodings.rgb_formats") pairs)) (uuid_of (text_under (codes "uuid") pairs))
    else Err F.NoEncoding

abbrev pub caps_or_fault : Option (List Pair) → Result Caps HelloFault
caps_or_fault None = Err F.NotHello
caps_or_fault (Some pairs) = caps_of pairs

-- the capabilities that a client's first packet says, or why it is refused
unfoldable pub hello_of : Value → Result Caps HelloFault
hello_of v = caps_or_fault (dictionary_of v)
