-- Draws by their names.
use Rattle.std.proofs.Common.{◌≡◌, ℕ, List, ap, sym, ◌∙◌}
use Rattle.std.specs.Prelude.{Option, Some, None, codes, slice_get}
use Rattle.std.specs.Option.{option_and_then}
use Rattle.bencode_values.specs.declared.value.Value.{Value}
use Rattle.packet_kinds.specs.Items.{need, bytes_of, bytes_at}
use Rattle.packet_kinds.specs.ToShapes.{list_to_client, to_client_named, draw_in}
use Rattle.packet_kinds.proofs.Items.{needed}

pub draw_named : (items : List Value) (name : List ℕ) → bytes_at items 0 ≡ Some name → name ≡ codes "draw" → list_to_client items ≡ draw_in items
draw_named items name there is = needed 0 (bytes_at items 0) (λ n. to_client_named n items) name there ∙ ap (λ n. to_client_named n items) is

-- the item at a place whose bytes are there
pub bytes_of_item : (items : List Value) (i : ℕ) (v : Value) (bytes : List ℕ) → slice_get items i ≡ Some v → bytes_at items i ≡ Some bytes → bytes_of v ≡ Some bytes
bytes_of_item items i v bytes there is = sym (ap (option_and_then bytes_of) there) ∙ is

pub clash : {A : Type 0} {a : A} → None ≡ Some a → ⊥
clash e = cc

pub same_bytes : (a b : List ℕ) → Some a ≡ Some b → a ≡ b
same_bytes a b e = cc
