-- What is written of a client's packets is read as the same packet.
use Rattle.std.proofs.Common.{◌≡◌, ℕ, List, [], ◌∷◌, refl, ◌∙◌}
use Rattle.std.specs.Prelude.{ℤ, Option, Some, None, Ok, codes}
use Rattle.bencode_values.specs.declared.value.Value.{Value}
use Rattle.bencode_values.specs.declared.value.Value.TheVariants as V
use Rattle.packet_frames.specs.Written.{MayBeWritten, IsWithin}
use Rattle.packet_kinds.specs.declared.from_client.FromClient.{FromClient}
use Rattle.packet_kinds.specs.declared.from_client.FromClient.TheVariants as C
use Rattle.packet_kinds.specs.Items.{need, text, bytes_at}
use Rattle.packet_kinds.specs.FromClients.{from_items, from_value, IsNamed}
use Rattle.packet_kinds.specs.FromShapes.{from_client, from_client_named}
use Rattle.packet_kinds.specs.FromWritten.{client_bytes, IsClientMessage}
use Rattle.packet_kinds.proofs.Items.{items_of-List, bytes_there, int_there, needed}

-- a list is read by its name
pub from_client-List : (name : List ℕ) (more : List Value) → from_client (V.List (text name ∷ more)) ≡ from_client_named name (text name ∷ more)
unfolding from_client
from_client-List name more =
    let items : List Value = text name ∷ more in
    needed 0 _ (λ items. need 0 (bytes_at items 0) (λ name. from_client_named name items)) items (items_of-List items)
    ∙ needed 0 _ (λ name. from_client_named name items) name (bytes_there items 0 name refl)

hello_back : (caps : Option Value) → from_client (V.List (from_items (C.Hello caps))) ≡ Ok (C.Hello caps)
hello_back None = from_client-List (codes "hello") []
hello_back (Some v) = from_client-List (codes "hello") (v ∷ [])

map_window_back : (wid : ℤ) (further : List Value) → from_client (V.List (from_items (C.MapWindow wid further))) ≡ Ok (C.MapWindow wid further)
map_window_back wid further = let a = int_there (from_items (C.MapWindow wid further)) 1 wid refl in from_client-List (codes "map-window") _ ∙ rw a refl

unmap_window_back : (wid : ℤ) (further : List Value) → from_client (V.List (from_items (C.UnmapWindow wid further))) ≡ Ok (C.UnmapWindow wid further)
unmap_window_back wid further = let a = int_there (from_items (C.UnmapWindow wid further)) 1 wid refl in from_client-List (codes "unmap-window") _ ∙ rw a refl

buffer_refresh_back : (wid : ℤ) (further : List Value) → from_client (V.List (from_items (C.BufferRefresh wid further))) ≡ Ok (C.BufferRefresh wid further)
buffer_refresh_back wid further = let a = int_there (from_items (C.BufferRefresh wid further)) 1 wid refl in from_client-List (codes "buffer-refresh") _ ∙ rw a refl

ping_back : (t : ℤ) (further : List Value) → from_client (V.List (from_items (C.Ping t further))) ≡ Ok (C.Ping t further)
ping_back t further = let a = int_there (from_items (C.Ping t further)) 1 t refl in from_client-List (codes "ping") _ ∙ rw a refl

module _ (sequence wid width height time : ℤ) where
  damage_sequence_back : (message : Option Value) → from_client (V.List (from_items (C.DamageSequence sequence wid width height time message))) ≡ Ok (C.DamageSequence sequence wid width height time message)
  damage_sequence_back None =
      let items : List Value = from_items (C.DamageSequence sequence wid width height time None) in
      let a = int_there items 1 sequence refl in
      let b = int_there items 2 wid refl in
      let c = int_there items 3 width refl in
      let d = int_there items 4 height refl in
      let e = int_there items 5 time refl in
      from_client-List (codes "damage-sequence") _ ∙ rw (a, b, c, d, e) refl
  damage_sequence_back (Some message) =
      let items : List Value = from_items (C.DamageSequence sequence wid width height time (Some message)) in
      let a = int_there items 1 sequence refl in
      let b = int_there items 2 wid refl in
      let c = int_there items 3 width refl in
      let d = int_there items 4 height refl in
      let e = int_there items 5 time refl in
      from_client-List (codes "damage-sequence") _ ∙ rw (a, b, c, d, e) refl

pub client_read_back : (m : FromClient) → IsNamed m → from_client (from_value m) ≡ Ok m
unfolding from_value
client_read_back (C.Hello caps) named = hello_back caps
client_read_back (C.MapWindow wid further) named = map_window_back wid further
client_read_back (C.UnmapWindow wid further) named = unmap_window_back wid further
client_read_back (C.DamageSequence sequence wid width height time message) named = damage_sequence_back sequence wid width height time message
client_read_back (C.BufferRefresh wid further) named = buffer_refresh_back wid further
client_read_back (C.Ping t further) named = ping_back t further
client_read_back (C.Disconnect further) named = from_client-List (codes "disconnect") further
client_read_back C.Other named = absurd named

-- so its bytes are a packet that is read as it
pub is_client_message : (m : FromClient) (bytes : List ℕ) → IsNamed m → MayBeWritten (from_value m) None → bytes ≡ client_bytes m
    → (limit : ℕ) → IsWithin limit (from_value m) None → IsClientMessage limit bytes m
is_client_message m bytes named may e limit within = record { value = from_value m; written = may; within = within; bytes_are = e; read = client_read_back m named }
