-- Packets of messages that are no draws.
use Rattle.std.proofs.Common.{◌≡◌, ℕ, ◌≤◌, ◌<◌, ◌^◌, ℤ, Some, refl, arith}
use Rattle.std.specs.Prelude.{Ok}
use Rattle.bencode_values.specs.declared.value.Value.{Value}
use Rattle.packet_frames.specs.Written.{filled, MayBeWritten, IsWithin}
use Rattle.window_model.specs.Desktop.{Window, IsWindow}
use Rattle.window_model.specs.Geometry.{Geometry, IsGeometry, geometry_of}
use Rattle.packet_kinds.specs.declared.to_client.ToClient.{ToClient}
use Rattle.packet_kinds.specs.declared.to_client.ToClient.TheVariants as T
use Rattle.packet_kinds.specs.Fields.{HasFields, IsPlain, IsInteger, drawn_size}
use Rattle.packet_kinds.specs.ToClients.{to_value, to_chunk}
use Rattle.packet_kinds.specs.ToShapes.{to_client}
use Rattle.packet_kinds.specs.Written.{message_bytes, IsMessage}
use Rattle.window_source.specs.Waiting.{Carries, client_limit}
use Rattle.client_delivery.specs.Steps.{structure, announces}
use Rattle.attached_client.specs.Client.{plain_packet, announced_at}

-- what is read is what was written, what may be written, and what is small: the laws of messages
pub record Writes : Type 0 where
  pub read : (m : ToClient) → HasFields m → (w : Value) × (filled (to_value m) (to_chunk m) ≡ Some w) × (to_client w ≡ Ok m)
  pub written : (m : ToClient) → IsPlain m → HasFields m → drawn_size m < 2 ^ 32 → MayBeWritten (to_value m) (to_chunk m)
  pub within : (m : ToClient) (limit : ℕ) → IsPlain m → HasFields m → 1000 ≤ limit → drawn_size m ≤ limit → IsWithin limit (to_value m) (to_chunk m)

module _ (writes : Writes) where
  pub is_message : (m : ToClient) → IsPlain m → HasFields m → drawn_size m ≡ 0 → IsMessage client_limit (message_bytes m) m
  is_message m plain fields none =
      let it = writes.read m fields in
      record {
        value = to_value m;
        chunk = to_chunk m;
        whole = it.0;
        written = writes.written m plain fields (omega (arith, none));
        within = writes.within m client_limit plain fields (omega arith) (omega (arith, none));
        fits = it.1;
        bytes_are = refl;
        read = it.2;
      }

  pub echo_carries : (t : ℤ) → IsInteger t → Carries (structure (plain_packet (T.PingEcho t)) (T.PingEcho t))
  echo_carries t fits = record { message = is_message (T.PingEcho t) tt fits refl; draw = tt; plain = λ none x y. refl }

  pub geometry_carries : (g : Geometry) → IsGeometry g → Carries (structure (announced_at g) (T.NewWindow g.wid g.x g.y g.w g.h))
  geometry_carries g is = record { message = is_message (T.NewWindow g.wid g.x g.y g.w g.h) tt fields refl; draw = tt; plain = λ none x y. refl }
    where
      fields : HasFields (T.NewWindow g.wid g.x g.y g.w g.h)
      fields = (record { first = is.first; last = omega (arith, is.last) }, is.across, is.down, is.wide, is.high)

  pub announcement_carries : (w : Window) → IsWindow w → Carries (structure (plain_packet (announces w)) (announces w))
  announcement_carries w is = geometry_carries (geometry_of w) (record { first = is.first; last = is.last; across = is.across; down = is.down; wide = is.wide; high = is.high })
