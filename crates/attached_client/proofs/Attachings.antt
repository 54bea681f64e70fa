-- A client is attached.
use Rattle.std.proofs.Common.{◌≡◌, ◌≤◌, Bool, true, false, Some, None, List, [], ◌∷◌, map, length, refl, ap, arith}
use Rattle.std.specs.Prelude.{Ok, All, codes}
use Rattle.std.specs.List.{AllByRecursion}
use Rattle.std.proofs.lemmas.List.Elements.{All-head, All-tail}
use Rattle.bencode_values.specs.Grammar.{spelled}
use Rattle.bencode_values.specs.declared.value.Value.{Value}
use Rattle.bencode_values.specs.declared.value.Value.TheVariants as V
use Rattle.hello_caps.specs.Replies.{server_hello_value, server_pairs}
use Rattle.packet_frames.specs.Written.{packet_bytes, filled, MayBeWritten}
use Rattle.window_model.specs.Desktop.{Window, IsWindow}
use Rattle.packet_kinds.specs.declared.to_client.ToClient.{ToClient}
use Rattle.packet_kinds.specs.declared.to_client.ToClient.TheVariants as T
use Rattle.packet_kinds.specs.Fields.{HasFields}
use Rattle.packet_kinds.specs.ToClients.{to_value, to_chunk}
use Rattle.packet_kinds.specs.ToShapes.{to_client}
use Rattle.packet_kinds.specs.Written.{IsMessage}
use Rattle.window_source.specs.Waiting.{Queued, Waiting, Carries, client_limit}
use Rattle.client_delivery.specs.Delivered.{packets_of, messages_of}
use Rattle.client_delivery.specs.Steps.{structure, announces}
use Rattle.attached_client.specs.Client.{plain_packet, hello_packet}
use Rattle.attached_client.specs.Laws.{AttachesSo}
use Rattle.attached_client.proofs.Messages.{Writes, announcement_carries}

-- what the server's hello comes to: it may be written, and how many bytes its value has
pub record Greets : Type 0 where
  pub written : (lossy : Bool) → MayBeWritten (server_hello_value lossy) None
  pub exact : spelled (server_hello_value false) ≡ codes "l5:hellod7:bencodei1e9:encodingsl5:rgb32e3:lz4i0e7:rencodei0e7:version1:1ee"
  pub lossy : spelled (server_hello_value true) ≡ codes "l5:hellod7:bencodei1e9:encodingsl5:rgb325:rgb16e3:lz4i0e7:rencodei0e7:version1:1ee"

abbrev pub greets : Bool → ToClient
greets lossy = T.Hello (Some (V.Dict (server_pairs lossy)))

abbrev Read : Type 0
Read = (m : ToClient) → HasFields m → (w : Value) × (filled (to_value m) (to_chunk m) ≡ Some w) × (to_client w ≡ Ok m)

pub hello_message : Read → Greets → (lossy : Bool) → IsMessage client_limit (packet_bytes (server_hello_value lossy) None) (greets lossy)
unfolding server_hello_value to_value to_chunk
hello_message read is lossy =
    let back = read (greets lossy) tt in
    record {
      value = server_hello_value lossy;
      chunk = None;
      whole = back.0;
      written = is.written lossy;
      within = record { content = sized lossy; chunk_content = tt };
      fits = back.1;
      bytes_are = refl;
      read = back.2;
    }
  where
    sized : (lossy : Bool) → length (spelled (server_hello_value lossy)) ≤ client_limit
    sized false = omega (arith, ap length is.exact)
    sized true = omega (arith, ap length is.lossy)

abbrev announcing : Window → Waiting
announcing w = structure (plain_packet (announces w)) (announces w)

module _ (writes : Writes) (greets_so : Greets) where
  all_carry : (desk : List Window) → All IsWindow desk → AllByRecursion Carries (map announcing desk)
  all_carry [] all = tt
  all_carry (w ∷ desk) all = (announcement_carries writes w (All-head IsWindow w desk all), all_carry desk (All-tail IsWindow w desk all))

  packets_announced : (desk : List Window) → packets_of (map announcing desk) ≡ map (λ (w : Window). plain_packet (announces w)) desk
  packets_announced [] = refl
  packets_announced (w ∷ desk) = ap (λ (l : List Queued). plain_packet (announces w) ∷ l) (packets_announced desk)

  messages_announced : (desk : List Window) → messages_of (map announcing desk) ≡ map announces desk
  messages_announced [] = refl
  messages_announced (w ∷ desk) = ap (λ (l : List ToClient). announces w ∷ l) (messages_announced desk)

  pub attaches_so : AttachesSo
  attaches_so desk conn now caps desktop = record {
    sources = refl;
    taken = refl;
    waiting = structure (hello_packet caps) (greets caps.lossy) ∷ map announcing desk;
    packets = ap (λ (l : List Queued). hello_packet caps ∷ l) (packets_announced desk);
    carried = (record { message = hello_message writes.read greets_so caps.lossy; draw = tt; plain = λ none x y. refl }, all_carry desk desktop.windows);
    hello = Some (V.Dict (server_pairs caps.lossy));
    messages = ap (λ (l : List ToClient). greets caps.lossy ∷ l) (messages_announced desk);
  }
