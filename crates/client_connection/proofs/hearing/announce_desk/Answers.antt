use Rattle.std.proofs.Common.{◌≡◌, ◌<◌, ◌∷◌, ◌++◌, [], List, get_or, take, map, length, ap, ◌∙◌, arith}
use Rattle.window_model.specs.Desktop.{Window}
use Rattle.client_connection.specs.Clients.{fresh_source, structure_packet, announcement}
use Rattle.client_connection.specs.Wire.{server_hello, geometry_of, new_window}
use Rattle.client_connection.specs.declared.packet.Announcement.{Announcement}
use Rattle.client_connection.proofs.Taking.{map_more}
use Rattle.client_connection.proofs.hearing.announce_desk.Goals as goal

pub loop-window-preserved : goal.loop-window-preserved
loop-window-preserved c =
    let within : c.loop-window.window-index < length c.args.desk.now = omega (arith, ap length c.as_slice-window-items.ensures) in
    let item = c.window-item.is ∙ ap (λ (xs : List Window). get_or xs c.loop-window.window-index c.window-item.result) c.as_slice-window-items.ensures in
    let made : c.in_ok-announcement.announcement ≡ announcement (geometry_of c.window-item.result) = c.in_ok-announcement.ensures ∙ ap announcement c.of.ensures in
    record {
      sources = c.in_ok-push-2.ensures.items ∙ ap (λ xs. xs ++ c.in_ok-announcement.announcement.source ∷ []) c.loop-window.invariant.sources
          ∙ ap (λ (a : Announcement). map (λ w. fresh_source (geometry_of w)) (take c.loop-window.window-index c.args.desk.now) ++ a.source ∷ []) made ∙ map_more (λ w. fresh_source (geometry_of w)) c.args.desk.now c.loop-window.window-index c.window-item.result within item;
      packets = c.in_ok-push-3.ensures.items ∙ ap (λ xs. xs ++ c.in_ok-announcement.announcement.packet ∷ []) c.loop-window.invariant.packets
          ∙ ap (λ (a : Announcement). (structure_packet server_hello ∷ map (λ w. structure_packet (new_window (geometry_of w))) (take c.loop-window.window-index c.args.desk.now)) ++ a.packet ∷ []) made ∙ ap (λ ps. structure_packet server_hello ∷ ps) (map_more (λ w. structure_packet (new_window (geometry_of w))) c.args.desk.now c.loop-window.window-index c.window-item.result within item);
    }
