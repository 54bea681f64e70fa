use Rattle.std.proofs.Common.{◌≡◌, ◌*◌, ◌+◌, Some, ◌∙◌, sym, ap, arith, length, drop, None}
use Rattle.std.proofs.lemmas.List.{take_rest}
use Rattle.client_connection.specs.Clients.{ClientSeen, plain}
use Rattle.client_connection.specs.Wire.{map_window}
use Rattle.client_connection.specs.Hearing.{script_window, begun}
use Rattle.client_connection.proofs.Heard.{repeats_size, repeats_as, maps_over, maps_heard, map_window_some}
use Rattle.client_connection.proofs.client.Client.hear_maps.Goals as goal

pub overflow_mul-handled : goal.overflow_mul-handled
overflow_mul-handled c =
    let size = repeats_size c.as_slice-2.result.now c.in-Some-count_packets.count (drop (c.in-Some-count_packets.count * length c.as_slice-2.result.now) c.as_slice.result.now) c.as_slice.result.now c.in-Some-count_packets.ensures.some in
    let packet = ap length c.as_slice-2.ensures.value in
    let bytes = ap length c.as_slice.ensures.value in
    grind (arith, size, packet, bytes, c.len.ensures)

pub slice_bounds-begun_maps-count : goal.slice_bounds-begun_maps-count
slice_bounds-begun_maps-count c =
    let size = repeats_size c.as_slice-2.result.now c.in-Some-count_packets.count (drop (c.in-Some-count_packets.count * length c.as_slice-2.result.now) c.as_slice.result.now) c.as_slice.result.now c.in-Some-count_packets.ensures.some in
    let packet = ap length c.as_slice-2.ensures.value in
    let bytes = ap length c.as_slice.ensures.value in
    grind (arith, size, packet, bytes, c.len.ensures)

pub slice_bounds-begun_maps-start : goal.slice_bounds-begun_maps-start
slice_bounds-begun_maps-start c =
    let size = repeats_size c.as_slice-2.result.now c.in-Some-count_packets.count (drop (c.in-Some-count_packets.count * length c.as_slice-2.result.now) c.as_slice.result.now) c.as_slice.result.now c.in-Some-count_packets.ensures.some in
    let packet = ap length c.as_slice-2.ensures.value in
    let bytes = ap length c.as_slice.ensures.value in
    grind (arith, size, packet, bytes, c.len.ensures)

pub drain-requires-clause-in_bounds : goal.drain-requires-clause-in_bounds
drain-requires-clause-in_bounds c =
    let size = repeats_size c.as_slice-2.result.now c.in-Some-count_packets.count (drop (c.in-Some-count_packets.count * length c.as_slice-2.result.now) c.as_slice.result.now) c.as_slice.result.now c.in-Some-count_packets.ensures.some in
    let packet = ap length c.as_slice-2.ensures.value in
    let bytes = ap length c.as_slice.ensures.value in
    grind (arith, size, packet, bytes, c.len.ensures)

pub returns-then-count-begun-clause-unbuilt : goal.returns-then-count-begun-clause-unbuilt
returns-then-count-begun-clause-unbuilt c = λ err.
    let packet_is : c.as_slice-2.result.now ≡ map_window c.in-Some.geometry = c.as_slice-2.ensures.value ∙ c.in-Ok.ensures in
    let bytes_is : c.as_slice.result.now ≡ c.args.self.now.unread = c.as_slice.ensures.value ∙ ap (λ (s : ClientSeen). s.unread) c.self.view_is in
    let maps_is : c.self.inside.maps ≡ c.args.self.now.maps = ap (λ (s : ClientSeen). s.maps) c.self.view_is in
    let window_is : script_window c.args.paints.now ≡ Some c.in-Some.geometry = sym c.script_window.ensures ∙ c.in-Some.is in
    let size_is : c.len.result ≡ length (map_window c.in-Some.geometry) = c.len.ensures ∙ sym c.as_slice-2.ensures.len ∙ ap length packet_is in
    let begun_is : c.begun_maps-begun.result ≡ begun (drop (c.in-Some-count_packets.count * length (map_window c.in-Some.geometry)) c.args.self.now.unread) =
    c.begun_maps-begun.ensures ∙ ap begun (take_rest c.as_slice-3.result.now (c.in-Some-count_packets.count * c.len.result)
    ∙ ap (λ n. drop (c.in-Some-count_packets.count * n) c.as_slice-3.result.now) size_is ∙ ap (drop (c.in-Some-count_packets.count * length (map_window c.in-Some.geometry))) (c.as_slice-3.ensures.value ∙ ap (λ (s : ClientSeen). s.unread) c.self.view_is)) in
    maps_over c.args.paints.now c.in-Some.geometry (plain c.args.self.now) c.args.self.now.unread _ c.in-Some-count_packets.count window_is (map_window_some c.in-Some.geometry)
    (repeats_as _ _ _ _ c.in-Some-count_packets.count packet_is bytes_is c.in-Some-count_packets.ensures.some) (omega (arith, c.if-count-begun.true, maps_is, begun_is, c.self.invariant.counted))

pub returns-clause-ok : goal.returns-clause-ok
returns-clause-ok c =
    let packet_is : c.as_slice-2.result.now ≡ map_window c.in-Some.geometry = c.as_slice-2.ensures.value ∙ c.in-Ok.ensures in
    let window_is : script_window c.args.paints.now ≡ Some c.in-Some.geometry = sym c.script_window.ensures ∙ c.in-Some.is in
    let size_is : c.len.result ≡ length (map_window c.in-Some.geometry) = c.len.ensures ∙ sym c.as_slice-2.ensures.len ∙ ap length packet_is in
    let begun_is : c.begun_maps-begun.result ≡ begun (drop (c.in-Some-count_packets.count * length (map_window c.in-Some.geometry)) c.self.inside.unread.items) =
    c.begun_maps-begun.ensures ∙ ap begun (take_rest c.as_slice-3.result.now (c.in-Some-count_packets.count * c.len.result)
    ∙ ap (λ n. drop (c.in-Some-count_packets.count * n) c.as_slice-3.result.now) size_is ∙ ap (drop (c.in-Some-count_packets.count * length (map_window c.in-Some.geometry))) (c.as_slice-3.ensures.value)) in
    let rest_is : c.drop-drain.new.self.0.items ≡ drop (c.in-Some-count_packets.count * length (map_window c.in-Some.geometry)) c.self.inside.unread.items =
    c.drop-drain.ensures.items ∙ c.drain.ensures.kept ∙ ap (λ n. drop (c.in-Some-count_packets.count * n) c.self.inside.unread.items) (c.len.ensures ∙ sym c.as_slice-2.ensures.len ∙ ap length packet_is) in
    let old : ClientSeen = record { greeted = c.self.inside.greeted; maps = c.self.inside.maps; unread = c.self.inside.unread.items; sources = c.self.inside.sources.items; packets = c.self.inside.packets.items; taken = c.self.inside.taken; room = 0; next = None } in
    rw (← c.self.view_is) (maps_heard c.args.paints.now c.in-Some.geometry old c.self.inside.unread.items _ c.in-Some-count_packets.count _ window_is
    (repeats_as _ _ _ _ c.in-Some-count_packets.count packet_is c.as_slice.ensures.value c.in-Some-count_packets.ensures.some) (omega (arith, c.if-count-begun.false, begun_is, c.self.invariant.counted))
    (λ i. record { greeted = c.self.inside.greeted; maps = c.self.inside.maps + c.in-Some-count_packets.count; unread = rest_is i; sources = c.map_sources.ensures i; packets = c.self.inside.packets.items; taken = c.self.inside.taken; room = 0; next = None }))
