use Rattle.std.proofs.Common.{◌≡◌, ℕ, ◌*◌, w64, to_z, length, sym, ◌∙◌, ap, subst}
use Rattle.std.specs.Prelude.{ℤ, pos}
use Rattle.std.proofs.lemmas.Int.{to_z_pos}
use Rattle.xp_base.specs.Captures.{Captured}
use Rattle.xp_base.specs.Points.{Rectangle, area}
use Rattle.rgb_encoders.specs.Encoding.{Encoding}
use Rattle.rgb_encoders.specs.Laws.{row_stride, Shows}
use Rattle.packet_kinds.specs.declared.to_client.ToClient.{ToClient}
use Rattle.packet_kinds.specs.declared.to_client.ToClient.TheVariants as T
use Rattle.window_source.specs.Drafts.{Draws}
use Rattle.window_source.proofs.DraftsLemmas.{draws_so}
use Rattle.window_source.proofs.drafts.draw_message.Goals as goal

pub returns-clause-draw : goal.returns-clause-draw
returns-clause-draw c =
    let e : Encoding = c.args.encoded.now in
    let rect : Rectangle = record { x = c.rect.inside.x; y = c.rect.inside.y; w = c.rect.inside.w; h = c.rect.inside.h } in
    let captured : Captured = record { rect = rect; coding = c.capture.inside.coding; pixels = c.capture.inside.pixels } in
    let at : captured ≡ e.capture = ap (λ (r : Rectangle). record { rect = r; coding = c.capture.inside.coding; pixels = c.capture.inside.pixels }) c.rect.view_is
    ∙ c.capture.view_is ∙ c.deref-capture.ensures ∙ ap (λ (d : Encoding). d.capture) c.encoded.view_is in
    let own : Encoding = record { capture = captured; bytes = e.bytes } in
    let is : own ≡ e = λ i. record { capture = at i; bytes = e.bytes } in
    let shows : Shows own = subst (λ (d : Encoding). Shows d) (sym is) c.encoded_shows.ensures in
    let sized : length captured.pixels ≡ area rect = c.capture.invariant.sized ∙ ap (λ (r : Rectangle). area r) (sym c.rect.view_is) in
    let stride : c.rect.inside.w * c.pixel_size.result ≡ row_stride captured = ap (λ n. c.rect.inside.w * n) c.pixel_size.ensures in
    let message : ℤ → ToClient = λ n. T.Draw c.args.wid rect.x rect.y rect.w rect.h c.capture.inside.coding c.args.bytes n (c.rect.inside.w * c.pixel_size.result) in
    let so : Draws c.args.wid c.args.sequence own (message (pos c.args.sequence)) =
    draws_so c.args.wid c.args.sequence (c.rect.inside.w * c.pixel_size.result) own c.args.bytes c.a_draw_holds_its_pixels.ensures shows sized c.requires.copied stride in
    let here : Draws c.args.wid c.args.sequence e (message (pos c.args.sequence)) = subst (λ (d : Encoding). Draws c.args.wid c.args.sequence d (message (pos c.args.sequence))) is so in
    let number : to_z w64 c.args.sequence ≡ pos c.args.sequence = to_z_pos w64 c.args.sequence c.requires.small in
    subst (λ (n : ℤ). Draws c.args.wid c.args.sequence e (message n)) (sym number) here
