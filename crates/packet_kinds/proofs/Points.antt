-- What a packet makes of a window's points.
use Rattle.std.proofs.Common.{length, leb, eqb, eq-eqb, ◌≡◌, ◌-◌, ◌*◌, true, Some, ◌∙◌, arith}
use Rattle.std.proofs.lemmas.Bool.{and_parts, and_from, le-leb}
use Rattle.std.proofs.lemmas.Bool.Decides.{nat_tests}
use Rattle.xp_base.specs.Points.{is_in, is_within}
use Rattle.xp_base.specs.Grid.{number_at}
use Rattle.window_model.proofs.Points.{cond_same, blank_shows_lem, placed_shows_lem, resized_shows_lem}
use Rattle.rgb_encoders.specs.PixelBytes.{pixel_size}
use Rattle.rgb_encoders.specs.Decoded.{decoded_at, decoded}
use Rattle.rgb_encoders.proofs.Points.{length-decoded, number_at-decoded}
use Rattle.packet_kinds.specs.Laws.{DrawShows, DrawHoldsPixels, NewWindowShows, ResizeShows}

pub draw_shows : DrawShows
draw_shows window r coding stride bytes x y sized within =
    let numbers = decoded coding r.w r.h stride bytes in
    placed_shows_lem window.w window.h r numbers window.pixels x y sized (length-decoded coding r.w r.h stride bytes) within
    ∙ cond_same (is_in r x y) (number_at r.w r.h numbers (x - r.x) (y - r.y)) (Some (decoded_at coding stride bytes (x - r.x) (y - r.y))) (number_at window.w window.h window.pixels x y)
    (λ inside. number_at-decoded coding r.w r.h stride bytes (x - r.x) (y - r.y) (grind (arith, nat_tests)) (grind (arith, nat_tests)))

pub draw_holds_pixels : DrawHoldsPixels
draw_holds_pixels coding w h stride bytes =
    let wide = w * pixel_size coding in
    let high = stride * h in (
      λ e. let parts = and_parts (leb wide stride) (eqb (length bytes) high) e in let one = parts.0 in let two = parts.1 in record { wide = grind (arith, nat_tests); high = grind (arith, nat_tests) },
      λ holds. and_from (leb wide stride) (eqb (length bytes) high) (le-leb wide stride holds.wide) (eq-eqb (length bytes) high holds.high),
    )

pub new_window_shows : NewWindowShows
new_window_shows wid x y w h a b within = blank_shows_lem w h a b within

pub resize_shows : ResizeShows
resize_shows window w h x y sized within = resized_shows_lem window.w window.h w h window.pixels x y sized within
