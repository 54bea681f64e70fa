-- What the bytes of a capture show.
use Rattle.std.proofs.Common.{◌≡◌, ℕ, ◌*◌, List, length, map, None, true, false, cond, refl, ap, sym, ◌∙◌, subst, arith}
use Rattle.std.proofs.lemmas.Option.{slice_get-map}
use Rattle.std.specs.List.{slice_get}
use Rattle.std.specs.Option.{option_map}
use Rattle.xp_base.specs.Points.{is_within}
use Rattle.xp_base.specs.Grid.{number_at, place_of}
use Rattle.xp_base.specs.Captures.{Captured, IsCapture}
use Rattle.rgb_encoders.specs.Colour.{shown}
use Rattle.rgb_encoders.specs.PixelBytes.{pixel_size, coded_bytes}
use Rattle.rgb_encoders.specs.Encoding.{Encoding, encoding_of, IsEncoding}
use Rattle.rgb_encoders.specs.Laws.{Shows}
use Rattle.rgb_encoders.proofs.Lengths.{length-coded_bytes}
use Rattle.rgb_encoders.proofs.Shown.{decoded-coded_bytes}

-- as many bytes as rows of them
rows : (pixels w h size bytes : ℕ) → bytes ≡ pixels * size → pixels ≡ w * h → bytes ≡ w * size * h
rows pixels w h size bytes is sized = let scaled = ap (λ n. n * size) sized in omega (arith, is, scaled)

-- a point of a list that is mapped
number_at-map : (f : ℕ → ℕ) (w h : ℕ) (numbers : List ℕ) (x y : ℕ) → number_at w h (map f numbers) x y ≡ option_map f (number_at w h numbers x y)
number_at-map f w h numbers x y =
    elim (is_within w h x y) as (λ b. cond b (slice_get (map f numbers) (place_of w x y)) None ≡ option_map f (cond b (slice_get numbers (place_of w x y)) None)) [
      | true ↦ slice_get-map f numbers (place_of w x y)
      | false ↦ refl
    ]

shows_encoding_of : (c : Captured) → IsCapture c → Shows (encoding_of c)
shows_encoding_of c whole = record {
  fits = record {
    wide = omega arith;
    high = rows (length c.pixels) c.rect.w c.rect.h (pixel_size c.coding) (length (coded_bytes c.coding c.pixels)) (length-coded_bytes c.coding c.pixels) whole.sized;
  };
  shows = decoded-coded_bytes c.coding c.rect.w c.rect.h c.pixels whole.sized;
  points = λ x y.
      ap (λ numbers. number_at c.rect.w c.rect.h numbers x y) (decoded-coded_bytes c.coding c.rect.w c.rect.h c.pixels whole.sized)
      ∙ number_at-map (shown c.coding) c.rect.w c.rect.h c.pixels x y;
}

pub shows_encoding : (e : Encoding) → IsEncoding e → IsCapture e.capture → Shows e
shows_encoding e coded whole =
    let is : encoding_of e.capture ≡ e = λ i. record { capture = e.capture; bytes = sym coded.coded i } in
    subst Shows is (shows_encoding_of e.capture whole)
