-- A draw shows in its window what the part of it that lies there shows.
use Rattle.std.proofs.Common.{◌≡◌, ◌⊎◌, inl, inr, ℕ, ◌+◌, ◌-◌, ◌*◌, ◌/◌, ◌%◌, ◌<◌, ◌≤◌, Bool, true, false, ◌&&◌, Some, List, length, take, get_or, cond, leb, ltb, refl, sym, ap, ◌∙◌, arith, min}
use Rattle.std.proofs.Math.Nat.{mul_comm, mul-le-mul_right}
use Rattle.std.proofs.lemmas.Bool.{cond-true}
use Rattle.std.proofs.lemmas.Bool.Decides.{nat_tests}
use Rattle.std.proofs.lemmas.List.{get_or-take}
use Rattle.std.proofs.lemmas.Nat.{mod_below, div_below}
use Rattle.xp_base.specs.declared.coding.Coding.{Coding}
use Rattle.xp_base.specs.declared.coding.Coding.TheVariants.{Exact, Lossy}
use Rattle.xp_base.specs.Points.{Rectangle, is_in, clip}
use Rattle.xp_base.specs.Grid.{place_of, is_place_in}
use Rattle.rgb_encoders.specs.Colour.{colour, expansion}
use Rattle.rgb_encoders.specs.PixelBytes.{pixel_size, colour_at}
use Rattle.rgb_encoders.specs.Decoded.{decoded_at, decoded, HoldsPixels}
use Rattle.rgb_encoders.proofs.Points.{decoded-place}
use Rattle.window_model.specs.Drawing.{placed, place_within}
use Rattle.window_model.proofs.Drawings.{length-placed, get_or-placed, placed_from}
use Rattle.window_model.proofs.Points.{cond_same}
use Rattle.window_model.proofs.Places.{some_width}

-- in the window a side is met where its clipped side is
pub one_side : (a side limit x : ℕ) → x < limit → (leb a x && ltb x (a + (min (a + side) limit - a))) ≡ (leb a x && ltb x (a + side))
one_side a side limit x inside = grind (arith, nat_tests)

pub same_in : (w h : ℕ) (r : Rectangle) (x y : ℕ) → x < w → y < h → is_in (clip w h r) x y ≡ is_in r x y
same_in w h r x y across down =
    ap (λ b. b && (leb r.y y && ltb y (r.y + (min (r.y + r.h) h - r.y)))) (one_side r.x r.w w x across)
    ∙ ap (λ b. (leb r.x x && ltb x (r.x + r.w)) && b) (one_side r.y r.h h y down)

-- a byte of a pixel in the first rows is one of the first bytes
pub byte_before : (size w h stride x y i : ℕ) → x < w → y < h → i < size → w * size ≤ stride → y * stride + x * size + i < stride * h
byte_before size w h stride x y i left above some wide =
    let one : (x + 1) * size ≤ w * size = mul-le-mul_right size (omega arith) in
    let two : (y + 1) * stride ≤ h * stride = mul-le-mul_right stride (omega arith) in
    let e = mul_comm h stride in
    omega (arith, one, two, e, wide, some)

colour_front : (coding : Coding) (n : ℕ) (bytes : List ℕ) (place : ℕ) → ((i : ℕ) → i < pixel_size coding → place + i < n) → colour_at coding (take n bytes) place ≡ colour_at coding bytes place
colour_front Exact n bytes place within =
    let zero_at : place < n = omega (arith, within 0 (omega arith)) in
    ap (λ r. colour r (get_or (take n bytes) (place + 1) 0) (get_or (take n bytes) place 0)) (get_or-take n bytes (place + 2) 0 (within 2 (omega arith)))
    ∙ ap (λ g. colour (get_or bytes (place + 2) 0) g (get_or (take n bytes) place 0)) (get_or-take n bytes (place + 1) 0 (within 1 (omega arith)))
    ∙ ap (λ b. colour (get_or bytes (place + 2) 0) (get_or bytes (place + 1) 0) b) (get_or-take n bytes place 0 zero_at)
colour_front Lossy n bytes place within =
    let zero_at : place < n = omega (arith, within 0 (omega arith)) in
    ap (λ high. expansion (high * 256 + get_or (take n bytes) place 0)) (get_or-take n bytes (place + 1) 0 (within 1 (omega arith)))
    ∙ ap (λ low. expansion (get_or bytes (place + 1) 0 * 256 + low)) (get_or-take n bytes place 0 zero_at)

-- the first rows decode as they do among all
pub decoded_front : (coding : Coding) (stride h : ℕ) (bytes : List ℕ) (w x y : ℕ) → x < w → y < h → w * pixel_size coding ≤ stride
    → decoded_at coding stride (take (stride * h) bytes) x y ≡ decoded_at coding stride bytes x y
decoded_front coding stride h bytes w x y left above wide =
    colour_front coding (stride * h) bytes (y * stride + x * pixel_size coding) (λ i some. byte_before (pixel_size coding) w h stride x y i left above some wide)

module _ (coding : Coding) (wide high stride : ℕ) (r : Rectangle) (bytes pixels : List ℕ) (sized : length pixels ≡ wide * high) (holds : HoldsPixels coding r.w r.h stride bytes) where
  abbrev c : Rectangle
  c = clip wide high r

  abbrev front : List ℕ
  front = decoded coding c.w c.h stride (take (stride * c.h) bytes)

  abbrev all : List ℕ
  all = decoded coding r.w r.h stride bytes

  same_number : (x y : ℕ) → x < wide → y < high → is_in r x y ≡ true → get_or front (place_of c.w (x - r.x) (y - r.y)) 0 ≡ get_or all (place_of r.w (x - r.x) (y - r.y)) 0
  same_number x y across down inside =
      let left : x - r.x < r.w = grind (arith, nat_tests) in
      let above : y - r.y < r.h = grind (arith, nat_tests) in
      let left_part : x - r.x < c.w = grind (arith, nat_tests) in
      let above_part : y - r.y < c.h = grind (arith, nat_tests) in
      decoded-place coding c.w c.h stride (take (stride * c.h) bytes) (x - r.x) (y - r.y) left_part above_part
      ∙ decoded_front coding stride c.h bytes r.w (x - r.x) (y - r.y) left above_part holds.wide
      ∙ sym (decoded-place coding r.w r.h stride bytes (x - r.x) (y - r.y) left above)

  -- the part put where it lies is the whole put where it lies
  pub clipped_placed : placed wide c front pixels ≡ placed wide r all pixels
  clipped_placed =
      placed_from wide r all pixels (placed wide c front pixels) (length-placed wide c front pixels)
      (λ k within.
      let there : k < wide * high = omega (arith, sized) in
      let some : 0 < wide = some_width wide high k there in
      let across : k % wide < wide = mod_below k wide some in
      let down : k / wide < high = div_below k wide high some (omega (arith, there, mul_comm wide high)) in
      get_or-placed wide c front pixels k within
      ∙ ap (λ b. cond b (get_or front (place_within wide c k) 0) (get_or pixels k 0)) (same_in wide high r (k % wide) (k / wide) across down)
      ∙ cond_same (is_place_in wide r k) (get_or front (place_within wide c k) 0) (get_or all (place_within wide r k) 0) (get_or pixels k 0)
      (λ inside. same_number (k % wide) (k / wide) across down inside))

  -- where none of it lies in the window nothing is put
  pub unseen_placed : (c.w ≡ 0) ⊎ (c.h ≡ 0) → placed wide r all pixels ≡ pixels
  unseen_placed none =
      sym (placed_from wide r all pixels pixels refl
      (λ k within.
      let there : k < wide * high = omega (arith, sized) in
      let some : 0 < wide = some_width wide high k there in
      let across : k % wide < wide = mod_below k wide some in
      let down : k / wide < high = div_below k wide high some (omega (arith, there, mul_comm wide high)) in
      ap (λ b. cond b (get_or all (place_within wide r k) 0) (get_or pixels k 0)) (sym (outside (k % wide) (k / wide) across down none)))) where
        outside : (x y : ℕ) → x < wide → y < high → (c.w ≡ 0) ⊎ (c.h ≡ 0) → is_in r x y ≡ false
        outside x y across down (inl empty) = grind (arith, nat_tests)
        outside x y across down (inr empty) = grind (arith, nat_tests)
