-- Rectangles drawn on plain grids: lists of numbers, row by row from the top, in rows of a given width. This project's own.
use Rattle.std.specs.Prelude.{ℕ, ◌+◌, ◌-◌, ◌*◌, ◌/◌, ◌%◌, List, map, length, replicate, slice_index, if◌then◌else◌}
use Rattle.std.specs.List.{range_with_len}
use Rattle.xp_base.specs.Points.{Rectangle, area, survives}
use Rattle.xp_base.specs.Grid.{is_place_in, place_of}

-- so many numbers, that at each place k being f k
abbrev pub tabulated : ℕ → (ℕ → ℕ) → List ℕ
tabulated count f = map f (range_with_len 0 count)

-- a new window of this size: all pixels 0
unfoldable pub blank : ℕ → ℕ → List ℕ
blank w h = replicate (w * h) 0

-- the colour stands in the rectangle; the rest is as before
unfoldable pub filled : ℕ → Rectangle → ℕ → List ℕ → List ℕ
filled wide r colour pixels = tabulated (length pixels) (λ k. if is_place_in wide r k then colour else slice_index pixels k)

-- where the k-th pixel of rows this wide stands in the rectangle's own rows
abbrev pub place_within : ℕ → Rectangle → ℕ → ℕ
place_within wide r k = place_of r.w (k % wide - r.x) (k / wide - r.y)

-- these numbers, row by row, stand in the rectangle; the rest is as before
unfoldable pub placed : ℕ → Rectangle → List ℕ → List ℕ → List ℕ
placed wide r numbers pixels =
    tabulated (length pixels) (λ k. if is_place_in wide r k then slice_index numbers (place_within wide r k) else slice_index pixels k)

-- where the k-th pixel of the rectangle's own rows stands in rows this wide
abbrev pub place_without : ℕ → Rectangle → ℕ → ℕ
place_without wide r k = place_of wide (r.x + k % r.w) (r.y + k / r.w)

-- the rectangle's numbers, row by row
unfoldable pub cropped : ℕ → Rectangle → List ℕ → List ℕ
cropped wide r pixels = tabulated (area r) (λ k. slice_index pixels (place_without wide r k))

-- a rectangle of the same sides at another place
abbrev pub put_at : ℕ → ℕ → Rectangle → Rectangle
put_at x y r = record r { x = x; y = y }

-- the rectangle's numbers, as they were, stand in the rectangle of its sides at this place; the rest is as before
abbrev pub copied : ℕ → Rectangle → ℕ → ℕ → List ℕ → List ℕ
copied wide r x y pixels = placed wide (put_at x y r) (cropped wide r pixels) pixels

-- pixels w0 by h0 become pixels w by h: each point of both keeps its number, and all else is 0
unfoldable pub resized : ℕ → ℕ → ℕ → ℕ → List ℕ → List ℕ
resized w0 h0 w h pixels =
    tabulated (w * h) (λ k. if survives w0 h0 w h (k % w) (k / w) then slice_index pixels (place_of w0 (k % w) (k / w)) else 0)
