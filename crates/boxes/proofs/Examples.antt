-- Examples of boxes and of their gaps.
use mathlib.Core.Path.{◌≡◌, refl}
use mathlib.Core.List.{List, [], ◌∷◌, flat_map, zip_with}
use Prim.Native.Nat.{ℕ}
use lib.IntN.{ℤ, pos, negsuc}
use Rattle.order.specs.Lists.{sum}
use Rattle.order.specs.Order.{first_of, foremost}
use Rattle.site.specs.Site.{gap, square}
use Rattle.site.specs.SiteList.{site, raised_site}
use Rattle.boxes.specs.Box.{edges, box_around, coordinate_columns, box_of, range_gap, gaps, squared_box_gap}

-- The edges of y stand at neither end, in no order.
around :
    box_of (site (pos 0) (pos 2) 1 ∷ site (pos 4) (negsuc 2) 2 ∷ site (pos 4) (pos 7) 3 ∷ site (pos 9) (pos 0) 4 ∷ [])
    ≡ pos 0 ∷ pos 9 ∷ negsuc 2 ∷ pos 7 ∷ []
unfolding box_of box_around coordinate_columns edges first_of flat_map foremost zip_with
around = refl

-- With heights, whose edges stand elsewhere than those of y.
around_up :
    box_of
    (raised_site (pos 0) (pos 2) 1 (pos 6)
    ∷ raised_site (pos 4) (negsuc 2) 2 (pos 30)
    ∷ raised_site (pos 4) (pos 7) 3 (negsuc 4)
    ∷ raised_site (pos 9) (pos 0) 4 (pos 0)
    ∷ [])
    ≡ pos 0 ∷ pos 9 ∷ negsuc 2 ∷ pos 7 ∷ negsuc 4 ∷ pos 30 ∷ []
unfolding box_of box_around coordinate_columns edges first_of flat_map foremost zip_with
around_up = refl

-- A box in the plane.
box : ℤ → ℤ → ℤ → ℤ → List ℤ
box a b c d = a ∷ b ∷ c ∷ d ∷ []

-- The corners of the range.
corner : ℤ → List ℤ
corner c = box c c c c

-- Apart in x and in y; in x they touch; in x one is within the other; opposite corners.
apart : List ℕ
apart =
    squared_box_gap (box (pos 0) (pos 1) (pos 0) (pos 1)) (box (pos 4) (pos 9) (pos 5) (pos 6))
    ∷ squared_box_gap (box (pos 0) (pos 4) (pos 0) (pos 1)) (box (pos 4) (pos 9) (pos 0) (pos 1))
    ∷ squared_box_gap (box (pos 0) (pos 9) (pos 0) (pos 1)) (box (pos 2) (pos 3) (pos 4) (pos 5))
    ∷ squared_box_gap (corner (negsuc 999_999_999)) (corner (pos 1_000_000_000))
    ∷ []

gaps_hold : apart ≡ 25 ∷ 0 ∷ 9 ∷ 8_000_000_000_000_000_000 ∷ []
unfolding apart box corner gap gaps range_gap square squared_box_gap sum
gaps_hold = refl

-- A box with heights, and the corners of their range.
box_up : ℤ → ℤ → ℤ → ℤ → ℤ → ℤ → List ℤ
box_up a b c d e f = a ∷ b ∷ c ∷ d ∷ e ∷ f ∷ []

corner_up : ℤ → ℤ → List ℤ
corner_up c h = box_up c c c c h h

-- Apart in x, in y and in height; in height alone, the other way round; in x and y, and the heights touch; opposite corners.
apart_up : List ℕ
apart_up =
    squared_box_gap (box_up (pos 0) (pos 1) (pos 0) (pos 1) (pos 0) (pos 1)) (box_up (pos 4) (pos 9) (pos 5) (pos 6) (pos 3) (pos 8))
    ∷ squared_box_gap (box_up (pos 0) (pos 9) (pos 0) (pos 9) (pos 3) (pos 8)) (box_up (pos 4) (pos 9) (pos 5) (pos 6) (negsuc 4) (negsuc 1))
    ∷ squared_box_gap (box_up (pos 0) (pos 1) (pos 0) (pos 1) (pos 0) (pos 3)) (box_up (pos 4) (pos 9) (pos 5) (pos 6) (pos 3) (pos 8))
    ∷ squared_box_gap (corner_up (negsuc 999_999_999) (negsuc 9_999)) (corner_up (pos 1_000_000_000) (pos 10_000))
    ∷ []

gaps_up_hold : apart_up ≡ 29 ∷ 25 ∷ 25 ∷ 8_000_000_000_400_000_000 ∷ []
unfolding apart_up box_up corner_up gap gaps range_gap square squared_box_gap sum
gaps_up_hold = refl
