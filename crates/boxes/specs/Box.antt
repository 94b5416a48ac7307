-- The box around some sites, and the gap of two boxes, over any number of coordinates.
use Rattle.std.specs.Prelude.{cond, ℕ, ℤ, pos}
use mathlib.Core.List.{List, [], ◌∷◌, map, flat_map, zip_with}
use Rattle.std.specs.Int.Signed.{lt_z}
use Rattle.order.specs.Lists.{sum}
use Rattle.order.specs.Order.{after, foremost}
use Rattle.site.specs.Site.{Site, coordinates, gap, square}

-- The least and the greatest of a column of coordinates, 0 where it is empty.
abbrev pub least : List ℤ → ℤ
least column = foremost lt_z (pos 0) column

abbrev pub greatest : List ℤ → ℤ
greatest column = foremost (after lt_z) (pos 0) column

unfoldable pub edges : List ℤ → List ℤ
edges column = least column ∷ greatest column ∷ []

-- The box around what stands in some coordinate columns: the edges of each, one column after the other.
unfoldable pub box_around : List (List ℤ) → List ℤ
box_around columns = flat_map edges columns

-- The coordinates of some sites, column by column: as many columns as each of the sites has coordinates for.
unfoldable pub coordinate_columns : List Site → List (List ℤ)
coordinate_columns [] = []
coordinate_columns (s ∷ []) = map (λ c. c ∷ []) (coordinates s)
coordinate_columns (s ∷ (t ∷ l)) = zip_with ◌∷◌ (coordinates s) (coordinate_columns (t ∷ l))

-- The bounding box of some sites, "an array of four edges: least x, greatest x, least y, greatest y", and with heights
-- "least and greatest height" behind them. (02 a: box; 02 l.)
unfoldable pub box_of : List Site → List ℤ
box_of l = box_around (coordinate_columns l)

-- The difference of two ranges of a coordinate, "0 where the ranges touch or overlap".
unfoldable pub range_gap : ℤ → ℤ → ℤ → ℤ → ℕ
range_gap from to from' to' = cond (lt_z to from') (gap to from') (cond (lt_z to' from) (gap to' from) 0)

-- The gaps of two boxes, one for each coordinate.
unfoldable pub gaps : List ℤ → List ℤ → List ℕ
gaps [] q = []
gaps (from ∷ []) q = []
gaps (from ∷ (to ∷ p)) [] = []
gaps (from ∷ (to ∷ p)) (from' ∷ []) = []
gaps (from ∷ (to ∷ p)) (from' ∷ (to' ∷ q)) = range_gap from to from' to' ∷ gaps p q

-- "The gap squared becomes the sum of the squares of the x gap and the y gap", and boxes with heights gain "the height
-- gap's square". (02 a: gap squared; 02 l.)
unfoldable pub squared_box_gap : List ℤ → List ℤ → ℕ
squared_box_gap p q = sum (map square (gaps p q))
