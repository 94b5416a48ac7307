-- The gap of two strips, or of two ranges of places.
use Rattle.std.specs.Prelude.{List, ℕ}
use Rattle.boxes.specs.Box.{box_of, squared_box_gap}
use Rattle.sweep.specs.Strip.{Placed, sites_of}

-- "The gap of two strips should come from the strips' boxes", each around the strip's own sites, with the edges of
-- their heights too; squared. (02 a, 02 l.)
unfoldable pub squared_strip_gap : List Placed → List Placed → ℕ
squared_strip_gap p q = squared_box_gap (box_of (sites_of p)) (box_of (sites_of q))
