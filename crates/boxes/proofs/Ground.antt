-- Sites with the height 0: the gap squared of the boxes around them is that in the plane.
use mathlib.Core.Path.{◌≡◌, refl, sym, ap, ap₂, ◌∙◌}
use mathlib.Core.List.{List, [], ◌∷◌, ◌++◌, map, zip_with, flat_map}
use native.Mathlib.Omega.{arith}
use lib.IntN.{ℤ, pos}
use lib.Signed.{lt_z}
use Rattle.order.specs.Lists.{All, sum}
use Rattle.order.specs.Order.{after}
use Rattle.order.proofs.Foremost.{foremost_holds}
use Rattle.site.specs.Site.{Site, square}
use Rattle.site.proofs.Ground.{ground}
use Rattle.boxes.specs.Box.{edges, coordinate_columns, box_around, box_of, range_gap, gaps, squared_box_gap}

-- The coordinates of some sites, column by column: with the height 0 there is a column of zeros behind x and y.
record Grounded (flat up : List (List ℤ)) : Type 0 where
  xs : List ℤ
  ys : List ℤ
  zeros : List ℤ
  rest : List (List ℤ)
  flat_is : flat ≡ xs ∷ ys ∷ rest
  up_is : up ≡ xs ∷ ys ∷ zeros ∷ rest
  none : All (λ z. z ≡ pos 0) zeros

grounded : (s : Site) (l : List Site) → Grounded (coordinate_columns (s ∷ l)) (coordinate_columns (map ground (s ∷ l)))
unfolding coordinate_columns zip_with All
grounded s [] = record {
  xs = s.x ∷ [];
  ys = s.y ∷ [];
  zeros = pos 0 ∷ [];
  rest = map (λ c. c ∷ []) s.further;
  flat_is = refl;
  up_is = refl;
  none = (refl, tt);
}
grounded s (t ∷ l) =
    let g = grounded t l in
    record {
      xs = s.x ∷ g.xs;
      ys = s.y ∷ g.ys;
      zeros = pos 0 ∷ g.zeros;
      rest = zip_with ◌∷◌ s.further g.rest;
      flat_is = rw g.flat_is;
      up_is = rw g.up_is;
      none = (refl, g.none);
    }

-- A column of zeros has no other edge.
zero_edges : (zeros : List ℤ) → All (λ z. z ≡ pos 0) zeros → edges zeros ≡ pos 0 ∷ pos 0 ∷ []
unfolding edges
zero_edges zeros h =
    ap₂ (λ (a b : ℤ). a ∷ b ∷ []) (foremost_holds lt_z (λ z. z ≡ pos 0) (pos 0) zeros refl h)
    (foremost_holds (after lt_z) (λ z. z ≡ pos 0) (pos 0) zeros refl h)

with_zeros : (xs ys zeros : List ℤ) (rest : List (List ℤ)) → All (λ z. z ≡ pos 0) zeros
    → box_around (xs ∷ ys ∷ zeros ∷ rest) ≡ edges xs ++ (edges ys ++ (pos 0 ∷ pos 0 ∷ box_around rest))
unfolding box_around flat_map
with_zeros xs ys zeros rest h = ap (λ (e : List ℤ). edges xs ++ (edges ys ++ (e ++ box_around rest))) (zero_edges zeros h)

-- The two more edges of each box are no gap.
zeros_gap : (xs ys xs' ys' : List ℤ) (rest rest' : List (List ℤ))
    → squared_box_gap (edges xs ++ (edges ys ++ (pos 0 ∷ pos 0 ∷ box_around rest))) (edges xs' ++ (edges ys' ++ (pos 0 ∷ pos 0 ∷ box_around rest')))
    ≡ squared_box_gap (box_around (xs ∷ ys ∷ rest)) (box_around (xs' ∷ ys' ∷ rest'))
unfolding box_around flat_map edges squared_box_gap gaps range_gap square sum
zeros_gap xs ys xs' ys' rest rest' = omega arith

gap_of_none : (p : List ℤ) → squared_box_gap p [] ≡ 0
unfolding squared_box_gap gaps sum
gap_of_none [] = refl
gap_of_none (from ∷ []) = refl
gap_of_none (from ∷ (to ∷ p)) = refl

gap_to_none : (q : List ℤ) → squared_box_gap [] q ≡ 0
unfolding squared_box_gap gaps sum
gap_to_none q = refl

-- No site has no box.
box_of_none : box_around (coordinate_columns []) ≡ []
unfolding coordinate_columns box_around flat_map
box_of_none = refl

pub ground_gap : (l m : List Site) → squared_box_gap (box_of (map ground l)) (box_of (map ground m)) ≡ squared_box_gap (box_of l) (box_of m)
unfolding box_of
ground_gap [] m = rw box_of_none (gap_to_none (box_of (map ground m)) ∙ sym (gap_to_none (box_of m)))
ground_gap (s ∷ l) [] = rw box_of_none (gap_of_none (box_of (map ground (s ∷ l))) ∙ sym (gap_of_none (box_of (s ∷ l))))
ground_gap (s ∷ l) (t ∷ m) =
    let g = grounded s l in
    let h = grounded t m in
    ap₂ (λ (p q : List (List ℤ)). squared_box_gap (box_around p) (box_around q)) g.up_is h.up_is
    ∙ ap₂ squared_box_gap (with_zeros g.xs g.ys g.zeros g.rest g.none) (with_zeros h.xs h.ys h.zeros h.rest h.none)
    ∙ zeros_gap g.xs g.ys h.xs h.ys g.rest h.rest
    ∙ sym (ap₂ (λ (p q : List (List ℤ)). squared_box_gap (box_around p) (box_around q)) g.flat_is h.flat_is)
