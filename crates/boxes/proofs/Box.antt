-- The gap squared of two boxes is at most the squared distance of any two sites that they are around.
use mathlib.Core.Path.{◌≡◌, refl, sym, ap, ap₂, ◌∙◌}
use mathlib.Core.Bool.{true, false}
use mathlib.Core.List.{List, [], ◌∷◌, map, flat_map, zip_with, Memᴰ}
use Prim.Native.Nat.{ℕ, zero, suc, ◌+◌, ◌≤◌, ◌<◌}
use native.Mathlib.Nat.{add-le-add}
use native.Mathlib.Omega.{arith}
use borrow.Author.Tests.{leb-true, le-leb}
use lib.Dec.{leb}
use lib.IntN.{ℤ, pos, negsuc}
use lib.Signed.{lt_z, le_z}
use lib.ListN.{length, take, drop, get_or, length-take, length-drop}
use Rattle.order.specs.Lists.{all, All, sum}
use Rattle.order.specs.Order.{after, foremost}
use Rattle.order.proofs.Order.{by_test, lt_z_order}
use Rattle.order.proofs.Lists.{all_mem, all_weaken, all_holds, holds_all, all_append, map_take, map_drop, from_place, by_places_lem}
use Rattle.order.proofs.Foremost.{after_order, foremost_none, foremost_holds}
use Rattle.site.specs.Site.{Site, coordinates, between, within, height_within, gap, square, squared_distance}
use Rattle.site.specs.SiteList.{raised, with_columns, sites}
use Rattle.site.specs.Terms.{Level}
use Rattle.site.proofs.Tests.{and_first, and_second}
use Rattle.site.proofs.Integers.{not_lt_le}
use Rattle.site.proofs.Distance.{gap_sym, gap_same, square_le, squared_over}
use Rattle.site.proofs.SiteList.{sites_length}
use Rattle.boxes.specs.Box.{
  least,
  greatest,
  edges,
  box_around,
  coordinate_columns,
  box_of,
  range_gap,
  gaps,
  squared_box_gap,
}
use Rattle.boxes.specs.Internal.{gap_along}
use Rattle.boxes.proofs.RangeGap.{range_under, range_within}

-- ---- edges

module _ {v : ℤ} (column : List ℤ) (m : Memᴰ v column) where
  least_under : le_z (least column) v ≡ true
  least_under =
      not_lt_le (least column) v
      (all_mem (λ b. lt_z b (least column) ≡ false) (foremost_none lt_z_order (pos 0) column) m)

  greatest_above : le_z v (greatest column) ≡ true
  greatest_above =
      not_lt_le v (greatest column)
      (all_mem (λ b. lt_z (greatest column) b ≡ false) (foremost_none (after_order lt_z_order) (pos 0) column) m)

-- Edges of coordinates inside the limits are inside them.
edges_within : (column : List ℤ) → all within column ≡ true → All (λ c. within c ≡ true) (edges column)
unfolding edges All within between
edges_within column h =
    let each = all_holds within column h in (
      foremost_holds lt_z _ (pos 0) column refl each,
      (foremost_holds (after lt_z) _ (pos 0) column refl each, tt),
    )

around_within : (columns : List (List ℤ)) → All (λ c. all within c ≡ true) columns
    → All (λ c. within c ≡ true) (box_around columns)
unfolding box_around flat_map All
around_within [] h = tt
around_within (c ∷ l) h =
    all_append (λ v. within v ≡ true) (edges c) (box_around l) (edges_within c h.0) (around_within l h.1)

pub box_within : (columns : List (List ℤ)) → All (λ c. all within c ≡ true) columns
    → all within (box_around columns) ≡ true
box_within columns h = holds_all within (box_around columns) (around_within columns h)

-- A height inside its limits is inside those of a coordinate.
height_within_lem : (h : ℤ) → height_within h ≡ true → within h ≡ true
unfolding height_within within between
height_within_lem (pos n) h =
    let small = leb-true n 10_000 (and_second (le_z (negsuc 9_999) (pos n)) (leb n 10_000) h) in
    le-leb n 1_000_000_000 (omega arith)
height_within_lem (negsuc n) h =
    let small = leb-true n 9_999 (and_first (leb n 9_999) (le_z (negsuc n) (pos 10_000)) h) in
    rw (le-leb n 999_999_999 (omega arith))

pub heights_within : (hs : List ℤ) → all height_within hs ≡ true → all within hs ≡ true
heights_within hs h =
    holds_all within hs (all_weaken (λ v. height_within v ≡ true) (λ v. within v ≡ true) height_within_lem hs (all_holds height_within hs h))

-- ---- six edges

pub six_edges : (xs ys hs : List ℤ) {r r' r'' : List ℤ} → r ≡ edges xs → r' ≡ edges ys → r'' ≡ edges hs
    → get_or r 0 (pos 0) ∷ get_or r 1 (pos 0) ∷ get_or r' 0 (pos 0) ∷ get_or r' 1 (pos 0) ∷ get_or r'' 0 (pos 0) ∷ get_or r'' 1 (pos 0) ∷ []
    ≡ box_around (xs ∷ ys ∷ hs ∷ [])
unfolding box_around flat_map edges
six_edges xs ys hs e e' e'' = rw (e, e', e'')

pub gap_of_six : (p q : List ℤ) → length p ≡ 6 → length q ≡ 6
    → squared_box_gap p q ≡ square (gap_along 0 p q) + square (gap_along 2 p q) + square (gap_along 4 p q)
unfolding squared_box_gap gaps sum from_place
gap_of_six p q h g =
    let places : squared_box_gap p q ≡ square (gap_along 0 p q) + (square (gap_along 2 p q) + (square (gap_along 4 p q) + 0)) =
    ap₂ squared_box_gap (by_places_lem p (pos 0) 6 h) (by_places_lem q (pos 0) 6 g) in
    places ∙ omega arith

-- Along the first coordinate alone it is no greater.
pub gap_across : (c d : List ℤ) (l m : List (List ℤ))
    → squared_box_gap (box_around (c ∷ [] ∷ [] ∷ [])) (box_around (d ∷ [] ∷ [] ∷ [])) ≤ squared_box_gap (box_around (c ∷ l)) (box_around (d ∷ m))
unfolding squared_box_gap box_around flat_map edges gaps sum foremost range_gap square
gap_across c d l m = omega arith

within_at : (p : List ℤ) (i : ℕ) → All (λ c. within c ≡ true) p → within (get_or p i (pos 0)) ≡ true
unfolding All within between
within_at [] i h = refl
within_at (c ∷ p) zero h = h.0
within_at (c ∷ p) (suc i) h = within_at p i h.1

pub gap_small : (p q : List ℤ) (at : ℕ) → all within p ≡ true → all within q ≡ true → gap_along at p q ≤ 2_000_000_000
gap_small p q at h g =
    let mine = all_holds within p h in
    let other = all_holds within q g in
    range_within _ _ _ _ (within_at p at mine) (within_at p (at + 1) mine) (within_at q at other) (within_at q (at + 1) other)

-- ---- gaps

-- The gap of two columns is at most that of any one coordinate of each.
column_gap_under : (p q : List ℤ) {v w : ℤ} → Memᴰ v p → Memᴰ w q
    → range_gap (least p) (greatest p) (least q) (greatest q) ≤ gap v w
column_gap_under p q m n =
    range_under _ _ _ _ _ _ (least_under p m) (greatest_above p m) (least_under q n) (greatest_above q n)

-- Each column holds the coordinate at its place; there may be more coordinates than columns.
unfoldable pub Covers : List (List ℤ) → List ℤ → Type 0
Covers [] cs = Unit {0}
Covers (column ∷ l) [] = ⊥
Covers (column ∷ l) (c ∷ cs) = Memᴰ c column × Covers l cs

-- The coordinates of one site are so held by its own columns, by those that its coordinates head, and by longer ones.
covers_own : (cs : List ℤ) → Covers (map (λ c. c ∷ []) cs) cs
unfolding Covers
covers_own [] = tt
covers_own (c ∷ cs) = (Memᴰ.head refl, covers_own cs)

covers_head : (cs : List ℤ) (l : List (List ℤ)) → Covers (zip_with ◌∷◌ cs l) cs
unfolding Covers zip_with
covers_head [] l = tt
covers_head (c ∷ cs) [] = tt
covers_head (c ∷ cs) (column ∷ l) = (Memᴰ.head refl, covers_head cs l)

covers_tail : (cs ds : List ℤ) (l : List (List ℤ)) → Covers l ds → Covers (zip_with ◌∷◌ cs l) ds
unfolding Covers zip_with
covers_tail [] ds l h = tt
covers_tail (c ∷ cs) ds [] h = tt
covers_tail (c ∷ cs) [] (column ∷ l) h = absurd h
covers_tail (c ∷ cs) (d ∷ ds) (column ∷ l) h = (Memᴰ.tail h.0, covers_tail cs ds l h.1)

-- The columns of some sites hold the coordinates of each.
covers : (p : List Site) → All (λ s. Covers (coordinate_columns p) (coordinates s)) p
unfolding coordinate_columns All
covers [] = tt
covers (s ∷ []) = (covers_own (coordinates s), tt)
covers (s ∷ (t ∷ p)) =
    let l = coordinate_columns (t ∷ p) in (
      covers_head (coordinates s) l,
      all_weaken (λ u. Covers l (coordinates u)) (λ u. Covers (zip_with ◌∷◌ (coordinates s) l) (coordinates u))
          (λ u. covers_tail (coordinates s) (coordinates u) l) (t ∷ p) (covers (t ∷ p)),
    )

-- Over any coordinates: the gap squared of the boxes around some columns and others is at most the sum of the squared
-- differences of any coordinates that they hold.
pub around_gap_under : (p q : List (List ℤ)) (cs ds : List ℤ) → Covers p cs → Covers q ds
    → squared_box_gap (box_around p) (box_around q) ≤ squared_over cs ds
unfolding squared_box_gap box_around flat_map edges gaps sum zip_with Covers
around_gap_under [] q cs ds m n = omega arith
around_gap_under (c ∷ p) [] cs ds m n = omega arith
around_gap_under (c ∷ p) (d ∷ q) [] ds m n = absurd m
around_gap_under (c ∷ p) (d ∷ q) (v ∷ cs) [] m n = absurd n
around_gap_under (c ∷ p) (d ∷ q) (v ∷ cs) (w ∷ ds) m n =
    add-le-add (square_le (column_gap_under c d m.0 n.0)) (around_gap_under p q cs ds m.1 n.1)

-- Of sites.
pub box_gap_under : (p q : List Site) {s t : Site} → Memᴰ s p → Memᴰ t q
    → squared_box_gap (box_of p) (box_of q) ≤ squared_distance s t
unfolding box_of squared_distance
box_gap_under p q {s} {t} m n =
    around_gap_under (coordinate_columns p) (coordinate_columns q) (coordinates s) (coordinates t)
    (all_mem (λ u. Covers (coordinate_columns p) (coordinates u)) (covers p) m)
    (all_mem (λ u. Covers (coordinate_columns q) (coordinates u)) (covers q) n)

-- ---- single sites

-- The gap of two ranges of one coordinate each is their difference.
point_gap : (c d : ℤ) → range_gap c c d d ≡ gap c d
unfolding range_gap
point_gap c d =
    by_test (lt_z c d) (λ h. rw h)
    (λ h.
    rw h
    (by_test (lt_z d c) (λ g. rw g (gap_sym d c)) (λ g. rw g (let e : c ≡ d = lt_z_order.total c d h g in rw e (sym (gap_same d))))))

points_gap : (cs ds : List ℤ) → squared_box_gap (box_around (map (λ c. c ∷ []) cs)) (box_around (map (λ c. c ∷ []) ds)) ≡ squared_over cs ds
unfolding squared_box_gap box_around flat_map edges gaps sum zip_with foremost
points_gap [] ds = refl
points_gap (c ∷ cs) [] = refl
points_gap (c ∷ cs) (d ∷ ds) = ap₂ ◌+◌ (ap square (point_gap c d)) (points_gap cs ds)

-- The gap squared of two boxes around a single site each is their squared distance.
pub single_gap : (s t : Site) → squared_box_gap (box_of (s ∷ [])) (box_of (t ∷ [])) ≡ squared_distance s t
unfolding box_of coordinate_columns squared_distance
single_gap s t = points_gap (coordinates s) (coordinates t)

-- ---- sites with heights

-- What one site adds in front of three columns.
three : (s : Site) {h : ℤ} {l : List (List ℤ)} (xs ys hs : List ℤ) → s.further ≡ h ∷ [] → l ≡ xs ∷ ys ∷ hs ∷ []
    → zip_with ◌∷◌ (coordinates s) l ≡ (s.x ∷ xs) ∷ (s.y ∷ ys) ∷ (h ∷ hs) ∷ []
unfolding zip_with
three s xs ys hs e f = ap₂ (λ (u : List ℤ) (m : List (List ℤ)). zip_with ◌∷◌ (s.x ∷ s.y ∷ u) m) e f

heights_columns : (s : Site) (l : List Site) (hs : List ℤ)
    → map (λ (u : Site). u.further) (s ∷ l) ≡ map (λ (h : ℤ). h ∷ []) hs
    → coordinate_columns (s ∷ l) ≡ (s.x ∷ map (λ u. u.x) l) ∷ (s.y ∷ map (λ u. u.y) l) ∷ hs ∷ []
unfolding coordinate_columns
heights_columns s l [] e = absurd (omega (arith, ap length e))
heights_columns s [] (h ∷ (k ∷ hs)) e = absurd (omega (arith, ap length e))
heights_columns s (t ∷ l) (h ∷ []) e = absurd (omega (arith, ap length e))
heights_columns s [] (h ∷ []) e =
    let up : s.further ≡ h ∷ [] = ap (λ (m : List (List ℤ)). get_or m 0 []) e in
    ap (λ (u : List ℤ). map (λ c. c ∷ []) (s.x ∷ s.y ∷ u)) up
heights_columns s (t ∷ l) (h ∷ (k ∷ hs)) e =
    three s _ _ _ (ap (λ (m : List (List ℤ)). get_or m 0 []) e) (heights_columns t l (k ∷ hs) (ap (drop 1) e))

-- The coordinate columns of some sites that have one coordinate beside x and y, by the columns of each coordinate.
pub columns_of_three : (l : List Site) {xs ys hs : List ℤ} → 0 < length l → map (λ s. s.x) l ≡ xs → map (λ s. s.y) l ≡ ys
    → map (λ s. s.further) l ≡ map (λ h. h ∷ []) hs → coordinate_columns l ≡ xs ∷ ys ∷ hs ∷ []
columns_of_three [] h p q e = absurd (omega arith)
columns_of_three (s ∷ l) {xs} {ys} {hs} h p q e =
    heights_columns s l hs e ∙ ap₂ (λ (x y : List ℤ). x ∷ y ∷ hs ∷ []) p q

-- A part of a list, element by element.
part_map : {A B : Type 0} (f : A → B) (n k : ℕ) (l : List A) → map f (take n (drop k l)) ≡ take n (drop k (map f l))
part_map f n k l = map_take f n (drop k l) ∙ ap (take n) (map_drop f k l)

-- The sites of four columns of one length have what the columns hold,
sites_hold : (xs ys : List ℤ) (ns : List ℕ) (hs : List ℤ) → length ys ≡ length xs → length ns ≡ length xs → length hs ≡ length xs
    → let l = sites (raised xs ys ns hs) in
    (map (λ s. s.x) l ≡ xs) × (map (λ s. s.y) l ≡ ys) × (map (λ s. s.further) l ≡ map (λ h. h ∷ []) hs)
unfolding sites with_columns zip_with
sites_hold [] [] [] [] p q r = (refl, refl, refl)
sites_hold [] (y ∷ ys) ns hs p q r = absurd (omega arith)
sites_hold [] [] (n ∷ ns) hs p q r = absurd (omega arith)
sites_hold [] [] [] (h ∷ hs) p q r = absurd (omega arith)
sites_hold (x ∷ xs) [] ns hs p q r = absurd (omega arith)
sites_hold (x ∷ xs) (y ∷ ys) [] hs p q r = absurd (omega arith)
sites_hold (x ∷ xs) (y ∷ ys) (n ∷ ns) [] p q r = absurd (omega arith)
sites_hold (x ∷ xs) (y ∷ ys) (n ∷ ns) (h ∷ hs) p q r =
    let rest = sites_hold xs ys ns hs (omega arith) (omega arith) (omega arith) in (
      ap (λ (l : List ℤ). x ∷ l) rest.0,
      ap (λ (l : List ℤ). y ∷ l) rest.1,
      ap (λ (l : List (List ℤ)). (h ∷ []) ∷ l) rest.2,
    )

-- and some of them in a row the same part of each.
pub part_of_three : (xs ys : List ℤ) (ns : List ℕ) (hs : List ℤ) → Level (raised xs ys ns hs) → (n k : ℕ) → 0 < n → k < length xs
    → coordinate_columns (take n (drop k (sites (raised xs ys ns hs))))
    ≡ take n (drop k xs) ∷ take n (drop k ys) ∷ take n (drop k hs) ∷ []
unfolding All
part_of_three xs ys ns hs level n k some inside =
    let l = sites (raised xs ys ns hs) in
    let whole = sites_hold xs ys ns hs level.y level.number level.further.0 in
    let long : length l ≡ length xs = sites_length (raised xs ys ns hs) level in
    columns_of_three (take n (drop k l)) (simp (length-take, length-drop) (omega (arith, long)))
    (part_map (λ s. s.x) n k l ∙ ap (λ (c : List ℤ). take n (drop k c)) whole.0)
    (part_map (λ s. s.y) n k l ∙ ap (λ (c : List ℤ). take n (drop k c)) whole.1)
    (part_map (λ s. s.further) n k l ∙ ap (λ (c : List (List ℤ)). take n (drop k c)) whole.2
    ∙ sym (part_map (λ h. h ∷ []) n k hs))
