-- The box of a range of places by its columns, and the gap of two strips, whatever the numbers of their sites.
use mathlib.Core.Path.{◌≡◌, refl, sym, ap, ap₂, ◌∙◌}
use mathlib.Core.Bool.{true}
use mathlib.Core.List.{List, [], ◌∷◌, map, zip_with}
use Prim.Native.Nat.{ℕ, ◌-◌, ◌≤◌, ◌<◌}
use native.Mathlib.Omega.{arith}
use borrow.Author.Tests.{lt-ltb}
use lib.IntN.{ℤ}
use lib.Dec.{ltb}
use lib.Signed.{lt_z}
use lib.ListN.{length, take, drop, replicate, length-replicate}
use Rattle.order.specs.Lists.{all, All}
use Rattle.order.specs.Terms.{Sorted}
use Rattle.order.proofs.Lists.{all_part}
use Rattle.order.proofs.Sorted.{sorted_take, sorted_drop}
use Rattle.site.specs.Site.{Site, within, coordinates, squared_distance}
use Rattle.site.specs.SiteList.{raised, sites}
use Rattle.site.specs.Terms.{Level}
use Rattle.site.proofs.Distance.{unnumbered, numberless}
use Rattle.site.proofs.PositionOrder.{coordinates_sorted}
use Rattle.boxes.specs.Box.{box_around, box_of, coordinate_columns, squared_box_gap}
use Rattle.boxes.proofs.Box.{gap_across, box_within, heights_within, part_of_three}
use Rattle.sweep.specs.Strip.{Placed, strip, sites_of}
use Rattle.sweep.proofs.Alike.{each}
use Rattle.sweep.proofs.Strip.{strip_sites}
use Rattle.sweep.proofs.Unnumbered.{strip_bare}
use Rattle.entry.specs.declared.Entry.{Entry}
use Rattle.halves.specs.Gap.{squared_strip_gap}
use Rattle.halves.specs.Halves.{halves}
use Rattle.halves.specs.Terms.{SomeStrip}
use Rattle.halves.specs.Internal.{range_sites, box_across}
use Rattle.halves.proofs.Alike.{sites_each, gap_alike, halves_alike}

-- The part of a column that a range of places has.
abbrev part : ℕ → ℕ → List ℤ → List ℤ
part from to l = take (to - from) (drop from l)

-- ---- a box reads no number

columns_bare : (l : List Site) → coordinate_columns (map unnumbered l) ≡ coordinate_columns l
unfolding coordinate_columns
columns_bare [] = refl
columns_bare (s ∷ []) = refl
columns_bare (s ∷ (t ∷ l)) = ap (zip_with ◌∷◌ (coordinates s)) (columns_bare (t ∷ l))

box_bare : (l : List Site) → box_of (map unnumbered l) ≡ box_of l
unfolding box_of
box_bare l = ap box_around (columns_bare l)

-- The sites of a strip are those of its range, but for their numbers.
pub range_bare : {xs ys hs : List ℤ} (from : ℕ) {to : ℕ} (ns : List ℕ) → to ≤ length xs → Level (raised xs ys ns hs)
    → map (each unnumbered) (strip from to (sites (raised xs ys ns hs))) ≡ range_sites xs ys hs from to
unfolding range_sites
range_bare {xs} {ys} {hs} from {to} ns inside level = strip_bare xs ys ns hs level from to inside

-- ---- a range's columns

module _ {xs ys hs : List ℤ} {from to : ℕ} (h : SomeStrip xs ys hs from to) where
  pub part_sorted : Sorted lt_z (part from to xs)
  part_sorted =
      sorted_take lt_z (to - from) (drop from xs) (sorted_drop lt_z from xs (coordinates_sorted h.strip.lawful))

  part_box : (ns : List ℕ) → Level (raised xs ys ns hs)
      → box_around (part from to xs ∷ part from to ys ∷ part from to hs ∷ []) ≡ box_of (sites_of (range_sites xs ys hs from to))
  unfolding box_of
  part_box ns level =
      let l = strip from to (sites (raised xs ys ns hs)) in
      sym
      (ap (λ (p : List Placed). box_of (sites_of p)) (sym (range_bare from ns h.strip.inside level))
      ∙ ap box_of (sites_each unnumbered l)
      ∙ box_bare (sites_of l)
      ∙ ap box_of (strip_sites from to (sites (raised xs ys ns hs)))
      ∙ ap box_around
      (part_of_three xs ys ns hs level (to - from) from (omega (arith, h.some)) (omega (arith, h.some, h.strip.inside))))

  -- The box of a range by the columns.
  pub range_box : box_around (part from to xs ∷ part from to ys ∷ part from to hs ∷ []) ≡ box_of (sites_of (range_sites xs ys hs from to))
  unfolding All
  range_box =
      part_box (replicate (length xs) 0)
      (record {
        y = sym h.strip.lawful.equal;
        number = length-replicate (length xs) 0;
        further = (sym h.strip.heights.equal, tt);
      })

  part_inside : (l : List ℤ) → all within l ≡ true → all within (part from to l) ≡ true
  part_inside l g = all_part within (to - from) from l g

  -- Its edges are inside the limits.
  pub range_within : {r : List ℤ} → r ≡ box_of (sites_of (range_sites xs ys hs from to)) → all within r ≡ true
  unfolding All
  range_within e =
      rw (e, ← range_box)
      (box_within (part from to xs ∷ part from to ys ∷ part from to hs ∷ []) (
        part_inside xs h.strip.lawful.xs_within,
        (part_inside ys h.strip.lawful.ys_within, (part_inside hs (heights_within hs h.strip.heights.within), tt)),
      ))

  -- So are those of its box by x alone.
  pub across_within : all within (box_across xs from to) ≡ true
  unfolding All all
  across_within = box_within (part from to xs ∷ [] ∷ [] ∷ []) (part_inside xs h.strip.lawful.xs_within, (refl, (refl, tt)))

-- ---- strips, whatever the numbers of their sites

same_boxes : (l m : List Site) → squared_box_gap (box_of (map unnumbered l)) (box_of (map unnumbered m)) ≡ squared_box_gap (box_of l) (box_of m)
same_boxes l m = ap₂ squared_box_gap (box_bare l) (box_bare m)

same_distances : (s t : Site) → squared_distance (unnumbered s) (unnumbered t) ≡ squared_distance s t
same_distances s t = sym (numberless s t)

-- The gap of two strips,

pub strips_gap : {ax ay ah bx by bh : List ℤ} {aFrom aTo bFrom bTo : ℕ} (an bn : List ℕ)
    → SomeStrip ax ay ah aFrom aTo → SomeStrip bx by bh bFrom bTo
    → Level (raised ax ay an ah) → Level (raised bx by bn bh)
    → squared_strip_gap (range_sites ax ay ah aFrom aTo) (range_sites bx by bh bFrom bTo)
    ≡ squared_strip_gap (strip aFrom aTo (sites (raised ax ay an ah))) (strip bFrom bTo (sites (raised bx by bn bh)))
strips_gap an bn h g la lb =
    sym (ap₂ squared_strip_gap (range_bare _ an h.strip.inside la) (range_bare _ bn g.strip.inside lb))
    ∙ gap_alike unnumbered same_boxes same_distances _ _

beyond_more : {limit n less more : ℕ} → n ≡ less → limit < n → less ≤ more → true ≡ ltb limit more
beyond_more {limit} {more = more} is beyond h = sym (lt-ltb limit more (omega arith))

-- which is beyond a limit where that of the boxes by x alone is,
pub across_decides : {ax ay ah bx by bh : List ℤ} {aFrom aTo bFrom bTo : ℕ} (an bn : List ℕ)
    → SomeStrip ax ay ah aFrom aTo → SomeStrip bx by bh bFrom bTo
    → Level (raised ax ay an ah) → Level (raised bx by bn bh) → {limit n : ℕ}
    → n ≡ squared_box_gap (box_across ax aFrom aTo) (box_across bx bFrom bTo) → limit < n
    → true ≡ ltb limit (squared_strip_gap (strip aFrom aTo (sites (raised ax ay an ah))) (strip bFrom bTo (sites (raised bx by bn bh))))
unfolding squared_strip_gap
across_decides {ax} {bx = bx} {aFrom = aFrom} {aTo} {bFrom} {bTo} an bn h g la lb is beyond =
    rw (← strips_gap an bn h g la lb, ← range_box h, ← range_box g)
    (beyond_more is beyond (gap_across (part aFrom aTo ax) (part bFrom bTo bx) _ _))

-- and their join by halves.
pub halves_strips : {ax ay ah bx by bh : List ℤ} (aFrom bFrom : ℕ) {aTo bTo : ℕ} (an bn : List ℕ) (k : ℕ) (l : List Entry)
    → aTo ≤ length ax → bTo ≤ length bx → Level (raised ax ay an ah) → Level (raised bx by bn bh)
    → halves k (range_sites ax ay ah aFrom aTo) (range_sites bx by bh bFrom bTo) l
    ≡ halves k (strip aFrom aTo (sites (raised ax ay an ah))) (strip bFrom bTo (sites (raised bx by bn bh))) l
halves_strips aFrom bFrom an bn k l h g la lb =
    sym (ap₂ (λ (p q : List Placed). halves k p q l) (range_bare aFrom an h la) (range_bare bFrom bn g lb))
    ∙ halves_alike unnumbered same_boxes same_distances k _ _ l
