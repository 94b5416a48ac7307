-- The halves of a range, by its places.
use mathlib.Core.Path.{◌≡◌, sym, ap, ◌∙◌}
use mathlib.Core.Bool.{true, false}
use mathlib.Core.List.{List, ◌++◌}
use Prim.Native.Nat.{ℕ, ◌+◌, ◌-◌, ◌/◌, ◌≤◌, ◌<◌}
use native.Mathlib.Omega.{arith}
use lib.Dec.{ltb}
use lib.IntN.{ℤ}
use lib.ListN.{length, take, drop}
use lib.Seq.{take-append_seam, drop-append_seam}
use borrow.Author.Tests.{lt-ltb, le-ltb}
use Rattle.sweep.specs.Strip.{Placed}
use Rattle.sweep.proofs.SiteRuns.{rightward_join, length_rightward}
use Rattle.halves.specs.declared.Range.{Range}
use Rattle.halves.specs.declared.Half.{Half}
use Rattle.halves.specs.Halves.{lower, upper, sooner, later}
use Rattle.halves.specs.Internal.{range_sites, sites_in, RangeIn, HalfOf, HalvesOf}

module _ (xs ys hs : List ℤ) (from to : ℕ) (range : from ≤ to) where
  abbrev middle : ℕ
  middle = from + (to - from) / 2

  abbrev all : List Placed
  all = range_sites xs ys hs from to

  pub length_range : length (range_sites xs ys hs from to) ≡ to - from
  unfolding range_sites
  length_range = length_rightward xs ys hs from (to - from)

  parts : all ≡ range_sites xs ys hs from middle ++ range_sites xs ys hs middle to
  unfolding range_sites
  parts = rightward_join xs ys hs (omega arith) (omega arith)

  first_length : length (range_sites xs ys hs from middle) ≡ length all / 2
  unfolding range_sites
  first_length = omega (arith, length_range, length_rightward xs ys hs from (middle - from))

  range_lower : range_sites xs ys hs from middle ≡ lower all
  unfolding lower
  range_lower =
      let x = range_sites xs ys hs from middle in
      let y = range_sites xs ys hs middle to in
      sym (ap (take (length all / 2)) parts ∙ ap (λ (n : ℕ). take n (x ++ y)) (sym first_length) ∙ take-append_seam x y)

  range_upper : range_sites xs ys hs middle to ≡ upper all
  unfolding upper
  range_upper =
      let x = range_sites xs ys hs from middle in
      let y = range_sites xs ys hs middle to in
      sym (ap (drop (length all / 2)) parts ∙ ap (λ (n : ℕ). drop n (x ++ y)) (sym first_length) ∙ drop-append_seam x y)

module _ {xs ys hs : List ℤ} {r : Range} (h : RangeIn xs ys hs r) where
  ordered : r.from ≤ r.to
  ordered = omega (arith, h.places.some)

  module _ {apart : List Placed → ℕ} {low up : Half}
      (isLow : HalfOf xs ys hs apart (range_sites xs ys hs r.from (r.from + (r.to - r.from) / 2)) low)
      (isUp : HalfOf xs ys hs apart (range_sites xs ys hs (r.from + (r.to - r.from) / 2) r.to) up) where
    abbrev l : List Placed
    l = sites_in xs ys hs r

    lower_half : HalfOf xs ys hs apart (lower l) low
    lower_half = rw (range_lower xs ys hs r.from r.to ordered) at isLow

    upper_half : HalfOf xs ys hs apart (upper l) up
    upper_half = rw (range_upper xs ys hs r.from r.to ordered) at isUp

    -- The upper half is nearer.
    pub upper_sooner : up.gap < low.gap → HalvesOf xs ys hs apart r (record { sooner = up; later = low })
    unfolding sooner later
    upper_sooner less =
        let test : ltb (apart (upper l)) (apart (lower l)) ≡ true =
        lt-ltb (apart (upper l)) (apart (lower l)) (omega (arith, upper_half.gap, lower_half.gap)) in
        record { sooner_half = rw test upper_half; later_half = rw test lower_half }

    -- It is not.
    pub lower_sooner : low.gap ≤ up.gap → HalvesOf xs ys hs apart r (record { sooner = low; later = up })
    unfolding sooner later
    lower_sooner less =
        let test : ltb (apart (upper l)) (apart (lower l)) ≡ false =
        le-ltb (apart (upper l)) (apart (lower l)) (omega (arith, upper_half.gap, lower_half.gap)) in
        record { sooner_half = rw test lower_half; later_half = rw test upper_half }
