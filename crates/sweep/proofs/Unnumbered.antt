-- A sweep and a pair read no number: strips of lists with any numbers are as the runs of their coordinate columns.
use mathlib.Core.Path.{◌≡◌, refl, ap, ap₂, ◌∙◌}
use mathlib.Core.List.{List, ◌∷◌, map}
use Prim.Native.Nat.{ℕ, zero, suc, ◌+◌, ◌-◌, ◌≤◌}
use native.Mathlib.Omega.{arith}
use lib.Dec.{leb}
use borrow.Author.Tests.{leb-true, leb-false}
use lib.IntN.{ℤ}
use lib.ListN.{length, take, drop}
use lib.Seq.{drop-cons}
use Rattle.order.proofs.Order.{by_test}
use Rattle.site.specs.Site.{Site}
use Rattle.site.specs.SiteList.{Columns, raised, sites}
use Rattle.site.specs.Terms.{Level}
use Rattle.site.proofs.Distance.{unnumbered, numberless}
use Rattle.site.proofs.SiteList.{columns_at, sites_length, sites_at}
use Rattle.entry.specs.declared.Entry.{Entry}
use Rattle.sweep.specs.declared.Way.{Way}
use Rattle.sweep.specs.Strip.{Placed, placed_from, strip, pairs}
use Rattle.sweep.specs.Sweep.{sweep}
use Rattle.sweep.specs.Terms.{spot, rightward}
use Rattle.sweep.proofs.Alike.{each, sweep_alike, pairs_alike}
use Rattle.sweep.proofs.Strip.{strip_is}

-- The sites of columns, counted from a place, with their numbers left out.
module _ (xs ys : List ℤ) (ns : List ℕ) (hs : List ℤ) (level : Level (raised xs ys ns hs)) where
  abbrev c : Columns
  c = raised xs ys ns hs

  placed_bare : (n from : ℕ) → from + n ≤ length xs → map (each unnumbered) (placed_from from (take n (drop from (sites c)))) ≡ rightward xs ys hs from n
  unfolding placed_from rightward spot
  placed_bare zero from h = refl
  placed_bare (suc n) from h =
      let long = sites_length c level in
      rw (drop-cons (sites c) from (columns_at c from) (omega arith))
      (ap₂ ◌∷◌ (ap (λ (s : Site). each unnumbered (record { place = from; site = s })) (sites_at c level from (columns_at c from) (omega arith)))
      (placed_bare n (suc from) (omega arith)))

  -- A strip is a run of the coordinate columns.
  pub strip_bare : (from to : ℕ) → to ≤ length xs → map (each unnumbered) (strip from to (sites c)) ≡ rightward xs ys hs from (to - from)
  unfolding rightward placed_from
  strip_bare from to h =
      by_test (leb to from)
      (λ t.
      let none : to - from ≡ 0 = omega (arith, leb-true to from t) in
      rw (strip_is from to (sites c), none) refl)
      (λ f. rw (strip_is from to (sites c)) (placed_bare (to - from) from (omega (arith, leb-false to from f))))

-- A sweep over strips of lists with any numbers.
pub sweep_strips : (way : Way) (k : ℕ) (ax ay : List ℤ) (an : List ℕ) (ah bx by : List ℤ) (bn : List ℕ) (bh : List ℤ) (aFrom aTo bFrom bTo : ℕ)
    (l : List Entry) → Level (raised ax ay an ah) → Level (raised bx by bn bh) → aTo ≤ length ax → bTo ≤ length bx
    → sweep way k (strip aFrom aTo (sites (raised ax ay an ah))) (strip bFrom bTo (sites (raised bx by bn bh))) l
    ≡ sweep way k (rightward ax ay ah aFrom (aTo - aFrom)) (rightward bx by bh bFrom (bTo - bFrom)) l
sweep_strips way k ax ay an ah bx by bn bh aFrom aTo bFrom bTo l la lb h g =
    sweep_alike unnumbered (λ s. refl) numberless way k (strip aFrom aTo (sites (raised ax ay an ah))) (strip bFrom bTo (sites (raised bx by bn bh))) l
    ∙ ap₂ (λ (p q : List Placed). sweep way k p q l) (strip_bare ax ay an ah la aFrom aTo h) (strip_bare bx by bn bh lb bFrom bTo g)

-- The pairs of them.
pub pairs_strips : (ax ay : List ℤ) (an : List ℕ) (ah bx by : List ℤ) (bn : List ℕ) (bh : List ℤ) (aFrom aTo bFrom bTo : ℕ)
    → Level (raised ax ay an ah) → Level (raised bx by bn bh) → aTo ≤ length ax → bTo ≤ length bx
    → pairs (strip aFrom aTo (sites (raised ax ay an ah))) (strip bFrom bTo (sites (raised bx by bn bh)))
    ≡ pairs (rightward ax ay ah aFrom (aTo - aFrom)) (rightward bx by bh bFrom (bTo - bFrom))
pairs_strips ax ay an ah bx by bn bh aFrom aTo bFrom bTo la lb h g =
    pairs_alike unnumbered (λ s. refl) numberless (strip aFrom aTo (sites (raised ax ay an ah))) (strip bFrom bTo (sites (raised bx by bn bh)))
    ∙ ap₂ pairs (strip_bare ax ay an ah la aFrom aTo h) (strip_bare bx by bn bh lb bFrom bTo g)
