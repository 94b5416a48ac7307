-- What can still enter: the reach of a list, as a look tests it.
use mathlib.Core.Path.{◌≡◌, sym}
use mathlib.Core.Bool.{true, false}
use mathlib.Core.List.{List}
use Prim.Native.Nat.{ℕ, ◌-◌, ◌<◌, ◌^◌}
use native.Mathlib.Omega.{arith}
use lib.Dec.{eqb, ltb}
use lib.ListN.{length}
use borrow.Author.Tests.{eqb-true, le-ltb}
use Rattle.order.specs.Terms.{Sorted}
use Rattle.order.proofs.Order.{by_test}
use Rattle.entry.specs.declared.Entry.{Entry}
use Rattle.entry.specs.Entry.{rank_before, offer, last_distance}
use Rattle.entry.specs.Terms.{reach_of}
use Rattle.entry.proofs.Rank.{offer_past}
use Rattle.sweep.specs.Scan.{beyond}

module _ (k : ℕ) where
  -- A look stops exactly past the reach.
  pub beyond_reach : (l : List Entry) (g : ℕ) → g < 2 ^ 64 → beyond k l g ≡ ltb (reach_of k l) g
  unfolding beyond reach_of
  beyond_reach l g h = by_test (eqb (length l) k) (λ t. rw t) (λ f. rw f (sym (le-ltb (2 ^ 64 - 1) g (omega arith))))

  -- What is past the reach does not enter.
  pub reach_past : (e : Entry) (l : List Entry) → 0 < k → Sorted rank_before l → e.distance < 2 ^ 64 → reach_of k l < e.distance
      → offer k e l ≡ l
  unfolding reach_of
  reach_past e l some sorted fits far =
      by_test (eqb (length l) k)
      (λ t. offer_past k e l some (eqb-true (length l) k t) sorted (full t far))
      (λ f. absurd (room f far))
    where
      full : eqb (length l) k ≡ true → reach_of k l < e.distance → last_distance l < e.distance
      full t h = rw t at h

      room : eqb (length l) k ≡ false → reach_of k l < e.distance → ⊥
      room f h = let g : 2 ^ 64 - 1 < e.distance = rw f at h in omega arith
