-- The gap of two ranges, test by test, and how far apart what stands in them is.
use mathlib.Core.Path.{◌≡◌}
use mathlib.Core.Bool.{true, cond}
use Prim.Native.Nat.{ℕ, ◌≤◌}
use native.Mathlib.Nat.{le_trans}
use native.Mathlib.Omega.{arith}
use lib.IntN.{ℤ}
use lib.Signed.{lt_z, le_z}
use Rattle.order.proofs.Order.{by_test}
use Rattle.site.specs.Site.{within, gap}
use Rattle.site.proofs.Integers.{lt_le, le_trans as leZ-trans}
use Rattle.site.proofs.Distance.{gap_sym, gap_grows, gap_shrinks, gap_some, gap_within}
use Rattle.boxes.specs.Box.{range_gap}

module _ (from to from' to' : ℤ) where
  -- From the two sides on which there may be one.
  pub range_above : {above : ℕ} → above ≡ cond (lt_z to from') (gap to from') 0 → (above ≡ 0 → ⊥) → above ≡ range_gap from to from' to'
  unfolding range_gap
  range_above e some =
      by_test (lt_z to from') (λ h. rw h (rw h at e)) (λ h. absurd (some (rw h at e)))

  pub range_below : {above below : ℕ} → above ≡ cond (lt_z to from') (gap to from') 0 → below ≡ cond (lt_z to' from) (gap to' from) 0
      → above ≡ 0 → below ≡ range_gap from to from' to'
  unfolding range_gap
  range_below e e' none =
      by_test (lt_z to from') (λ h. absurd (omega (arith, gap_some to from' h, none, (rw h at e)))) (λ h. rw h e')

  -- It is small where the edges are inside the limits.
  pub range_within : within from ≡ true → within to ≡ true → within from' ≡ true → within to' ≡ true
      → range_gap from to from' to' ≤ 2_000_000_000
  unfolding range_gap
  range_within p q p' q' =
      by_test (lt_z to from') (λ h. rw h (gap_within to from' q p'))
      (λ h. rw h (by_test (lt_z to' from) (λ g. rw g (gap_within to' from q' p)) (λ g. rw g (omega arith))))

module _ (from to from' to' x y : ℤ) (low : le_z from x ≡ true) (high : le_z x to ≡ true) (low' : le_z from' y ≡ true)
    (high' : le_z y to' ≡ true) where
  before : lt_z to from' ≡ true → gap to from' ≤ gap x y
  before h =
      let mid : le_z to from' ≡ true = lt_le to from' h in
      le_trans (gap_grows to from' y mid low') (gap_shrinks x to y high (leZ-trans to from' y mid low'))

  behind : lt_z to' from ≡ true → gap to' from ≤ gap x y
  behind h =
      let mid : le_z to' from ≡ true = lt_le to' from h in
      let other : gap to' from ≤ gap y x =
      le_trans (gap_grows to' from x mid low) (gap_shrinks y to' x high' (leZ-trans to' from x mid low)) in
      rw (gap_sym x y) other

  -- It is at most the gap of any two coordinates in the ranges.
  pub range_under : range_gap from to from' to' ≤ gap x y
  unfolding range_gap
  range_under =
      by_test (lt_z to from') (λ h. rw h (before h))
      (λ h. rw h (by_test (lt_z to' from) (λ g. rw g (behind g)) (λ g. rw g (omega arith))))
