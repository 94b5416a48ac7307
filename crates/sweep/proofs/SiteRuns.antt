-- Laws of runs of sites read from two columns.
use mathlib.Core.Path.{◌≡◌, refl, sym, ap, ap₂, ◌∙◌}
use mathlib.Core.List.{List, [], ◌∷◌, ◌++◌}
use Prim.Native.Nat.{ℕ, zero, suc, ◌+◌, ◌-◌, ◌≤◌, ◌<◌}
use native.Mathlib.Numerals.{add-one}
use native.Mathlib.Omega.{arith}
use lib.IntN.{ℤ}
use lib.ListN.{length, take}
use Rattle.order.specs.Lists.{All}
use Rattle.sweep.specs.Strip.{Placed}
use Rattle.sweep.specs.Terms.{spot, rightward}
use Rattle.sweep.specs.Internal.{leftward}

module _ (xs ys hs : List ℤ) where
  pub rightward_nil : (from to : ℕ) → to ≤ from → rightward xs ys hs from (to - from) ≡ []
  unfolding rightward
  rightward_nil from to h = let none : to - from ≡ 0 = omega arith in rw none

  pub rightward_cons : (from to : ℕ) → from < to
      → rightward xs ys hs from (to - from) ≡ spot xs ys hs from ∷ rightward xs ys hs (from + 1) (to - (from + 1))
  unfolding rightward
  rightward_cons from to h =
      let one : to - from ≡ suc (to - (from + 1)) = omega arith in
      ap (λ (n : ℕ). rightward xs ys hs from n) one
      ∙ ap (λ (m : ℕ). spot xs ys hs from ∷ rightward xs ys hs m (to - (from + 1))) (sym (add-one from))

  rightward_parts : (from m n : ℕ) → rightward xs ys hs from (m + n) ≡ rightward xs ys hs from m ++ rightward xs ys hs (from + m) n
  unfolding rightward
  rightward_parts from zero n = let e : from + 0 ≡ from = omega arith in let z : 0 + n ≡ n = omega arith in rw (e, z)
  rightward_parts from (suc m) n =
      let e : from + suc m ≡ suc from + m = omega arith in
      let z : suc m + n ≡ suc (m + n) = omega arith in
      rw (e, z) (ap (λ (l : List Placed). spot xs ys hs from ∷ l) (rightward_parts (suc from) m n))

  -- Two runs that meet are one.
  pub rightward_join : {from mid to : ℕ} → from ≤ mid → mid ≤ to
      → rightward xs ys hs from (to - from) ≡ rightward xs ys hs from (mid - from) ++ rightward xs ys hs mid (to - mid)
  rightward_join {from} {mid} {to} h g =
      let e : to - from ≡ (mid - from) + (to - mid) = omega arith in
      let z : from + (mid - from) ≡ mid = omega arith in
      rw e (rw z at (rightward_parts from (mid - from) (to - mid)))

  all_sites : (P : Placed → Type 0) (from n : ℕ) → ((k : ℕ) → from ≤ k → k < from + n → P (spot xs ys hs k))
      → All P (rightward xs ys hs from n)
  unfolding rightward All
  all_sites P from zero h = tt
  all_sites P from (suc n) h =
      (h from (omega arith) (omega arith), all_sites P (suc from) n (λ k p q. h k (omega arith) (omega arith)))

  -- What holds of the site at each place.
  pub all_rightward : (P : Placed → Type 0) {from to : ℕ} → ((k : ℕ) → from ≤ k → k < to → P (spot xs ys hs k))
      → All P (rightward xs ys hs from (to - from))
  all_rightward P {from} {to} h = all_sites P from (to - from) (λ k p q. h k p (omega arith))

  pub leftward_nil : (limit at : ℕ) → at ≤ limit → leftward xs ys hs limit (at - limit) ≡ []
  unfolding leftward
  leftward_nil limit at h = let none : at - limit ≡ 0 = omega arith in rw none

  -- One site more at the near end.
  pub leftward_more : (limit at : ℕ) → limit ≤ at → spot xs ys hs at ∷ leftward xs ys hs limit (at - limit) ≡ leftward xs ys hs limit ((at + 1) - limit)
  unfolding leftward
  leftward_more limit at h =
      let one : (at + 1) - limit ≡ suc (at - limit) = omega arith in
      let here : at ≡ limit + (at - limit) = omega arith in
      ap (λ (i : ℕ). spot xs ys hs i ∷ leftward xs ys hs limit (at - limit)) here ∙ ap (λ (n : ℕ). leftward xs ys hs limit n) (sym one)

  -- The latest site first.
  pub leftward_cons : (limit at : ℕ) → limit < at
      → leftward xs ys hs limit (at - limit) ≡ spot xs ys hs (at - 1) ∷ leftward xs ys hs limit ((at - 1) - limit)
  leftward_cons limit at h =
      let one : (at - 1) + 1 ≡ at = omega arith in
      sym (leftward_more limit (at - 1) (omega arith) ∙ ap (λ (n : ℕ). leftward xs ys hs limit (n - limit)) one)

  take_first : (limit m n : ℕ) → m ≤ n → take m (leftward xs ys hs limit n) ≡ leftward xs ys hs (limit + (n - m)) m
  unfolding leftward
  take_first limit zero n h = refl
  take_first limit (suc m) zero h = absurd (omega arith)
  take_first limit (suc m) (suc n) h =
      let same : limit + (suc n - suc m) ≡ limit + (n - m) = omega arith in
      let at : limit + n ≡ (limit + (suc n - suc m)) + m = omega arith in
      ap₂ (λ (i : ℕ) (r : List Placed). spot xs ys hs i ∷ r) at
      (take_first limit m n (omega arith) ∙ ap (λ (i : ℕ). leftward xs ys hs i m) (sym same))

  -- What a scan passed stands past the new limit.
  pub take_leftward : (limit stop at n : ℕ) → limit ≤ stop → stop + n ≡ at
      → take n (leftward xs ys hs limit (at - limit)) ≡ leftward xs ys hs stop (at - stop)
  take_leftward limit stop at n h g =
      let same : limit + ((at - limit) - n) ≡ stop = omega arith in
      let rest : at - stop ≡ n = omega arith in
      rw (take_first limit n (at - limit) (omega arith), same, rest)

  pub length_rightward : (from n : ℕ) → length (rightward xs ys hs from n) ≡ n
  unfolding rightward
  length_rightward from zero = refl
  length_rightward from (suc n) = ap suc (length_rightward (suc from) n)

  pub length_leftward : (limit n : ℕ) → length (leftward xs ys hs limit n) ≡ n
  unfolding leftward
  length_leftward limit zero = refl
  length_leftward limit (suc n) = ap suc (length_leftward limit n)

  -- A scan to the left that ended at place `at`, having passed `n` sites.
  pub left_limit : (limit at taken n : ℕ) → limit ≤ at → at ≤ taken
      → length (leftward xs ys hs limit (at - limit)) + n ≡ length (leftward xs ys hs limit (taken - limit)) → at + n ≡ taken
  left_limit limit at taken n h g is = omega (arith, length_leftward limit (at - limit), length_leftward limit (taken - limit))
