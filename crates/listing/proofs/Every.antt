-- A table's rule: one test that is computed over all of its entries.
use mathlib.Core.Path.{◌≡◌}
use mathlib.Core.Bool.{Bool, true, ◌&&◌, and-eq-true_iff}
use mathlib.Core.List.{List, [], ◌∷◌}
use Prim.Native.Nat.{ℕ, zero, suc, ◌+◌, ◌<◌}
use native.Mathlib.Nat.{add-zero, zero-add, add-suc, suc-add}
use native.Mathlib.Omega.{arith}
use lib.ListN.{length, get_or}

-- The test holds of each entry and its place, counted from `i`.
abbrev pub every : (ℕ → ℕ → Bool) → ℕ → List ℕ → Bool
every test i [] = true
every test i (x ∷ l) = test i x && every test (suc i) l

module _ (test : ℕ → ℕ → Bool) where
  every_from : (l : List ℕ) (i k : ℕ) → every test i l ≡ true → k < length l → test (i + k) (get_or l k 0) ≡ true
  every_from [] i k t h = absurd (omega arith)
  every_from (x ∷ l) i zero t h = rw add-zero ((and-eq-true_iff (test i x) (every test (suc i) l)).0 t).0
  every_from (x ∷ l) i (suc k) t h =
      rw (add-suc, ← suc-add)
      (every_from l (suc i) k ((and-eq-true_iff (test i x) (every test (suc i) l)).0 t).1 (omega arith))

  -- So it holds at any place.
  pub every_at : (l : List ℕ) (k : ℕ) → every test 0 l ≡ true → k < length l → test k (get_or l k 0) ≡ true
  every_at l k t h = rw zero-add at (every_from l 0 k t h)
