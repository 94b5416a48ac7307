-- Inside the limits the sum is at most 12 × 10 ^ 18, below 2 ^ 64.
use Prim.Native.Nat.{ℕ, ◌*◌, ◌≤◌}
use native.Mathlib.Nat.{mul-le-mul}
use native.Mathlib.Omega.{arith}
use Rattle.site.specs.Site.{square}
use Rattle.boxes.proofs.Box.{gap_of_six, gap_small}
use Rattle.boxes.proofs.squared_gap.Goals as goal

square_small : (g : ℕ) → g ≤ 2_000_000_000 → g * g ≤ 4_000_000_000_000_000_000
square_small g h = mul-le-mul h h

pub overflow_mul-result : goal.overflow_mul-result
overflow_mul-result c = grind (arith, gap_small, square_small)

pub overflow_mul-result-2 : goal.overflow_mul-result-2
overflow_mul-result-2 c = grind (arith, gap_small, square_small)

pub overflow_add-result : goal.overflow_add-result
overflow_add-result c = grind (arith, gap_small, square_small)

pub overflow_mul-result-3 : goal.overflow_mul-result-3
overflow_mul-result-3 c = grind (arith, gap_small, square_small)

pub overflow_add-result-2 : goal.overflow_add-result-2
overflow_add-result-2 c = grind (arith, gap_small, square_small)

pub returns : goal.returns
unfolding square
returns c = grind (arith, gap_of_six)
