-- The count and the near sites left are all near sites.
use Rattle.std.proofs.Common.{◌≡◌, ℕ, ◌+◌, ◌*◌, ◌≤◌, length}
use Rattle.pairs.specs.Internal.{near_sites}
use Rattle.pairs.proofs.nearby.count_row.Given as goal

abbrev pub invariant-loop-j : goal.invariant-loop-j
invariant-loop-j l =
    let left : ℕ → ℕ = λ from. length (near_sites (l.e * l.e) l.x l.y l.h l.b.x.now l.b.y.now l.b.height.now from l.j-end) in
    (l.count ≤ l.j) × (l.count + left l.j ≡ left l.initial.j)
