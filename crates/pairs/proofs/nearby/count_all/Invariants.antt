-- The count and the pairs of the references left are all pairs.
use Rattle.std.proofs.Common.{◌≡◌, ℕ, ◌+◌, length}
use Rattle.pairs.specs.Internal.{lent_pairs}
use Rattle.pairs.proofs.NearPairs.{Ready}
use Rattle.pairs.proofs.nearby.count_all.Given as goal

abbrev pub invariant-loop-i : goal.invariant-loop-i
invariant-loop-i l =
    let left : ℕ → ℕ = λ from. length (lent_pairs l.e l.a l.b from) in
    (Ready l.a.x.now l.b.x.now l.e l.i l.run) × (l.count + left l.i ≡ left 0)
