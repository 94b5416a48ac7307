-- With the pairs of the references left written, all are.
use Rattle.std.proofs.Common.{ℕ, List}
use Rattle.entry.specs.declared.Entry.{Entry}
use Rattle.pairs.specs.Internal.{lent_pairs}
use Rattle.pairs.proofs.NearPairs.{Ready}
use Rattle.pairs.proofs.Written.{Writing}
use Rattle.pairs.proofs.nearby.write_all.Given as goal

abbrev pub invariant-loop-i : goal.invariant-loop-i
invariant-loop-i l =
    let left : ℕ → List Entry = λ from. lent_pairs l.e l.a l.b from in
    (Ready l.a.x.now l.b.x.now l.e l.i l.run) × (Writing (left 0) 0 l.initial.first l.initial.second (left l.i) l.n l.first l.second)
