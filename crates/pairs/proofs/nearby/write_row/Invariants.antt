-- With the pairs of the near sites left written, all are.
use Rattle.std.proofs.Common.{ℕ, List}
use Rattle.entry.specs.declared.Entry.{Entry}
use Rattle.pairs.specs.Internal.{row_pairs}
use Rattle.pairs.proofs.Written.{Writing}
use Rattle.pairs.proofs.nearby.write_row.Given as goal

abbrev pub invariant-loop-j : goal.invariant-loop-j
invariant-loop-j l =
    let left : ℕ → List Entry = λ from. row_pairs l.e l.x l.y l.h l.place l.b.x.now l.b.y.now l.b.height.now from l.j-end in
    Writing (left l.initial.j) l.n l.initial.first l.initial.second (left l.j) l.at l.first l.second
