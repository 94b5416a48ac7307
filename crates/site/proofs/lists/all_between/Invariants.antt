-- The faults counted, and those in what is left, are all of the column's.
use Rattle.std.specs.Prelude.{◌≡◌, ◌+◌, ◌≤◌, drop}
use Rattle.site.specs.Site.{between}
use Rattle.site.proofs.Counting.{failing}
use Rattle.site.proofs.lists.all_between.Given as goal

abbrev pub invariant-loop-c : goal.invariant-loop-c
invariant-loop-c l =
    let test = between l.low l.high in
    (l.faults ≤ l.c-index) × (l.faults + failing test (drop l.c-index l.column) ≡ failing test l.column)
