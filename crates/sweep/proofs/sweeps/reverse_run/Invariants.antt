-- Reverse Run: each turn takes one reference, by the law of its list.
use Prim.Native.Nat.{◌+◌, ◌-◌}
use Rattle.entry.specs.Results.{results}
use Rattle.entry.proofs.Within.{SameLengths}
use Rattle.sweep.proofs.ReverseInvariant.{ReverseInvariant}
use Rattle.sweep.proofs.sweeps.reverse_run.Given as goal

abbrev pub invariant-references : goal.invariant-references
invariant-references l =
    let before = results l.initial.distance l.initial.first l.initial.second in
    let now = results l.distance l.first l.second in
    SameLengths before now
    × ReverseInvariant l.a.x.now l.a.y.now l.a.height.now l.b.x.now l.b.y.now l.b.height.now l.a_from l.a_to l.b_from l.b_to l.k l.count before now l.i l.j l.a_limit l.b_limit l.tally

abbrev pub decreases-references : goal.decreases-references
decreases-references l = (l.a_to - l.i) + (l.b_to - l.j)
