-- The classic sweep: each turn moves one finger on, by the law of its list.
use Prim.Native.Nat.{◌+◌, ◌-◌}
use Rattle.entry.specs.Results.{results}
use Rattle.entry.proofs.Within.{SameLengths}
use Rattle.sweep.proofs.ClassicInvariant.{ClassicInvariant}
use Rattle.sweep.proofs.sweeps.classic.Given as goal

abbrev pub invariant-loop-i : goal.invariant-loop-i
invariant-loop-i l =
    let before = results l.initial.distance l.initial.first l.initial.second in
    let now = results l.distance l.first l.second in
    SameLengths before now × ClassicInvariant l.ax l.ay l.ah l.bx l.by l.bh l.a_from l.a_to l.b_from l.b_to l.k l.count before now l.i l.j l.tally

abbrev pub decreases-loop-i : goal.decreases-loop-i
decreases-loop-i l = (l.a_to - l.i) + (l.b_to - l.j)
