-- Those counted, and those from the two fingers on, are all.
use mathlib.Core.Path.{◌≡◌}
use Prim.Native.Nat.{◌+◌, ◌-◌, ◌≤◌}
use Rattle.sweep.proofs.CoSited.{co_sited_from}
use Rattle.sweep.proofs.count.co_sited.Given as goal

abbrev pub invariant-loop-i : goal.invariant-loop-i
invariant-loop-i l =
    let counted = co_sited_from l.a.x.now l.a.y.now l.a.height.now l.b.x.now l.b.y.now l.b.height.now in
    (l.i ≤ l.a_to) × (l.j ≤ l.b_to) × (l.count + counted l.i l.a_to l.j l.b_to ≡ counted l.a_from l.a_to l.b_from l.b_to)

abbrev pub decreases-loop-i : goal.decreases-loop-i
decreases-loop-i l = (l.a_to - l.i) + (l.b_to - l.j)
