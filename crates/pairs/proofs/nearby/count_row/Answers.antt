-- `pairs::count_row` meets its contract.
use Rattle.std.proofs.Common.{length, ap, arith, to_z-of_z}
use Rattle.pairs.proofs.NearSites.{near_yes, near_no, near_ends}
use Rattle.pairs.proofs.nearby.count_row.Goals as goal
use Rattle.pairs.proofs.nearby.count_row.Goals.{then-is_near, else-is_near}

pub loop-j-preserved : goal.loop-j-preserved
loop-j-preserved c =
    let l = c.loop-j in
    let h = c.loop-j-test.true in
    elim c.if-is_near.branch [
      | then-is_near w ↦
          let e = ap length (near_yes _ _ _ _ _ _ _ l.j _ h c.is_near.ensures w.if-is_near.true) in
          (omega arith, omega (arith, e))
      | else-is_near w ↦
          let e = ap length (near_no _ _ _ _ _ _ _ l.j _ h c.is_near.ensures w.if-is_near.false) in
          (omega arith, omega (arith, e))
    ]

pub returns : goal.returns
returns c =
    rw (to_z-of_z c.ranges.x, to_z-of_z c.ranges.y, to_z-of_z c.ranges.h) at
    (near_ends _ _ _ _ _ _ _ c.loop-j-test.false c.loop-j.invariant.1)
