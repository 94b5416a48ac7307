-- `pairs::write_row` meets its contract.
use Rattle.std.proofs.Common.{[], map, ap, to_z-of_z}
use Rattle.sweep.specs.Strip.{pair}
use Rattle.sweep.specs.Terms.{spot}
use Rattle.pairs.proofs.NearSites.{near_none, near_yes, near_no}
use Rattle.pairs.proofs.Written.{room_some, written_none, written_one, writing_room, writing_more, writing_ends}
use Rattle.pairs.proofs.nearby.write_row.Goals as goal
use Rattle.pairs.proofs.nearby.write_row.Goals.{then-is_near, else-is_near}

pub bounds-first-at : goal.bounds-first-at
bounds-first-at c =
    let l = c.loop-j in
    (room_some _ (near_yes _ _ _ _ _ _ _ l.j _ c.loop-j-test.true c.is_near.ensures c.if-is_near.true) l.invariant.room).0

pub bounds-second-at : goal.bounds-second-at
bounds-second-at c =
    let l = c.loop-j in
    (room_some _ (near_yes _ _ _ _ _ _ _ l.j _ c.loop-j-test.true c.is_near.ensures c.if-is_near.true) l.invariant.room).1

pub loop-j-preserved : goal.loop-j-preserved
unfolding pair spot
loop-j-preserved c =
    let l = c.loop-j in
    let h = c.loop-j-test.true in
    elim c.if-is_near.branch [
      | then-is_near w ↦
          let e = ap (map _) (near_yes _ _ _ _ _ _ _ l.j _ h c.is_near.ensures w.if-is_near.true) in
          writing_more l.invariant _ _ e (written_one _ w.first-is w.second-is w.at-is (writing_room l.invariant _ _ e))
      | else-is_near w ↦
          writing_more l.invariant [] _
          (ap (map _) (near_no _ _ _ _ _ _ _ l.j _ h c.is_near.ensures w.if-is_near.false))
          (written_none w.first-is w.second-is w.at-is)
    ]

pub returns : goal.returns
returns c =
    rw (to_z-of_z c.ranges.x, to_z-of_z c.ranges.y, to_z-of_z c.ranges.h) at
    (writing_ends c.loop-j.invariant (ap (map _) (near_none _ _ _ _ _ _ _ c.loop-j.j _ c.loop-j-test.false)))
