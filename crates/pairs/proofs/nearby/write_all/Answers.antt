-- `pairs::write_all` meets its contract.
use mir.Syntax.{w32}
use Rattle.std.proofs.Common.{rules, to_z-of_z}
use Rattle.pairs.proofs.Offset.{rising}
use Rattle.pairs.proofs.NearPairs.{pairs_none, row_asks, row_first, ready_more}
use Rattle.pairs.proofs.Written.{writing_room, writing_more, writing_ends}
use Rattle.pairs.proofs.nearby.write_all.Goals as goal

pub next_run-run-requires : goal.next_run-run-requires
next_run-run-requires c =
    let h = c.loop-i-test.true in
    (h, rising c.requires.coordinates_2.0, c.loop-i.invariant.0.behind h)

pub write_row-n-requires : goal.write_row-n-requires
write_row-n-requires c =
    let h = c.loop-i-test.true in
    let r = c.next_run-run.ensures in
    let p = c.requires.coordinates in
    let q = c.requires.coordinates_2 in (
      row_asks _ _ _ _ _ _ _ p q h r
          (to_z-of_z {w = w32} (search rules)) (to_z-of_z {w = w32} (search rules)) (to_z-of_z {w = w32} (search rules)),
      r.behind.right,
      writing_room c.loop-i.invariant.1 _ _
          (row_first _ _ _ _ _ _ _ p q h r
          (to_z-of_z {w = w32} (search rules)) (to_z-of_z {w = w32} (search rules)) (to_z-of_z {w = w32} (search rules))),
    )

pub loop-i-preserved : goal.loop-i-preserved
loop-i-preserved c =
    let h = c.loop-i-test.true in
    let r = c.next_run-run.ensures in
    let p = c.requires.coordinates in
    let q = c.requires.coordinates_2 in (
      ready_more (rising p.0) h r,
      writing_more c.loop-i.invariant.1 _ _
          (row_first _ _ _ _ _ _ _ p q h r
          (to_z-of_z {w = w32} (search rules)) (to_z-of_z {w = w32} (search rules)) (to_z-of_z {w = w32} (search rules)))
          c.write_row-n.ensures,
    )

pub returns : goal.returns
returns c = writing_ends c.loop-i.invariant.1 (pairs_none _ _ _ _ _ _ _ c.loop-i.i c.loop-i-test.false)
