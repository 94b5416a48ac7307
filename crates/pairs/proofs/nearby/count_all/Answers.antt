-- `pairs::count_all` meets its contract.
use mir.Syntax.{w32}
use Rattle.std.proofs.Common.{arith, rules, to_z-of_z}
use Rattle.pairs.proofs.Offset.{rising}
use Rattle.pairs.proofs.NearPairs.{pairs_end, row_few, row_asks, row_counted, ready_more}
use Rattle.pairs.proofs.nearby.count_all.Goals as goal

pub next_run-run-requires : goal.next_run-run-requires
next_run-run-requires c =
    let h = c.loop-i-test.true in
    (h, rising c.requires.coordinates_2.0, c.loop-i.invariant.0.behind h)

pub count_row-count-requires : goal.count_row-count-requires
count_row-count-requires c =
    let r = c.next_run-run.ensures in (
      row_asks _ _ _ _ _ _ _ c.requires.coordinates c.requires.coordinates_2 c.loop-i-test.true r
          (to_z-of_z {w = w32} (search rules)) (to_z-of_z {w = w32} (search rules)) (to_z-of_z {w = w32} (search rules)),
      r.behind.right,
    )

pub overflow_add-count : goal.overflow_add-count
overflow_add-count c =
    omega (
      arith,
      row_few _ _ _ _ _ _ _ c.requires.coordinates c.requires.coordinates_2 c.loop-i-test.true c.next_run-run.ensures
          (to_z-of_z {w = w32} (search rules)) (to_z-of_z {w = w32} (search rules)) (to_z-of_z {w = w32} (search rules))
          c.loop-i.count c.count_row-count.result c.loop-i.invariant.1 c.count_row-count.ensures,
    )

pub loop-i-preserved : goal.loop-i-preserved
loop-i-preserved c =
    let r = c.next_run-run.ensures in
    let more =
    row_counted _ _ _ _ _ _ _ c.requires.coordinates c.requires.coordinates_2 c.loop-i-test.true r
    (to_z-of_z {w = w32} (search rules)) (to_z-of_z {w = w32} (search rules)) (to_z-of_z {w = w32} (search rules))
    c.count_row-count.ensures in (
      ready_more (rising c.requires.coordinates.0) c.loop-i-test.true r,
      omega (arith, more, c.loop-i.invariant),
    )

pub returns : goal.returns
returns c = pairs_end _ _ _ _ _ _ _ c.loop-i-test.false c.loop-i.invariant.1
