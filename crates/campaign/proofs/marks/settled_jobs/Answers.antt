-- `campaign::marks::settled_jobs` meets its contract.
use native.Mathlib.Omega.{arith}
use Rattle.campaign.proofs.SettledRows.{counted_none, counted_few, rows_counted, rows_few, rows_done}
use Rattle.campaign.proofs.marks.settled_jobs.Goals as goal

pub loop-a-init : goal.loop-a-init
loop-a-init c = counted_none _

pub overflow_add-count : goal.overflow_add-count
overflow_add-count c =
    let more = rows_counted _ _ _ _ c.loop-a-test.true c.loop-a.invariant c.row-count.ensures in
    omega (arith, counted_few more, rows_few c.args.marks.now c.args.rows c.args.cols c.requires.0 c.requires.1)

pub loop-a-preserved : goal.loop-a-preserved
loop-a-preserved c = rows_counted _ _ _ _ c.loop-a-test.true c.loop-a.invariant c.row-count.ensures

pub returns : goal.returns
returns c = rows_done _ _ _ _ c.loop-a-test.false c.loop-a.invariant
