-- `campaign::totals::settled_pairs` meets its contract.
use native.Mathlib.Omega.{arith}
use Rattle.campaign.specs.Grid.{settled_jobs}
use Rattle.campaign.proofs.SoundPlan.{plan_parts}
use Rattle.campaign.proofs.SettledRows.{rows_few}
use Rattle.campaign.proofs.PairTotal.{left_all, left_few, rows_more, rows_pairs}
use Rattle.campaign.proofs.totals.settled_pairs.Goals as goal

pub loop-s-init : goal.loop-s-init
loop-s-init c = left_all _ _ _ _ _ _ _ _ _

pub overflow_add-pairs : goal.overflow_add-pairs
overflow_add-pairs c =
    let p = plan_parts _ _ _ c.requires.plan in
    let more = rows_more _ _ _ _ _ _ _ _ _ _ _ _ c.loop-s-test.true c.loop-s.invariant c.row-pairs.ensures in
    omega (
      arith,
      left_few _ _ _ _ _ _ _ _ more c.requires.both_lists.0 c.requires.both_lists.1,
      rows_few c.args.c.marks c.args.c.first_strips c.args.c.second_strips p.rows p.cols,
    )

pub loop-s-preserved : goal.loop-s-preserved
loop-s-preserved c = rows_more _ _ _ _ _ _ _ _ _ _ _ _ c.loop-s-test.true c.loop-s.invariant c.row-pairs.ensures

pub returns : goal.returns
unfolding settled_jobs
returns c = rows_pairs _ _ _ _ _ _ _ _ _ _ _ _ c.loop-s-test.false c.loop-s.invariant
