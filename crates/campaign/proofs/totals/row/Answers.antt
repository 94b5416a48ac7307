-- A settled job's pairs are counted, and an open one's are none.
use native.Mathlib.Omega.{arith}
use mathlib.Core.Path.{sym, ◌∙◌}
use Rattle.campaign.specs.Grid.{job_of}
use Rattle.campaign.proofs.SoundPlan.{plan_parts}
use Rattle.campaign.proofs.SettledRows.{row_settled, row_open, row_few}
use Rattle.campaign.proofs.PairTotal.{left_all, left_one, left_few, row_pairs_lem}
use Rattle.campaign.proofs.totals.row.Goals as goal
use Rattle.campaign.proofs.totals.row.Goals.{then-is_settled, else-is_settled}

pub loop-t-init : goal.loop-t-init
loop-t-init c = left_all _ _ _ _ _ _ _ _ _

pub is_settled-requires : goal.is_settled-requires
is_settled-requires c =
    let p = plan_parts _ _ _ c.requires.plan.0 in
    (omega (arith, p.rows, c.requires.plan.1), omega (arith, p.cols, c.loop-t-test.true))

pub job-pairs-requires : goal.job-pairs-requires
job-pairs-requires c = record {
  both_lists = c.requires.both_lists;
  job_asked = record { plan = c.requires.plan.0; row = c.requires.plan.1; column = c.loop-t-test.true };
}

pub overflow_add-pairs : goal.overflow_add-pairs
overflow_add-pairs c =
    let more =
    left_one _ _ _ _ _ _ _ _ c.loop-t.invariant (job_of c.args.s c.loop-t.t) _
    (row_settled _ _ _ _ c.loop-t-test.true (sym c.is_settled.ensures ∙ c.if-is_settled.true))
    c.job-pairs.ensures in
    omega (
      arith,
      left_few _ _ _ _ _ _ _ _ more c.requires.both_lists.0 c.requires.both_lists.1,
      row_few c.args.c.marks c.args.s c.args.c.second_strips,
      (plan_parts _ _ _ c.requires.plan.0).cols,
    )

pub loop-t-preserved : goal.loop-t-preserved
loop-t-preserved c =
    elim c.if-is_settled.branch [
      | then-is_settled w ↦
          rw w.pairs-is
          (left_one _ _ _ _ _ _ _ _ c.loop-t.invariant (job_of c.args.s c.loop-t.t) _
          (row_settled _ _ _ _ c.loop-t-test.true (sym c.is_settled.ensures ∙ w.if-is_settled.true))
          w.job-pairs.ensures)
      | else-is_settled w ↦
          rw (w.pairs-is, ← row_open _ _ _ _ c.loop-t-test.true (sym c.is_settled.ensures ∙ w.if-is_settled.false)) c.loop-t.invariant
    ]

pub returns : goal.returns
returns c = row_pairs_lem _ _ _ _ _ _ _ _ _ _ _ _ c.loop-t-test.false c.loop-t.invariant
