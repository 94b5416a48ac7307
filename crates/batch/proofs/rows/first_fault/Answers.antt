-- `batch::rows::first_fault` meets its contract.
use mathlib.Core.Path.{refl, sym, ap, ◌∙◌}
use native.Mathlib.Omega.{arith}
use lib.ListN.{get_or, length-set}
use Rattle.std.proofs.Common.{rules}
use Rattle.campaign.specs.Grid.{mark_of}
use Rattle.campaign.proofs.JobRefusal.{no_job_fault}
use Rattle.site.specs.Answer.{number, refusal_of}
use Rattle.site.proofs.Answer.{passed_on, refusal_numbered}
use Rattle.batch.specs.Batch.{row_of, rows_refusal}
use Rattle.batch.proofs.Refusal.{left_at, left_end, other_way, row_refused, row_accepted}
use Rattle.batch.proofs.rows.first_fault.Goals as goal

pub loop-i-init : goal.loop-i-init
loop-i-init c = (refl, search rules)

pub returns-then-not-is_way : goal.returns-then-not-is_way
unfolding refusal_of number
returns-then-not-is_way c =
    let here = left_at _ _ _ c.requires.equal_columns c.loop-i-test.true in
    other_way _ _ c.loop-i.settled _ _ (sym c.is_way.ensures ∙ c.if-not-is_way.true)
    ∙ sym (ap (rows_refusal c.args.rows c.args.cols c.loop-i.settled) here)
    ∙ c.loop-i.invariant.0

pub returns-in_err-fault : goal.returns-in_err-fault
unfolding refusal_of
returns-in_err-fault c =
    let here = left_at _ _ _ c.requires.equal_columns c.loop-i-test.true in
    rw (passed_on c.from_residual.ensures)
    (row_refused _ _ c.loop-i.settled _ _ (sym c.is_way.ensures ∙ c.if-not-is_way.false) c.in_err-fault.ensures (refusal_numbered _))
    ∙ sym (ap (rows_refusal c.args.rows c.args.cols c.loop-i.settled) here)
    ∙ c.loop-i.invariant.0

pub bounds-settled-s : goal.bounds-settled-s
unfolding refusal_of
bounds-settled-s c =
    let inside = (no_job_fault _ _ _ _ (sym c.in_ok-fault.ensures)).0 in
    omega (arith, inside.row, inside.column, c.requires.rows_bound)

pub loop-i-preserved : goal.loop-i-preserved
unfolding mark_of refusal_of
loop-i-preserved c =
    let here = left_at _ _ _ c.requires.equal_columns c.loop-i-test.true in (
      row_accepted _ _ c.loop-i.settled
          (row_of (get_or c.args.job_first.now c.loop-i.i 0) (get_or c.args.job_second.now c.loop-i.i 0)
          (get_or c.args.job_way.now c.loop-i.i 0))
          _ (sym c.is_way.ensures ∙ c.if-not-is_way.false) (sym c.in_ok-fault.ensures)
          ∙ sym (ap (rows_refusal c.args.rows c.args.cols c.loop-i.settled) here)
          ∙ c.loop-i.invariant.0,
      length-set c.loop-i.settled _ 1 ∙ c.loop-i.invariant.1,
    )

pub returns : goal.returns
unfolding rows_refusal refusal_of
returns c =
    sym (ap (rows_refusal c.args.rows c.args.cols c.loop-i.settled) (left_end _ _ _ c.requires.equal_columns c.loop-i-test.false))
    ∙ c.loop-i.invariant.0
