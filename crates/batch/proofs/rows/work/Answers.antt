-- `batch::rows::work` meets its contract.
use mathlib.Core.Path.{◌≡◌, ◌∙◌}
use Rattle.std.proofs.Common.{rules, arith, ◌≤◌, length}
use Rattle.customers.proofs.CustomerLaws.{own_size}
use Rattle.batch.proofs.Refusal.{left_at, left_end, columns_short}
use Rattle.batch.proofs.Answer.{next_asked, sums_fit, working_more, rows_done}
use Rattle.batch.proofs.rows.work.Goals as goal

pub work-job-requires-clause-job_asked : goal.work-job-requires-clause-job_asked
work-job-requires-clause-job_asked c =
    (next_asked (left_at _ _ _ c.requires.equal_columns c.loop-i-test.true) c.requires.both_lists c.loop-i.invariant).0

pub sums_with-sums-requires : goal.sums_with-sums-requires
sums_with-sums-requires c =
    let long : length c.args.g.marks ≡ 1024 = search rules in
    let short : length c.args.job_way.now ≤ 1024 =
    columns_short _ _ _ c.requires.equal_columns c.requires.rows_asked (own_size c.args.customer c.args.g ∙ long) in
    sums_fit (left_at _ _ _ c.requires.equal_columns c.loop-i-test.true) c.requires.both_lists c.loop-i.invariant
    c.way_of-way.ensures _ _ c.work-job.ensures (omega (arith, short, c.loop-i-test.true))

pub loop-i-preserved : goal.loop-i-preserved
loop-i-preserved c =
    working_more (left_at _ _ _ c.requires.equal_columns c.loop-i-test.true) c.requires.both_lists c.loop-i.invariant
    c.way_of-way.ensures _ _ c.work-job.ensures c.sums_with-sums.ensures

pub returns : goal.returns
returns c = rows_done (left_end _ _ _ c.requires.equal_columns c.loop-i-test.false) c.loop-i.invariant
