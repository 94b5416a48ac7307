-- `batch::rows::work` meets its contract. The loop's invariant: the jobs still to do leave and answer, from here, what all do.
use Rattle.entry.specs.Results.{results}
use Rattle.batch.specs.Batch.{batch_of, rows_of, no_job}
use Rattle.batch.proofs.Refusal.{left_from}
use Rattle.batch.proofs.Answer.{Working}
use Rattle.batch.proofs.rows.work.Given as goal

abbrev pub invariant-loop-i : goal.invariant-loop-i
invariant-loop-i l =
    Working l.customer l.a.x.now l.a.y.now l.a.height.now l.b.x.now l.b.y.now l.b.height.now (no_job l.fn.g (results l.initial.distance l.initial.first l.initial.second))
    (rows_of (batch_of l.job_first l.job_second l.job_way)) (left_from l.i l.job_first l.job_second l.job_way) l.i l.grid
    (results l.distance l.first l.second) l.sums
