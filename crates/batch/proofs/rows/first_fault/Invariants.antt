-- `batch::rows::first_fault` meets its contract. The loop's invariant: the jobs still to pass tell what all tell.
use Rattle.std.proofs.Common.{◌≡◌, length}
use Rattle.batch.specs.Batch.{batch_of, rows_of, rows_refusal}
use Rattle.batch.proofs.Refusal.{left_from}
use Rattle.batch.proofs.rows.first_fault.Given as goal

abbrev pub invariant-loop-i : goal.invariant-loop-i
invariant-loop-i l =
    (rows_refusal l.rows l.cols l.settled (left_from l.i l.job_first l.job_second l.job_way)
    ≡ rows_refusal l.rows l.cols l.fn.marks (rows_of (batch_of l.job_first l.job_second l.job_way)))
    × (length l.settled ≡ 1024)
