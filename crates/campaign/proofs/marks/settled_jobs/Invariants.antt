-- `campaign::marks::settled_jobs` meets its contract. The loop's invariant: the jobs counted and those of the rows left are all
-- settled jobs.
use Rattle.campaign.proofs.SettledRows.{Counted, rows_from}
use Rattle.campaign.proofs.marks.settled_jobs.Given as goal

abbrev pub invariant-loop-a : goal.invariant-loop-a
invariant-loop-a l = Counted (rows_from l.marks l.rows l.cols 0) (rows_from l.marks l.rows l.cols l.a) l.count
