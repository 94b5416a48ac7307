-- `campaign::marks::row` meets its contract. The loop's invariant: the jobs counted and those of the columns left are the row's.
use Rattle.campaign.proofs.SettledRows.{Counted, row_from}
use Rattle.campaign.proofs.marks.row.Given as goal

abbrev pub invariant-loop-b : goal.invariant-loop-b
invariant-loop-b l = Counted (row_from l.marks l.a l.cols 0) (row_from l.marks l.a l.cols l.b) l.count
