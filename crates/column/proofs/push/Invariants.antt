-- Putting a value at the start of a column: the loop's invariant is the law of a run that moves up.
use Rattle.column.proofs.Inserted.{ShiftedUp}
use Rattle.column.proofs.push.Given as goal

abbrev pub invariant-loop-i : goal.invariant-loop-i
invariant-loop-i g l = ShiftedUp l.initial.column l.n l.i l.column
