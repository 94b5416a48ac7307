-- Taking out the first element of a column: the loop's invariant is the law of a run that moves down.
use Rattle.std.proofs.Common.{◌-◌}
use Rattle.column.proofs.Removed.{ShiftedDown}
use Rattle.column.proofs.pull.Given as goal

abbrev pub invariant-loop-i : goal.invariant-loop-i
invariant-loop-i g l = ShiftedDown l.initial.column l.n (l.i - 1) l.column
