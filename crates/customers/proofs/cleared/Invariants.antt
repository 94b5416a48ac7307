-- `customers::cleared` meets its contract. The loop's invariant: the marks passed are cleared.
use Rattle.std.proofs.Common.{◌≡◌, ◌++◌, map, take, drop}
use Rattle.customers.specs.Customers.{with_own}
use Rattle.customers.proofs.cleared.Given as goal

abbrev pub invariant-loop-mark : goal.invariant-loop-mark
invariant-loop-mark l = l.mark-items ≡ map (with_own l.customer 0) (take l.mark-index l.fn.marks) ++ drop l.mark-index l.fn.marks
