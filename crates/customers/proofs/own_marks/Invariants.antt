-- `customers::own_marks` meets its contract. The loop's invariant: the marks passed are the customer's own.
use Rattle.std.proofs.Common.{◌≡◌, ◌++◌, map, take, drop}
use Rattle.customers.specs.Customers.{own_mark}
use Rattle.customers.proofs.own_marks.Given as goal

abbrev pub invariant-loop-mark : goal.invariant-loop-mark
invariant-loop-mark l = l.mark-items ≡ map (own_mark l.customer) (take l.mark-index l.fn.marks) ++ drop l.mark-index l.fn.marks
