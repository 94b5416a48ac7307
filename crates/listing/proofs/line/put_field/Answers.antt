-- Writing a number and the byte after it.
use native.Mathlib.Omega.{arith}
use Rattle.listing.proofs.Lines.{decimal_room, field_put}
use Rattle.listing.proofs.line.put_field.Goals as goal

pub bounds-out-next : goal.bounds-out-next
bounds-out-next c = decimal_room _ c.requires c.put_decimal-next.ensures

pub overflow_add-result : goal.overflow_add-result
overflow_add-result c = omega (arith, decimal_room _ c.requires c.put_decimal-next.ensures)

pub returns : goal.returns
returns c = field_put _ c.requires c.put_decimal-next.ensures _
