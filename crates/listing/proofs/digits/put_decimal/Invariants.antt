-- Writing a number: its lowest digits are left, the next one is written.
use Rattle.listing.proofs.Decimal.{DigitsLeft}
use Rattle.listing.proofs.digits.put_decimal.Given as goal

abbrev pub invariant-loop-left : goal.invariant-loop-left
invariant-loop-left l = DigitsLeft l.n l.at l.initial.out l.left l.out l.next
