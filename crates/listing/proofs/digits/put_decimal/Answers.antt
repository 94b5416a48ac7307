-- Writing a number: its lowest digits are left, the next one is written.
use borrow.Author.Rules.{rules}
use Rattle.listing.proofs.Decimal.{digits_starts, digits_more, digits_ends}
use Rattle.listing.proofs.digits.put_decimal.Goals as goal

pub loop-left-init : goal.loop-left-init
loop-left-init c = digits_starts _ _ _ (search rules) c.digits-left.ensures

pub loop-left-preserved : goal.loop-left-preserved
loop-left-preserved c = digits_more _ _ _ _ _ _ (search rules) c.digit.ensures c.loop-left.invariant

pub returns : goal.returns
returns c = digits_ends _ _ _ _ _ (search rules) c.loop-left.invariant
