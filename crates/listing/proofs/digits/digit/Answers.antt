-- A decimal digit: a power of ten is not 0.
use native.Mathlib.Omega.{arith}
use Rattle.listing.specs.Internal.{digit_at}
use Rattle.listing.proofs.Decimal.{power_positive}
use Rattle.listing.proofs.digits.digit.Goals as goal

pub nonzero_div-result : goal.nonzero_div-result
nonzero_div-result c = omega (arith, power_positive c.args.i)

pub returns : goal.returns
unfolding digit_at
returns c = rw c.power.ensures
