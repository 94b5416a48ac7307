-- `bands::leaves_gap` meets its contract: both tests, one after another.
use Rattle.std.proofs.Common.{arith}
use Rattle.std.proofs.lemmas.Bool.Decides.{nat_tests}
use Rattle.bands.specs.Bands.{leaves_gap}
use Rattle.bands.proofs.judging.leaves_gap.Goals as goal

pub returns-then-before-band : goal.returns-then-before-band
unfolding leaves_gap
returns-then-before-band c = grind (arith, nat_tests)

pub returns-then-last : goal.returns-then-last
unfolding leaves_gap
returns-then-last c = grind (arith, nat_tests)

pub returns-else-last : goal.returns-else-last
unfolding leaves_gap
returns-else-last c = grind (arith, nat_tests)
