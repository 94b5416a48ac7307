-- `bands::overlaps` meets its contract: the three tests, one after another.
use Rattle.std.proofs.Common.{arith}
use Rattle.std.proofs.lemmas.Bool.Decides.{nat_tests}
use Rattle.bands.specs.Bands.{overlaps}
use Rattle.bands.proofs.judging.overlaps.Goals as goal

pub returns-then-band : goal.returns-then-band
unfolding overlaps
returns-then-band c = grind (arith, nat_tests)

pub returns-else-band : goal.returns-else-band
unfolding overlaps
returns-else-band c = grind (arith, nat_tests)
