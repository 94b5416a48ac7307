-- The four numbers of a tally.
use mathlib.Core.Path.{refl}
use Rattle.halves.specs.Internal.{tally_of}
use Rattle.halves.proofs.visits.numbers.Goals as goal

pub returns : goal.returns
unfolding tally_of
returns c = (refl, refl)
