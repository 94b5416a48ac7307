-- The tally of its four numbers.
use mathlib.Core.Path.{refl}
use Rattle.halves.specs.Internal.{tally_of}
use Rattle.halves.proofs.visits.held.Goals as goal

pub returns : goal.returns
unfolding tally_of
returns c = refl
