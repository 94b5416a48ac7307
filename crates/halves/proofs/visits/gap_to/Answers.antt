-- The boxes in the order of their lists.
use Rattle.halves.specs.Internal.{gap_of}
use Rattle.halves.proofs.visits.gap_to.Goals as goal

pub returns-then-swapped : goal.returns-then-swapped
unfolding gap_of
returns-then-swapped c = rw c.if-swapped.true c.squared_gap.ensures

pub returns-else-swapped : goal.returns-else-swapped
unfolding gap_of
returns-else-swapped c = rw c.if-swapped.false c.squared_gap-else-swapped.ensures
