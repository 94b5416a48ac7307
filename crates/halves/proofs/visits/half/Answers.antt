-- A half made of its places, their box and its gap.
use Rattle.halves.proofs.SquaredStripGap.{range_within}
use Rattle.halves.proofs.visits.half.Goals as goal

pub gap_to-requires : goal.gap_to-requires
gap_to-requires c = (range_within c.requires.0 c.box_of-edges.ensures, c.requires.1)
