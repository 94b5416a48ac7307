-- `halves::gap::box_of` meets its contract.
use mathlib.Core.Path.{◌∙◌}
use Rattle.halves.proofs.SquaredStripGap.{part_sorted, range_box}
use Rattle.halves.proofs.gap.box_of.Goals as goal

pub box_around-requires : goal.box_around-requires
box_around-requires c = part_sorted c.requires

pub returns : goal.returns
returns c = c.box_around.ensures ∙ range_box c.requires
