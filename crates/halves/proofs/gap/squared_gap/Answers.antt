-- `halves::gap::squared_gap` meets its contract.
use mathlib.Core.Path.{ap₂, ◌∙◌}
use Rattle.boxes.specs.Box.{squared_box_gap}
use Rattle.halves.specs.Gap.{squared_strip_gap}
use Rattle.halves.proofs.SquaredStripGap.{range_within, strips_gap}
use Rattle.halves.proofs.gap.squared_gap.Goals as goal

pub squared_gap-requires : goal.squared_gap-requires
squared_gap-requires c = (range_within c.requires.0 c.box_of.ensures, range_within c.requires.1 c.box_of-2.ensures)

pub returns : goal.returns
unfolding squared_strip_gap
returns c =
    record {
      numbered = λ an bn la lb.
          c.squared_gap.ensures
          ∙ ap₂ squared_box_gap c.box_of.ensures c.box_of-2.ensures
          ∙ strips_gap an bn c.requires.0 c.requires.1 la lb;
    }
