-- `halves::gap::gap_beyond` meets its contract.
use mathlib.Core.Path.{ap₂, ◌∙◌}
use borrow.Author.Tests.{lt-ltb}
use Rattle.site.proofs.PositionOrder.{coordinates_sorted}
use Rattle.boxes.specs.Box.{squared_box_gap}
use Rattle.halves.proofs.SquaredStripGap.{across_within, across_decides}
use Rattle.halves.proofs.gap.gap_beyond.Goals as goal

pub box_across-requires : goal.box_across-requires
box_across-requires c = let h = c.requires.0 in (coordinates_sorted h.strip.lawful, (h.some, h.strip.inside))

pub box_across-requires-2 : goal.box_across-requires-2
box_across-requires-2 c = let h = c.requires.1 in (coordinates_sorted h.strip.lawful, (h.some, h.strip.inside))

pub squared_gap-across-requires : goal.squared_gap-across-requires
squared_gap-across-requires c =
    (rw c.box_across.ensures (across_within c.requires.0), rw c.box_across-2.ensures (across_within c.requires.1))

-- The gap along x is of the ends of both ranges.
pub returns-then-limit-across : goal.returns-then-limit-across
returns-then-limit-across c =
    let across = c.squared_gap-across.ensures ∙ ap₂ squared_box_gap c.box_across.ensures c.box_across-2.ensures in
    let beyond = c.if-limit-across.true in
    record {
      numbered = λ an bn la lb.
          lt-ltb _ _ beyond ∙ across_decides an bn c.requires.0 c.requires.1 la lb across beyond;
    }
