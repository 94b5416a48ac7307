-- `site::column_between` meets its contract.
use mathlib.Core.Path.{◌∙◌}
use mir.Facts.{to_z-of_z}
use Rattle.order.specs.Lists.{all}
use Rattle.site.specs.Site.{between}
use Rattle.site.proofs.lists.column_between.Goals as goal

pub ends_between-requires : goal.ends_between-requires
ends_between-requires c = c.requires.1 c.if-sorted.true

pub returns-then-sorted : goal.returns-then-sorted
returns-then-sorted c = c.ends_between.ensures ∙ (λ i. all (between (to_z-of_z c.ranges.low i) (to_z-of_z c.ranges.high i)) c.args.column.now)

pub returns-else-sorted : goal.returns-else-sorted
returns-else-sorted c = c.all_between.ensures ∙ (λ i. all (between (to_z-of_z c.ranges.low i) (to_z-of_z c.ranges.high i)) c.args.column.now)
