-- `site::positions_within` meets its contract.
use mathlib.Core.Path.{sym, ◌∙◌}
use Rattle.site.specs.Site.{within}
use Rattle.site.proofs.lists.positions_within.Goals as goal

pub returns-then-column_between : goal.returns-then-column_between
unfolding within
returns-then-column_between c = simp (sym c.column_between.ensures ∙ c.if-column_between.true) c.all_between.ensures

pub returns-else-column_between : goal.returns-else-column_between
unfolding within
returns-else-column_between c =
    simp (sym c.column_between.ensures ∙ c.if-column_between.false) c.if-column_between.false
