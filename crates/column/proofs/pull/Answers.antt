-- Taking out the first element of a column: the loop's invariant is the law of a run that moves down.
use borrow.Author.Rules.{rules}
use Rattle.column.proofs.Removed.{shifted_down_none, shifted_down_more, shifted_down_all}
use Rattle.column.proofs.pull.Goals as goal

pub loop-i-init : goal.loop-i-init
loop-i-init g c = shifted_down_none _ _

pub loop-i-preserved : goal.loop-i-preserved
loop-i-preserved g c = shifted_down_more _ _ c.index-column-i.result _ _ (search rules) (search rules) (search rules) c.index-column-i.is c.loop-i.invariant

pub returns : goal.returns
returns g c = shifted_down_all _ _ _ _ (search rules) c.loop-i.invariant
