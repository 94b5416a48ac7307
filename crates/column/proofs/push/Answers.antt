-- Putting a value at the start of a column: the loop's invariant is the law of a run that moves up.
use mathlib.Core.Path.{refl}
use borrow.Author.Rules.{rules}
use Rattle.column.proofs.Inserted.{shifted_up_none, shifted_up_more, shifted_up_all}
use Rattle.column.proofs.push.Goals as goal

pub loop-i-init : goal.loop-i-init
loop-i-init g c = shifted_up_none _ _ c.requires

pub loop-i-preserved : goal.loop-i-preserved
loop-i-preserved g c = shifted_up_more _ _ c.index-column-i.result _ _ (search rules) c.index-column-i.is c.loop-i.invariant

pub returns : goal.returns
returns g c = shifted_up_all _ _ _ _ (search rules) c.requires refl c.loop-i.invariant
