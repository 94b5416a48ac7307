-- An element taken out of a column: the first one of the part from its place on.
use Rattle.column.proofs.Removed.{removed_part}
use Rattle.column.proofs.remove.Goals as goal

pub returns : goal.returns
returns g c = removed_part _ _ c.args.column.now c.requires.0 c.requires.1 _ c.pull.ensures
