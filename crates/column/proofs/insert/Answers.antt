-- A value put into a column: at the start of the part from its place on.
use mathlib.Core.Path.{refl}
use Rattle.column.proofs.Inserted.{inserted_part}
use Rattle.column.proofs.insert.Goals as goal

pub returns : goal.returns
returns g c = inserted_part _ _ c.args.column.now c.requires.0 c.requires.1 _ refl c.push.ensures
