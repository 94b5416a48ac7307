-- The coordinates and the heights of the reference and of a place of the columns, and the squared distance that the callee gives.
use native.Mathlib.Omega.{arith}
use Rattle.std.proofs.lemmas.Int.{to_z-of_z}
use Rattle.site.proofs.Accepted.{coordinate_x, coordinate_y, height_at}
use Rattle.sweep.specs.Terms.{spot}
use Rattle.sweep.proofs.look.squared_distance_at.Goals as goal

pub squared_distance-requires-clause-bx_value : goal.squared_distance-requires-clause-bx_value
squared_distance-requires-clause-bx_value c =
    let h = height_at c.requires.0.heights _ c.requires.1 in
    grind (arith, to_z-of_z, coordinate_x, coordinate_y)

pub returns : goal.returns
unfolding spot
returns c = grind (arith, to_z-of_z)
