-- The positions of the reference and of a place of the columns lie within the limits.
use native.Mathlib.Omega.{arith}
use Rattle.std.proofs.lemmas.Int.{to_z-of_z}
use Rattle.site.proofs.Accepted.{coordinate_x, coordinate_y}
use Rattle.sweep.proofs.look.plane_distance_at.Goals as goal

pub plane_distance-requires : goal.plane_distance-requires
plane_distance-requires c = grind (arith, to_z-of_z, coordinate_x, coordinate_y)
