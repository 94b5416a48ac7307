-- `boxes::box_around` meets its contract.
use native.Mathlib.Omega.{arith}
use Rattle.std.proofs.lemmas.Int.{to_z-of_z}
use Rattle.boxes.proofs.Box.{six_edges}
use Rattle.boxes.proofs.box_around.Goals as goal

pub returns : goal.returns
returns c = grind (arith, to_z-of_z, six_edges)
