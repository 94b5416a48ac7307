-- `boxes::gap_along` meets its contract.
use native.Mathlib.Omega.{arith}
use Rattle.std.proofs.lemmas.Int.{to_z-of_z}
use Rattle.boxes.proofs.gap_along.Goals as goal

pub returns : goal.returns
returns c = grind (arith, to_z-of_z)
