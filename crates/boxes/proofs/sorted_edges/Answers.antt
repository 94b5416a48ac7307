-- `boxes::sorted_edges` meets its contract.
use native.Mathlib.Omega.{arith}
use Rattle.std.proofs.lemmas.Int.{to_z-of_z}
use Rattle.boxes.proofs.Widened.{no_edges, sorted_edges}
use Rattle.boxes.proofs.sorted_edges.Goals as goal

pub returns-in-Some-Some : goal.returns-in-Some-Some
returns-in-Some-Some c = grind (arith, to_z-of_z, sorted_edges)

pub returns-in_default-2 : goal.returns-in_default-2
returns-in_default-2 c = grind (arith, no_edges)
