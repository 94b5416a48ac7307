-- `heights::equal` meets its contract.
use native.Mathlib.Omega.{arith}
use Rattle.std.proofs.lemmas.Int.{to_z-of_z}
use Rattle.heights.proofs.Heights.{equal_same, equal_other}
use Rattle.heights.proofs.equal.Goals as goal

pub returns-then-a-b : goal.returns-then-a-b
returns-then-a-b c = grind (arith, to_z-of_z, equal_same)

pub returns-else-a-b : goal.returns-else-a-b
returns-else-a-b c = grind (arith, to_z-of_z, equal_other)
