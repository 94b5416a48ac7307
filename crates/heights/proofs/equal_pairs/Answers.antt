-- `heights::equal_pairs` meets its contract.
use native.Mathlib.Omega.{arith}
use native.Mathlib.Nat.{mul-le-mul}
use Rattle.std.proofs.lemmas.Int.{to_z-of_z}
use Rattle.heights.proofs.Heights.{occurrences_le, one_height}
use Rattle.heights.proofs.equal_pairs.Goals as goal

pub overflow_mul-result : goal.overflow_mul-result
overflow_mul-result c = grind (arith, to_z-of_z, occurrences_le, mul-le-mul)

pub returns-then-alike-a : goal.returns-then-alike-a
returns-then-alike-a c = grind (arith, to_z-of_z, one_height)
