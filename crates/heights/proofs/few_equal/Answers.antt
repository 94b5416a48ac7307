-- Each height adds its pairs.
use native.Mathlib.Omega.{arith}
use Rattle.std.proofs.lemmas.Int.{to_z-of_z}
use Rattle.heights.proofs.Heights.{equal_pairs_nil, equal_pairs_first, equal_pairs_more}
use Rattle.heights.proofs.few_equal.Goals as goal

pub loop-height-init : goal.loop-height-init
loop-height-init c = grind (arith, equal_pairs_nil)

pub overflow_add-found : goal.overflow_add-found
overflow_add-found c = grind (arith, to_z-of_z, equal_pairs_first, equal_pairs_more)

pub loop-height-preserved : goal.loop-height-preserved
loop-height-preserved c = grind (arith, to_z-of_z, equal_pairs_more)
