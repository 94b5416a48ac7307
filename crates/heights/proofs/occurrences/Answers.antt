-- Each height adds 1 where it is the one that is looked for.
use native.Mathlib.Omega.{arith}
use Rattle.std.proofs.lemmas.Int.{to_z-of_z}
use Rattle.heights.proofs.Heights.{occurrences_nil, occurrences_first, occurrences_more}
use Rattle.heights.proofs.occurrences.Goals as goal

pub loop-height-init : goal.loop-height-init
loop-height-init c = grind (arith, occurrences_nil)

pub overflow_add-found : goal.overflow_add-found
overflow_add-found c = grind (arith, to_z-of_z, occurrences_first, occurrences_more)

pub loop-height-preserved : goal.loop-height-preserved
loop-height-preserved c = grind (arith, to_z-of_z, occurrences_more)
