-- The next of the first list, where it leads or stands alone.
use native.Mathlib.Omega.{arith}
use Rattle.std.proofs.lemmas.Int.{to_z-of_z}
use Rattle.sweep.specs.Internal.{first_next}
use Rattle.sweep.proofs.sweeps.first_next.Goals as goal

pub returns-then-b_to-j : goal.returns-then-b_to-j
unfolding first_next
returns-then-b_to-j c = grind arith

pub returns-else-b_to-j : goal.returns-else-b_to-j
unfolding first_next
returns-else-b_to-j c = grind (arith, to_z-of_z)

pub returns-else-i-a_to : goal.returns-else-i-a_to
unfolding first_next
returns-else-i-a_to c = grind arith
