-- A reference read from its columns.
use native.Mathlib.Omega.{arith}
use Rattle.std.proofs.lemmas.Int.{to_z-of_z}
use Rattle.sweep.specs.Internal.{reference_at}
use Rattle.sweep.proofs.sweeps.reference_at.Goals as goal

pub returns : goal.returns
unfolding reference_at
returns c = grind (arith, to_z-of_z)
