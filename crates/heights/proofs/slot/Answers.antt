-- `heights::slot` meets its contract.
use native.Mathlib.Omega.{arith}
use Rattle.std.proofs.lemmas.Int.{to_z-of_z}
use Rattle.heights.specs.Internal.{slot_of}
use Rattle.heights.proofs.Table.{slot_le}
use Rattle.heights.proofs.slot.Goals as goal

pub returns : goal.returns
unfolding slot_of
returns c = grind (arith, to_z-of_z, slot_le)
