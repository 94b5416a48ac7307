-- `boxes::range_gap` meets its contract.
use native.Mathlib.Omega.{arith}
use Rattle.std.proofs.lemmas.Int.{to_z-of_z}
use Rattle.boxes.proofs.RangeGap.{range_above, range_below}
use Rattle.boxes.proofs.range_gap.Goals as goal

pub returns-then-above-eq0 : goal.returns-then-above-eq0
returns-then-above-eq0 c = grind (arith, to_z-of_z, range_below)

pub returns-else-above-eq0 : goal.returns-else-above-eq0
returns-else-above-eq0 c = grind (arith, to_z-of_z, range_above)
