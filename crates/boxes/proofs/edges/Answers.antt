-- `boxes::edges` meets its contract.
use native.Mathlib.Omega.{arith}
use Rattle.std.proofs.lemmas.Int.{to_z-of_z}
use Rattle.boxes.proofs.Widened.{widened_start, widened_step, widened_end, no_edges}
use Rattle.boxes.proofs.edges.Goals as goal

pub returns-in_default : goal.returns-in_default
returns-in_default c = no_edges _ (omega arith)

pub loop-c-init : goal.loop-c-init
loop-c-init c = grind (arith, to_z-of_z, widened_start)

pub loop-c-preserved : goal.loop-c-preserved
loop-c-preserved c = grind (arith, to_z-of_z, widened_step)

pub returns : goal.returns
returns c = grind (arith, widened_end)
