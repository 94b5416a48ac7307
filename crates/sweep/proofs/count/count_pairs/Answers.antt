-- `sweep::count_pairs` meets its contract.
use native.Mathlib.Omega.{arith}
use Rattle.sweep.proofs.CoSited.{pairs_counted, pairs_numbered}
use Rattle.sweep.proofs.count.count_pairs.Goals as goal

pub overflow_sub-result : goal.overflow_sub-result
overflow_sub-result c = let s = c.requires in omega (arith, pairs_counted s.0 s.1, c.co_sited.ensures)

pub returns : goal.returns
returns c = let s = c.requires in pairs_numbered s.0 s.1 c.co_sited.ensures
