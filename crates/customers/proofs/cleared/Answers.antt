-- `customers::cleared` meets its contract.
use Rattle.std.proofs.Common.{rules, arith, ◌≡◌, length}
use Rattle.std.proofs.lemmas.Grind.{common_steps}
use Rattle.std.proofs.lemmas.List.Edits.{map_over_more}
use Rattle.customers.proofs.cleared.Goals as goal

pub loop-mark-preserved : goal.loop-mark-preserved
loop-mark-preserved c = let long : length c.args.marks ≡ 1024 = search rules in grind (arith, common_steps, map_over_more)
