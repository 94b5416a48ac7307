-- `halves::gap::box_across` meets its contract.
use Prim.Native.Nat.{◌-◌}
use lib.ListN.{drop}
use lib.Signed.{lt_z}
use Rattle.order.proofs.Sorted.{sorted_take, sorted_drop}
use Rattle.halves.proofs.gap.box_across.Goals as goal

pub box_around-requires : goal.box_around-requires
box_around-requires c = sorted_take lt_z (c.args.to - c.args.from) (drop c.args.from c.args.x.now) (sorted_drop lt_z c.args.from c.args.x.now c.requires.0)
