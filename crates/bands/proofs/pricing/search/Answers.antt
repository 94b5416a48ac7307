-- `bands::search` meets its contract: a half further where the middle end is not above the distance.
use Prim.Native.Nat.{◌+◌, ◌-◌, ◌/◌, ◌<◌}
use native.Mathlib.Omega.{arith}
use borrow.Author.Tests.{leb-true, leb-false}
use lib.Dec.{leb}
use lib.ListN.{length, get_or}
use Rattle.order.proofs.Order.{by_test}
use Rattle.bands.specs.Internal.{Covered}
use Rattle.bands.proofs.Ends.{end_below, end_above, step_taken, step_left}
use Rattle.bands.proofs.pricing.search.Goals as goal

pub loop-size-init : goal.loop-size-init
unfolding Covered
loop-size-init c = omega arith

pub loop-size-preserved : goal.loop-size-preserved
loop-size-preserved c =
    let rising = c.requires.0 in
    let half = c.loop-size.size / 2 in
    let middle = c.loop-size.low + half - 1 in
    let inside : middle < length c.args.ends.now = omega (arith, rising.long) in
    let test = leb (get_or c.args.ends.now middle 0) c.args.d in
    by_test test
    (λ y. omega (arith, step_taken half test y, end_below _ _ middle rising.sorted inside (leb-true _ _ y)))
    (λ n. omega (arith, step_left half test n, end_above _ _ middle rising.sorted inside (leb-false _ _ n)))
