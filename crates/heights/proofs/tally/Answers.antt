-- Each height is counted at its slot.
use mathlib.Core.Path.{◌≡◌}
use mathlib.Core.Bool.{true}
use native.Mathlib.Omega.{arith}
use lib.IntN.{pos}
use lib.ListN.{get_or}
use Rattle.std.proofs.lemmas.Int.{to_z-of_z}
use Rattle.site.specs.Site.{height_within}
use Rattle.heights.specs.Internal.{slot_of}
use Rattle.heights.proofs.Heights.{occurrences_first}
use Rattle.heights.proofs.Table.{height_at, tallied_nil, tallied_at, tallied_more}
use Rattle.heights.proofs.tally.Goals as goal

pub loop-height-init : goal.loop-height-init
loop-height-init c = tallied_nil

pub slot-requires : goal.slot-requires
slot-requires c = grind (arith, to_z-of_z, height_at)

pub overflow_add-counts : goal.overflow_add-counts
overflow_add-counts c =
    let h = get_or c.args.column.now c.loop-height.height-index (pos 0) in
    let inside : height_within h ≡ true = height_at _ _ _ c.loop-height-test.true c.requires.1 in
    let at : c.slot.result ≡ slot_of h = grind (arith, to_z-of_z) in
    omega (arith, tallied_at h c.loop-height.invariant inside at, occurrences_first h c.args.column.now c.loop-height.height-index)

pub loop-height-preserved : goal.loop-height-preserved
loop-height-preserved c =
    let h = get_or c.args.column.now c.loop-height.height-index (pos 0) in
    let inside : height_within h ≡ true = height_at _ _ _ c.loop-height-test.true c.requires.1 in
    let at : c.slot.result ≡ slot_of h = grind (arith, to_z-of_z) in
    tallied_more _ _ _ _ (pos 0) c.loop-height-test.true inside at c.loop-height.invariant
