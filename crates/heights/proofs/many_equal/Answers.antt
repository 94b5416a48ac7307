-- Each height of the second column adds what stands at its slot.
use mathlib.Core.Path.{◌≡◌}
use mathlib.Core.Bool.{true}
use native.Mathlib.Omega.{arith}
use lib.IntN.{pos}
use lib.ListN.{get_or}
use lib.Seq.{take_all}
use Rattle.std.proofs.lemmas.Int.{to_z-of_z}
use Rattle.site.specs.Site.{height_within}
use Rattle.heights.specs.Internal.{slot_of}
use Rattle.heights.proofs.Heights.{equal_pairs_nil, equal_pairs_first, equal_pairs_more, equal_pairs_sym}
use Rattle.heights.proofs.Table.{height_at, tallied_at}
use Rattle.heights.proofs.many_equal.Goals as goal

pub loop-height-init : goal.loop-height-init
loop-height-init c = grind (arith, equal_pairs_nil)

pub slot-requires : goal.slot-requires
slot-requires c = grind (arith, to_z-of_z, height_at)

pub overflow_add-found : goal.overflow_add-found
overflow_add-found c =
    let h = get_or c.args.b.now c.loop-height.height-index (pos 0) in
    let inside : height_within h ≡ true = height_at _ _ _ c.loop-height-test.true c.requires.3 in
    let at : c.slot.result ≡ slot_of h = grind (arith, to_z-of_z) in
    let found = tallied_at h c.tally-counts.ensures inside at in
    grind (arith, equal_pairs_first, equal_pairs_more)

pub loop-height-preserved : goal.loop-height-preserved
loop-height-preserved c =
    let h = get_or c.args.b.now c.loop-height.height-index (pos 0) in
    let inside : height_within h ≡ true = height_at _ _ _ c.loop-height-test.true c.requires.3 in
    let at : c.slot.result ≡ slot_of h = grind (arith, to_z-of_z) in
    let found = tallied_at h c.tally-counts.ensures inside at in
    grind (arith, equal_pairs_more)

pub returns : goal.returns
returns c = grind (arith, equal_pairs_sym, take_all)
