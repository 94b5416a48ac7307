-- `campaign::soundness::in_order` meets its contract.
use mathlib.Core.Path.{ap₂, ◌∙◌}
use Rattle.std.proofs.Common.{arith}
use Rattle.entry.specs.Entry.{entry, rank_before}
use Rattle.entry.specs.Results.{results, entries_of}
use Rattle.campaign.proofs.SoundEntry.{stands_at, entries_many}
use Rattle.campaign.proofs.AllAscending.{order_more, order_falls, order_end}
use Rattle.campaign.proofs.soundness.in_order.Goals as goal

pub returns-then-not-before : goal.returns-then-not-before
returns-then-not-before c =
    let l = entries_of c.args.count (results c.args.distance.now c.args.first.now c.args.second.now) in
    let i = c.loop-i.i in
    order_falls rank_before l i (omega arith) c.loop-i.invariant (entry 0 0 0)
    (omega (arith, entries_many _ _ c.requires))
    (c.before-in-loop-i.ensures
    ∙ ap₂ rank_before (stands_at _ _ c.requires _ (omega arith) c.entry_at.ensures)
    (stands_at _ _ c.requires _ c.loop-i-test.true c.entry_at-in-loop-i.ensures))
    c.if-not-before.true

pub loop-i-preserved : goal.loop-i-preserved
loop-i-preserved c =
    let l = entries_of c.args.count (results c.args.distance.now c.args.first.now c.args.second.now) in
    let i = c.loop-i.i in
    order_more rank_before l i (omega arith) c.loop-i.invariant (entry 0 0 0)
    (omega (arith, entries_many _ _ c.requires))
    (c.before-in-loop-i.ensures
    ∙ ap₂ rank_before (stands_at _ _ c.requires _ (omega arith) c.entry_at.ensures)
    (stands_at _ _ c.requires _ c.loop-i-test.true c.entry_at-in-loop-i.ensures))
    c.if-not-before.false

pub returns : goal.returns
returns c =
    order_end rank_before _ c.loop-i.i (omega arith) c.loop-i.invariant (omega (arith, entries_many _ _ c.requires))
