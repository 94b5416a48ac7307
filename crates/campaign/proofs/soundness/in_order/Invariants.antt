-- `campaign::soundness::in_order` meets its contract. The loop's invariant: the entries from the place before `i` on stand in
-- order where all do.
use Rattle.std.proofs.Common.{◌≡◌, ◌-◌, drop}
use Rattle.order.specs.Order.{ascending}
use Rattle.entry.specs.Entry.{rank_before}
use Rattle.entry.specs.Results.{results, entries_of}
use Rattle.campaign.proofs.soundness.in_order.Given as goal

abbrev pub invariant-loop-i : goal.invariant-loop-i
invariant-loop-i l =
    let entries = entries_of l.count (results l.distance l.first l.second) in
    ascending rank_before (drop (l.i - 1) entries) ≡ ascending rank_before entries
