-- The classic sweep: each turn moves one finger on, by the law of its list.
use mathlib.Core.Logic.{inl, inr}
use borrow.Author.Rules.{rules}
use Rattle.entry.proofs.Within.{within_lengths}
use Rattle.sweep.proofs.ClassicInvariant.{invariant_start, invariant_ask_first, invariant_ask_second, invariant_first, invariant_second, invariant_end}
use Rattle.sweep.proofs.sweeps.classic.Goals as goal

pub loop-i-init : goal.loop-i-init
loop-i-init c = (search rules, invariant_start c.requires c.start.ensures)

pub scan_right-tally-requires : goal.scan_right-tally-requires
scan_right-tally-requires c =
    invariant_ask_first c.requires c.loop-i.invariant.1 c.loop-i-test.true c.if-j-b_to.true c.reference_at-r.ensures

pub loop-i-preserved-then-first_next : goal.loop-i-preserved-then-first_next
loop-i-preserved-then-first_next c =
    let p =
    invariant_first c.requires c.loop-i.invariant.1 c.loop-i-test.true c.if-j-b_to.true c.first_next.ensures c.if-first_next.true
    c.reference_at-r.ensures c.scan_right-tally.ensures in
    (within_lengths p.updated.rest, p)

pub scan_right-tally-requires-else-first_next : goal.scan_right-tally-requires-else-first_next
scan_right-tally-requires-else-first_next c =
    invariant_ask_second c.requires c.loop-i.invariant.1 c.loop-i-test.true c.if-j-b_to.true c.reference_at-r-else-first_next.ensures

pub loop-i-preserved : goal.loop-i-preserved
loop-i-preserved c =
    let p =
    invariant_second c.requires c.loop-i.invariant.1 c.loop-i-test.true c.if-j-b_to.true c.first_next.ensures c.if-first_next.false
    c.reference_at-r-else-first_next.ensures c.scan_right-tally-else-first_next.ensures in
    (within_lengths p.updated.rest, p)

pub returns-else-j-b_to : goal.returns-else-j-b_to
returns-else-j-b_to c = invariant_end c.requires c.loop-i.invariant.1 (inr c.if-j-b_to.false)

pub returns-after-loop-i : goal.returns-after-loop-i
returns-after-loop-i c = invariant_end c.requires c.loop-i.invariant.1 (inl c.loop-i-test.false)
