-- A scan to the right: each turn is one look.
use Prim.Native.Nat.{◌-◌}
use native.Mathlib.Omega.{arith}
use borrow.Author.Rules.{rules}
use Rattle.entry.proofs.Within.{within_lengths}
use Rattle.sweep.proofs.SiteRuns.{rightward_nil, rightward_cons, length_rightward}
use Rattle.sweep.proofs.ScanInvariant.{invariant_starts, invariant_asks, invariant_ends, invariant_stops, invariant_goes}
use Rattle.sweep.proofs.scan.scan_right.Goals as goal

pub loop-at-init : goal.loop-at-init
loop-at-init c =
    let n = length_rightward c.args.xs.now c.args.ys.now c.args.hs.now c.args.from (c.args.to - c.args.from) in
    (search rules, invariant_starts c.requires _ (omega arith))

pub look-l-requires : goal.look-l-requires
look-l-requires c = invariant_asks c.requires c.loop-at.invariant.1 _ (rightward_cons _ _ _ _ _ c.loop-at-test.true) c.loop-at-test.true

pub returns-after-loop-at : goal.returns-after-loop-at
returns-after-loop-at c = (invariant_ends c.requires c.loop-at.invariant.1 (rightward_nil _ _ _ _ _ c.loop-at-test.false)).tallied

pub loop-at-preserved : goal.loop-at-preserved
loop-at-preserved c =
    let p = invariant_goes c.requires c.loop-at.invariant.1 (rightward_cons _ _ _ _ _ c.loop-at-test.true) c.look-l.ensures c.if-l.false in
    (within_lengths p.updated.rest, p)

pub returns-then-l : goal.returns-then-l
returns-then-l c = (invariant_stops c.requires c.loop-at.invariant.1 (rightward_cons _ _ _ _ _ c.loop-at-test.true) c.look-l.ensures c.if-l.true).tallied
