-- A scan to the left: each turn is one look.
use Prim.Native.Nat.{◌-◌, ◌<◌}
use native.Mathlib.Omega.{arith}
use borrow.Author.Rules.{rules}
use Rattle.entry.proofs.Within.{within_lengths}
use Rattle.sweep.proofs.SiteRuns.{leftward_nil, leftward_cons, length_leftward, left_limit}
use Rattle.sweep.proofs.ScanInvariant.{tallied_at, invariant_starts, invariant_asks, invariant_ends, invariant_stops, invariant_goes}
use Rattle.sweep.proofs.scan.scan_left.Goals as goal

pub loop-at-init : goal.loop-at-init
loop-at-init c =
    let n = length_leftward c.args.xs.now c.args.ys.now c.args.hs.now c.args.limit (c.args.taken - c.args.limit) in
    (search rules, (c.requires.range, search rules), invariant_starts c.requires _ (omega arith))

pub look-l-requires : goal.look-l-requires
look-l-requires c =
    let left : c.args.limit < c.loop-at.at = omega (arith, c.loop-at.invariant.1, c.if-at-limit.false) in
    invariant_asks c.requires c.loop-at.invariant.2 _ (leftward_cons _ _ _ _ _ left) (omega (arith, left, c.loop-at.invariant.1))

pub loop-at-preserved : goal.loop-at-preserved
loop-at-preserved c =
    let left : c.args.limit < c.loop-at.at = omega (arith, c.loop-at.invariant.1, c.if-at-limit.false) in
    let p = invariant_goes c.requires c.loop-at.invariant.2 (leftward_cons _ _ _ _ _ left) c.look-l.ensures c.if-l.false in
    (within_lengths p.updated.rest, omega (arith, left, c.loop-at.invariant.1), p)

pub returns-then-at-limit : goal.returns-then-at-limit
returns-then-at-limit c =
    let i = c.loop-at.invariant in
    let e = invariant_ends c.requires i.2 (leftward_nil _ _ _ _ _ (omega (arith, c.if-at-limit.true))) in
    (tallied_at e.tallied, left_limit _ _ _ _ _ _ _ i.1.0 i.1.1 e.passed)

pub returns-then-l : goal.returns-then-l
returns-then-l c =
    let i = c.loop-at.invariant in
    let left : c.args.limit < c.loop-at.at = omega (arith, i.1, c.if-at-limit.false) in
    let e = invariant_stops c.requires i.2 (leftward_cons _ _ _ _ _ left) c.look-l.ensures c.if-l.true in
    (tallied_at e.tallied, left_limit _ _ _ _ _ _ _ i.1.0 i.1.1 e.passed)
