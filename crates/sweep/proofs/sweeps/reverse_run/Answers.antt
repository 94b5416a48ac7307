-- Reverse Run: each turn takes one reference, by the law of its list.
use Prim.Native.Nat.{◌<◌}
use native.Mathlib.Omega.{arith}
use borrow.Author.Rules.{rules}
use Rattle.entry.proofs.Within.{within_lengths}
use Rattle.sweep.proofs.ReverseInvariant.{invariant_start, invariant_in, invariant_ask_first, invariant_ask_second, invariant_first, invariant_second, invariant_end}
use Rattle.sweep.proofs.sweeps.reverse_run.Goals as goal

pub references-init : goal.references-init
references-init c = (search rules, invariant_start c.requires c.start.ensures)

pub reference_at-r-requires : goal.reference_at-r-requires
reference_at-r-requires c =
    let s = c.requires.a in
    let inside : c.references.i < c.args.a_to = invariant_in c.requires c.references.invariant.1 c.first_next.ensures c.if-first_next.true in
    (s.lawful, s.heights, omega (arith, s.inside))

pub scan_left-tally-requires : goal.scan_left-tally-requires
scan_left-tally-requires c =
    invariant_ask_first c.requires c.references.invariant.1 c.first_next.ensures c.if-first_next.true c.reference_at-r.ensures

pub overflow_add-i : goal.overflow_add-i
overflow_add-i c =
    omega (arith, invariant_in c.requires c.references.invariant.1 c.first_next.ensures c.if-first_next.true)

pub references-smaller-then-first_next : goal.references-smaller-then-first_next
references-smaller-then-first_next c =
    omega (arith, invariant_in c.requires c.references.invariant.1 c.first_next.ensures c.if-first_next.true)

pub references-preserved-then-first_next : goal.references-preserved-then-first_next
references-preserved-then-first_next c =
    let p =
    invariant_first c.requires c.references.invariant.1 c.first_next.ensures c.if-first_next.true c.reference_at-r.ensures
    c.scan_left-tally.ensures in
    (within_lengths p.updated.rest, p)

pub scan_left-tally-requires-in-references : goal.scan_left-tally-requires-in-references
scan_left-tally-requires-in-references c =
    invariant_ask_second c.requires c.references.invariant.1 c.first_next.ensures c.if-b_to-j.false
    c.reference_at-r-in-references.ensures

pub references-preserved : goal.references-preserved
references-preserved c =
    let p =
    invariant_second c.requires c.references.invariant.1 c.first_next.ensures c.if-first_next.false c.if-b_to-j.false
    c.reference_at-r-in-references.ensures c.scan_left-tally-in-references.ensures in
    (within_lengths p.updated.rest, p)

pub returns : goal.returns
returns c =
    invariant_end c.requires c.references.invariant.1 c.first_next.ensures c.if-first_next.false c.if-b_to-j.true
