-- The visit of two whole strips, or none.
use mathlib.Core.Path.{refl}
use mathlib.Core.Logic.{inl, inr, ⊎_elim}
use native.Mathlib.Omega.{arith}
use Rattle.halves.proofs.SquaredStripGap.{range_within}
use Rattle.halves.proofs.Visiting.{visit_drops, visit_keeps, visit_expands}
use Rattle.halves.proofs.Joining.{some_strip, join_none, join_asks, join_done}
use Rattle.halves.proofs.visits.join.Goals as goal

pub returns-then-a_from-a_to : goal.returns-then-a_from-a_to
returns-then-a_from-a_to c =
    join_none c.requires c.start-queue.ensures (⊎_elim inl (λ w. inr w.1) c.then-a_from-a_to.either)

pub squared_gap-between-requires : goal.squared_gap-between-requires
squared_gap-between-requires c = (
  range_within (some_strip c.requires.a c.if-a_from-a_to.false) c.box_of-own.ensures,
  range_within (some_strip c.requires.b c.if-b_from-b_to.false) c.box_of-other.ensures,
)

pub returns-then-queue-between : goal.returns-then-queue-between
returns-then-queue-between c =
    let pre = c.requires in
    let asked = join_asks pre c.start-queue.ensures refl c.if-a_from-a_to.false c.if-b_from-b_to.false c.box_of-own.ensures c.box_of-other.ensures c.squared_gap-between.ensures in
    join_done pre c.start-queue.ensures refl (visit_drops asked (omega (arith, c.squared_gap-between.type_inv)) c.if-queue-between.true) refl

pub expand-requires : goal.expand-requires
expand-requires c =
    let pre = c.requires in
    let asked = join_asks pre c.start-queue.ensures refl c.if-a_from-a_to.false c.if-b_from-b_to.false c.box_of-own.ensures c.box_of-other.ensures c.squared_gap-between.ensures in
    record {
      tally_len = c.numbers-tally.ensures.0;
      expand_asked = rw c.numbers-tally.ensures.1 (visit_keeps asked (omega (arith, c.squared_gap-between.type_inv)) c.if-queue-between.false);
    }

pub returns : goal.returns
returns c =
    let pre = c.requires in
    let asked = join_asks pre c.start-queue.ensures refl c.if-a_from-a_to.false c.if-b_from-b_to.false c.box_of-own.ensures c.box_of-other.ensures c.squared_gap-between.ensures in
    let done = visit_expands asked (omega (arith, c.squared_gap-between.type_inv)) c.if-queue-between.false c.numbers-tally.ensures.1 c.expand.ensures.1 in
    join_done pre c.start-queue.ensures refl done c.held.ensures
