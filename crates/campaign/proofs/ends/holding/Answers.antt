-- `campaign::ends::holding` meets its contract. The loop's invariant: the ends counted and those still to count are all.
use borrow.Author.Rules.{rules}
use native.Mathlib.Omega.{arith}
use Rattle.campaign.proofs.EndsInvariant.{held_none, held_one, held_other, held_all}
use Rattle.campaign.proofs.ends.holding.Goals as goal
use Rattle.campaign.proofs.ends.holding.Goals.{then-end-place, else-end-place}

pub loop-end-init : goal.loop-end-init
loop-end-init c = (search rules, held_none _ _)

pub loop-end-preserved : goal.loop-end-preserved
loop-end-preserved c =
    let l = c.loop-end in
    let s = c.args.ends.now in
    let inside = c.loop-end-test.true in
    elim c.if-end-place.branch [
      | then-end-place w ↦ (omega (arith, w.before-is), rw w.before-is (held_one s _ l.before l.end-index inside l.invariant.1 w.if-end-place.true))
      | else-end-place w ↦ (omega (arith, w.before-is), rw w.before-is (held_other s _ l.before l.end-index inside l.invariant.1 w.if-end-place.false))
    ]

pub returns : goal.returns
returns c = held_all _ _ _ _ c.loop-end-test.false c.loop-end.invariant.1
