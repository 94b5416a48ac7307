-- A pair takes its place, by either side.
use Rattle.sweep.proofs.look.offered.Goals as goal

pub returns-then-reference : goal.returns-then-reference
returns-then-reference c = rw c.if-reference.true (rw c.pair-e.ensures at c.offer.ensures)

pub returns : goal.returns
returns c = rw c.if-reference.false (rw c.pair-e-2.ensures at c.offer-2.ensures)
