-- A pair offered, or left where the cells are co-sited.
use native.Mathlib.Omega.{arith}
use lib.ListN.{length-set}
use Rattle.halves.specs.Internal.{tally_of}
use Rattle.halves.proofs.Visiting.{tally_offered, offer_none, offer_some}
use Rattle.halves.proofs.visits.offer.Goals as goal

pub returns-then-squared-eq0 : goal.returns-then-squared-eq0
returns-then-squared-eq0 c = (c.requires.tally_len, offer_none _ _ c.requires.i_bound.1.1 c.if-squared-eq0.true)

pub returns : goal.returns
unfolding tally_of
returns c = (
  simp length-set c.requires.tally_len,
  rw (tally_offered c.args.tally.now _ _ _ (omega (arith, c.requires.tally_len)))
      (offer_some _ _ c.requires.i_bound.1.1 c.if-squared-eq0.false (rw c.held.ensures at c.offer-next.ensures)),
)
