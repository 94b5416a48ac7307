-- Both halves of a range, by their places.
use Rattle.halves.proofs.Halving.{upper_sooner, lower_sooner}
use Rattle.halves.proofs.visits.halve.Goals as goal

pub returns-then-upper-lower : goal.returns-then-upper-lower
returns-then-upper-lower c = upper_sooner c.requires.0 c.half-lower.ensures c.half-upper.ensures c.if-upper-lower.true

pub returns-else-upper-lower : goal.returns-else-upper-lower
returns-else-upper-lower c = lower_sooner c.requires.0 c.half-lower.ensures c.half-upper.ensures c.if-upper-lower.false
