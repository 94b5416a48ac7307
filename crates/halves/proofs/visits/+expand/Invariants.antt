-- The sum of the two lengths falls.
use Rattle.std.proofs.Common.{◌+◌, ◌-◌}
use Rattle.halves.proofs.visits.+expand.Given as goal

abbrev pub decreases-expand : goal.decreases-expand
decreases-expand l = (l.p.to - l.p.from) + (l.q.to - l.q.from)
