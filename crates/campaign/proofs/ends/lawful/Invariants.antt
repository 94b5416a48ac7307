-- `campaign::ends::lawful` meets its contract. The loop's invariant: the rest of the ends, after the last one passed, tells what all tell.
use Rattle.campaign.proofs.EndsInvariant.{Tested}
use Rattle.campaign.proofs.ends.lawful.Given as goal

abbrev pub invariant-loop-end : goal.invariant-loop-end
invariant-loop-end l = Tested l.ends l.last l.end-index
