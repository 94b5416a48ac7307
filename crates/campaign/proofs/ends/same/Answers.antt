-- `campaign::ends::same` meets its contract.
use Rattle.campaign.proofs.EndsInvariant.{slots_same}
use Rattle.campaign.proofs.ends.same.Goals as goal

pub returns-then-used-ends : goal.returns-then-used-ends
returns-then-used-ends c = slots_same _ _ _ c.if-used-ends.true c.eq.ensures
