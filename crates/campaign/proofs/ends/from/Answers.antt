-- `campaign::ends::from` meets its contract.
use Rattle.campaign.proofs.LawfulEnds.{starts_at_first, starts_at_end}
use Rattle.campaign.proofs.ends.from.Goals as goal

pub returns-then-s-eq0 : goal.returns-then-s-eq0
returns-then-s-eq0 c = starts_at_first _ _ c.if-s-eq0.true

pub returns-else-s-eq0 : goal.returns-else-s-eq0
returns-else-s-eq0 c = starts_at_end _ _ c.if-s-eq0.false
