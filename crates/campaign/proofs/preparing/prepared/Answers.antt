-- `campaign::preparing::prepared` meets its contract.
use Rattle.campaign.specs.Calls.{prepared}
use Rattle.campaign.proofs.preparing.prepared.Goals as goal

pub returns : goal.returns
unfolding prepared
returns c = rw (c.in_slots.ensures, c.in_slots-2.ensures)
