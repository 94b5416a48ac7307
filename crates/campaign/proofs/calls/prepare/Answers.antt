-- `campaign::calls::prepare` meets its contract.
use mathlib.Core.Path.{sym}
use Rattle.site.specs.Answer.{refusal_of}
use Rattle.campaign.proofs.PrepareAnswer.{prepared_few}
use Rattle.campaign.proofs.calls.prepare.Goals as goal

pub prepared-requires : goal.prepared-requires
unfolding refusal_of
prepared-requires c = prepared_few _ _ _ _ (sym c.in_ok-refusal.ensures)
