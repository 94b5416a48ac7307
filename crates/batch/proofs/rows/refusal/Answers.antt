-- `batch::rows::refusal` meets its contract.
use mathlib.Core.Path.{refl, sym}
use Rattle.site.specs.Answer.{refusal_of}
use Rattle.customers.specs.Customers.{campaign_as}
use Rattle.campaign.proofs.SoundCampaign.{sound_campaign, campaign_parts}
use Rattle.batch.proofs.rows.refusal.Goals as goal

pub first_fault-requires : goal.first_fault-requires
unfolding campaign_as refusal_of
first_fault-requires c =
    let p = campaign_parts _ _ _ _ (sound_campaign _ _ _ _ _ refl (sym c.in_ok-refusal.ensures)) in
    record { rows_bound = (p.rows, p.cols); equal_columns = (c.if-job_first-job_way.false, c.if-job_second-job_way.false) }
