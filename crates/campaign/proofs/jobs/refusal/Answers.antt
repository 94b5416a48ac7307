-- `campaign::jobs::refusal` meets its contract.
use mathlib.Core.Path.{refl, sym}
use Rattle.site.specs.Answer.{refusal_of}
use Rattle.customers.specs.Customers.{campaign_as}
use Rattle.campaign.proofs.SoundCampaign.{sound_campaign, campaign_parts}
use Rattle.campaign.proofs.jobs.refusal.Goals as goal

pub fault-requires : goal.fault-requires
unfolding campaign_as refusal_of
fault-requires c =
    let p = campaign_parts _ _ _ _ (sound_campaign _ _ _ _ _ refl (sym c.in_ok-refusal.ensures)) in
    (p.rows, p.cols)
