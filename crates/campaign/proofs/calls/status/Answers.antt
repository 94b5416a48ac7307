-- `campaign::calls::status` meets its contract.
use Rattle.std.proofs.Common.{arith, ◌≤◌}
use mathlib.Core.Path.{refl, sym}
use native.Mathlib.Nat.{mul-le-mul}
use Rattle.site.specs.Answer.{refusal_of}
use Rattle.campaign.proofs.SoundCampaign.{sound_campaign, campaign_parts}
use Rattle.campaign.proofs.calls.status.Goals as goal

pub settled_jobs-requires : goal.settled_jobs-requires
unfolding refusal_of
settled_jobs-requires c =
    let p = campaign_parts _ _ _ _ (sound_campaign _ _ _ _ _ refl (sym c.in_ok-refusal.ensures)) in
    rw c.campaign_as-c.ensures (p.rows, p.cols)

pub overflow_mul-result : goal.overflow_mul-result
unfolding refusal_of
overflow_mul-result c =
    let p = campaign_parts _ _ _ _ (sound_campaign _ _ _ _ _ refl (sym c.in_ok-refusal.ensures)) in
    let few : (c.campaign_as-c.result.first_strips ≤ 32) × (c.campaign_as-c.result.second_strips ≤ 32) =
    rw c.campaign_as-c.ensures (p.rows, p.cols) in
    omega (arith, mul-le-mul few.0 few.1)
