-- `campaign::soundness::refusal` meets its contract.
use mathlib.Core.Path.{refl, sym}
use Rattle.site.specs.Answer.{refusal_of}
use Rattle.site.proofs.Answer.{next_decides}
use Rattle.campaign.specs.Soundness.{campaign_refusal}
use Rattle.campaign.proofs.Sound.{caller_columns, caller_numbered}
use Rattle.campaign.proofs.soundness.refusal.Goals as goal

pub keeper_refusal-requires : goal.keeper_refusal-requires
unfolding refusal_of
keeper_refusal-requires c = rw (c.spots-p.ensures, c.spots-q.ensures) (caller_columns _ _ _ _ _ _ _ _ _ (sym c.in_ok-caller_refusal.ensures))

pub returns : goal.returns
unfolding campaign_refusal refusal_of
returns c =
    let is = c.in_ok-caller_refusal.ensures in
    next_decides is refl (caller_numbered _ _ _ _ _ _ _ _ _ (sym is) (rw (c.spots-p.ensures, c.spots-q.ensures) at c.keeper_refusal.ensures))
