-- `campaign::opening::refusal` meets its contract.
use mathlib.Core.Path.{sym, ◌∙◌}
use Rattle.site.specs.SiteList.{list_of}
use Rattle.campaign.specs.Calls.{lawful_cuts}
use Rattle.campaign.proofs.PrepareAnswer.{cuts_few}
use Rattle.campaign.proofs.opening.refusal.Goals as goal

pub grid_cuts-requires : goal.grid_cuts-requires
unfolding lawful_cuts
grid_cuts-requires c =
    cuts_few (list_of c.args.a) (list_of c.args.b) _ _ (sym c.lawful_cuts.ensures ∙ c.if-not-lawful_cuts.false)
