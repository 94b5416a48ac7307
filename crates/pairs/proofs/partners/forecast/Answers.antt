-- `pairs::forecast` meets its contract.
use Rattle.std.proofs.Common.{sym}
use Rattle.site.specs.Answer.{refusal_of}
use Rattle.site.proofs.Answer.{passed_on}
use Rattle.pairs.proofs.ForecastAnswer.{accepted, refused_is, answered_is}
use Rattle.pairs.proofs.partners.forecast.Goals as goal

pub returns-in_err-forecast_refusal : goal.returns-in_err-forecast_refusal
unfolding refusal_of
returns-in_err-forecast_refusal c =
    rw (passed_on c.from_residual.ensures) (refused_is _ _ _ _ _ c.in_err-forecast_refusal.ensures)

pub write_partners-requires : goal.write_partners-requires
unfolding refusal_of
write_partners-requires c = accepted _ _ _ (sym c.in_ok-forecast_refusal.ensures)

pub returns : goal.returns
unfolding refusal_of
returns c = answered_is _ _ _ (sym c.in_ok-forecast_refusal.ensures) c.write_partners.ensures
