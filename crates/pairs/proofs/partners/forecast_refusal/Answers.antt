-- `pairs::forecast_refusal` meets its contract.
use Rattle.std.proofs.Common.{sym}
use Rattle.site.specs.Answer.{number, refusal_of}
use Rattle.site.proofs.Answer.{passed_on}
use Rattle.pairs.proofs.ForecastAnswer.{lists_refused, too_short, room}
use Rattle.pairs.proofs.partners.forecast_refusal.Goals as goal

pub returns-in_err-lists_refusal : goal.returns-in_err-lists_refusal
unfolding refusal_of
returns-in_err-lists_refusal c = rw (passed_on c.from_residual.ensures) (lists_refused _ _ _ _ c.in_err-lists_refusal.ensures)

pub returns-then-partners-a : goal.returns-then-partners-a
unfolding refusal_of number
returns-then-partners-a c = too_short _ _ _ (sym c.in_ok-lists_refusal.ensures) c.if-partners-a.true

pub returns : goal.returns
unfolding refusal_of
returns c = room _ _ _ (sym c.in_ok-lists_refusal.ensures) c.if-partners-a.false
