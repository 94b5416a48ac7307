-- `vumlintel_forecast` meets its contract: what the call told, crossed.
use mathlib.Core.Path.{ap}
use Rattle.pairs.specs.Forecast.{forecast_values}
use Rattle.vumlintel.proofs.Crosses.{crossed_value, refusal_leaves}
use Rattle.vumlintel.proofs.pair_lists.vumlintel_forecast.Goals as goal

pub returns : goal.returns
returns c =
    let call = rw (c.list-a.ensures, c.list-b.ensures) at c.forecast-answer.ensures in
    crossed_value _ call.0 (λ n told. ap forecast_values (refusal_leaves _ told call.1)) c.cross.ensures
