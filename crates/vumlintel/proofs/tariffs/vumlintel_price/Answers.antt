-- `vumlintel_price` meets its contract: what the call told, crossed.
use mathlib.Core.Path.{ap}
use Rattle.bands.specs.Calls.{price_values}
use Rattle.vumlintel.proofs.Crosses.{crossed_value, refusal_leaves}
use Rattle.vumlintel.proofs.tariffs.vumlintel_price.Goals as goal

pub returns : goal.returns
returns c =
    let call = c.price-answer.ensures in
    crossed_value _ call.0 (λ n told. ap price_values (refusal_leaves _ told call.1)) c.cross.ensures
