-- `vumlintel_edit_band` meets its contract: what the call told, crossed.
use mathlib.Core.Path.{ap}
use Rattle.bands.specs.Calls.{edit_values}
use Rattle.vumlintel.proofs.Crosses.{crossed_value, refusal_leaves}
use Rattle.vumlintel.proofs.tariffs.vumlintel_edit_band.Goals as goal

pub returns : goal.returns
returns c =
    let call = c.edit-answer.ensures in
    crossed_value _ call.0 (λ n told. ap edit_values (refusal_leaves _ told call.1)) c.cross.ensures
