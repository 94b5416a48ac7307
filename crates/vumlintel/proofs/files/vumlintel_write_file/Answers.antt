-- `vumlintel_write_file` meets its contract: what the call told, crossed.
use mathlib.Core.Path.{ap}
use Rattle.site_file.specs.Calls.{write_values}
use Rattle.vumlintel.proofs.Crosses.{crossed_value, refusal_leaves}
use Rattle.vumlintel.proofs.files.vumlintel_write_file.Goals as goal

pub returns : goal.returns
returns c =
    let call = c.write-answer.ensures in
    crossed_value _ call.0 (λ n told. ap write_values (refusal_leaves _ told call.1)) c.cross.ensures
