-- `vumlintel_status` meets its contract: each arm returns and writes what its case of the answer tells.
use mathlib.Core.Path.{refl}
use Rattle.site.specs.Answer.{answer_of}
use Rattle.vumlintel.proofs.Crosses.{crossed_values, crossed_refusal}
use Rattle.vumlintel.proofs.campaigns.vumlintel_status.Goals as goal

pub returns-in-Ok : goal.returns-in-Ok
unfolding answer_of
returns-in-Ok c =
    let call = rw (c.get-g.ensures, c.list-a.ensures, c.list-b.ensures) at c.status.ensures in
    crossed_values (rw c.in-Ok.is at call) refl

pub returns-in-Err : goal.returns-in-Err
unfolding answer_of
returns-in-Err c =
    let call = rw (c.get-g.ensures, c.list-a.ensures, c.list-b.ensures) at c.status.ensures in
    rw c.number.ensures (crossed_refusal (rw c.in-Err.is at call) refl)
