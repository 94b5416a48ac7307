-- `vumlintel_read_file` meets its contract: each arm returns and writes what its case of the answer tells.
use mathlib.Core.Path.{refl}
use Rattle.site.specs.Answer.{answer_of}
use Rattle.vumlintel.proofs.Crosses.{crossed_values, crossed_refusal}
use Rattle.vumlintel.proofs.files.vumlintel_read_file.Goals as goal

pub returns-in-Ok : goal.returns-in-Ok
unfolding answer_of
returns-in-Ok c = crossed_values (rw c.in-Ok.is at c.read.ensures) refl

pub returns-in-Err : goal.returns-in-Err
unfolding answer_of
returns-in-Err c = rw c.number.ensures (crossed_refusal (rw c.in-Err.is at c.read.ensures) refl)
