-- `cross` meets its contract: each arm returns and writes what its case of the answer tells.
use mathlib.Core.Path.{refl}
use Rattle.site.specs.Answer.{number_of, afterwards, answer_of}
use Rattle.vumlintel.proofs.crossing.cross.Goals as goal

pub returns-in-Ok : goal.returns-in-Ok
unfolding answer_of number_of afterwards
returns-in-Ok g c = rw c.in-Ok.is (record { number = refl; values = refl })

pub returns-in-Err : goal.returns-in-Err
unfolding answer_of number_of afterwards
returns-in-Err g c = rw c.in-Err.is (record { number = c.number.ensures; values = refl })
