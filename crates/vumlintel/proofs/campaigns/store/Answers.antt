-- `store` meets its contract: the grid stored, or the refusal's number.
use mathlib.Core.Path.{refl}
use Rattle.site.specs.Answer.{number_of, afterwards, answer_of}
use Rattle.vumlintel.proofs.campaigns.store.Goals as goal

pub returns-in-Ok : goal.returns-in-Ok
unfolding answer_of number_of afterwards
returns-in-Ok c = rw c.in-Ok.is (record { number = refl; values = c.put.ensures })

pub returns-in-Err : goal.returns-in-Err
unfolding answer_of number_of afterwards
returns-in-Err c = rw c.in-Err.is (record { number = c.number.ensures; values = refl })
