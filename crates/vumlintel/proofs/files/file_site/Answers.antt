-- `file_site` meets its contract: each arm returns and writes what its case of the answer tells.
use borrow.Author.Rules.{rules, sfits_of}
use mathlib.Core.Path.{refl}
use Rattle.site.specs.Answer.{answer_of}
use Rattle.vumlintel.proofs.Crosses.{crossed_values, crossed_refusal, site_of_lem}
use Rattle.vumlintel.proofs.files.file_site.Goals as goal

pub returns-in-Ok : goal.returns-in-Ok
unfolding answer_of
returns-in-Ok c =
    crossed_values (rw c.in-Ok.is at c.consult.ensures) (site_of_lem _ (sfits_of (search rules)) (sfits_of (search rules)))

pub returns-in-Err : goal.returns-in-Err
unfolding answer_of
returns-in-Err c = rw c.number.ensures (crossed_refusal (rw c.in-Err.is at c.consult.ensures) refl)
