-- `job` meets its contract: what the call told, stored, or the refusal's number.
use mathlib.Core.Path.{refl}
use Rattle.site.specs.Answer.{answer_of}
use Rattle.campaign.specs.Calls.{job_done_values}
use Rattle.vumlintel.proofs.Crosses.{crossed_values, crossed_refusal, refusal_leaves}
use Rattle.vumlintel.proofs.campaigns.job.Goals as goal

pub returns-in-Ok : goal.returns-in-Ok
unfolding answer_of job_done_values
returns-in-Ok c =
    let call = rw (c.get-g.ensures, c.list-a.ensures, c.list-b.ensures) at c.job-answer.ensures in
    crossed_values (rw c.in-Ok.is at call.0)
    (rw (c.put.ensures, c.put_outcome.ensures.0, c.put_outcome.ensures.1) refl)

pub returns-in-Err : goal.returns-in-Err
unfolding answer_of
returns-in-Err c =
    let call = rw (c.get-g.ensures, c.list-a.ensures, c.list-b.ensures) at c.job-answer.ensures in
    let told = rw c.in-Err.is at call.0 in
    rw c.number.ensures (crossed_refusal told (rw (refusal_leaves _ told call.1)))
