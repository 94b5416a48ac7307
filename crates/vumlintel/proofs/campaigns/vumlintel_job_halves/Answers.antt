-- `vumlintel_job_halves` meets its contract: the looks and the distances that it does not count stay 0.
use Rattle.vumlintel.proofs.Counters.{job_by_halves}
use Rattle.vumlintel.proofs.campaigns.vumlintel_job_halves.Goals as goal

pub returns : goal.returns
returns c = job_by_halves _ _ _ _ _ _ c.job.ensures
