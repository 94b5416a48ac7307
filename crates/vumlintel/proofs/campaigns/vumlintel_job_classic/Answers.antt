-- `vumlintel_job_classic` meets its contract: the range pairs that it does not count stay 0.
use Rattle.sweep.specs.declared.Way.TheVariants.{Classic}
use Rattle.vumlintel.proofs.Counters.{job_by_sweep}
use Rattle.vumlintel.proofs.campaigns.vumlintel_job_classic.Goals as goal

pub returns : goal.returns
returns c = job_by_sweep _ _ _ _ _ _ Classic c.job.ensures
