-- `put_outcome` meets its contract: each arm writes what its case of the outcome tells.
use mathlib.Core.Path.{refl}
use Rattle.campaign.specs.Calls.{swept_by, counts_by}
use Rattle.vumlintel.proofs.campaigns.put_outcome.Goals as goal

pub returns-in-Swept : goal.returns-in-Swept
unfolding swept_by counts_by
returns-in-Swept c = rw c.in-Swept.is (refl, c.put_counters.ensures)

pub returns-in-Skipped : goal.returns-in-Skipped
unfolding swept_by counts_by
returns-in-Skipped c = rw c.in-Skipped.is (refl, refl)
