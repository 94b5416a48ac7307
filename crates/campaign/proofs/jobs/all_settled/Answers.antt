-- As many jobs are settled as there are.
use Rattle.campaign.proofs.SettledRows.{all_counted}
use Rattle.campaign.proofs.jobs.all_settled.Goals as goal

pub returns : goal.returns
returns c = all_counted c.args.c c.settled_jobs.ensures
