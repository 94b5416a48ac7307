-- `campaign::ends::in_slots` meets its contract.
use mathlib.Core.Path.{ap₂}
use mathlib.Core.List.{◌++◌}
use lib.ListN.{length}
use Rattle.std.proofs.lemmas.List.{drop-replicate}
use Rattle.campaign.specs.Calls.{slots}
use Rattle.campaign.proofs.ends.in_slots.Goals as goal

pub returns : goal.returns
unfolding slots
returns c = ap₂ ◌++◌ c.copy_from_slice.ensures.after (drop-replicate (length c.args.ends.now) 32 0)
