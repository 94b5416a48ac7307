-- `entry::lawful_k` meets its contract.
use Rattle.entry.specs.Entry.{lawful_k}
use Rattle.entry.proofs.lawful_k.Goals as goal

pub returns : goal.returns
unfolding lawful_k
returns c = c.k_up_to.ensures
