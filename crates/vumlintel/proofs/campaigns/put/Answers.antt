-- `put` meets its contract.
use mathlib.Core.Path.{refl}
use Rattle.vumlintel.proofs.campaigns.put.Goals as goal

pub returns : goal.returns
returns c = refl
