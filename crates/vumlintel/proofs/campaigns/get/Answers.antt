-- `get` meets its contract.
use mathlib.Core.Path.{refl}
use Rattle.vumlintel.proofs.campaigns.get.Goals as goal

pub returns : goal.returns
returns c = refl
