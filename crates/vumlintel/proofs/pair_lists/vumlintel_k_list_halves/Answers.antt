-- `vumlintel_k_list_halves` meets its contract: the looks and the distances that it does not count stay 0.
use Rattle.vumlintel.proofs.Counters.{list_by_halves}
use Rattle.vumlintel.proofs.pair_lists.vumlintel_k_list_halves.Goals as goal

pub returns : goal.returns
returns c = list_by_halves _ _ _ _ c.k_list.ensures
