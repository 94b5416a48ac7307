-- `vumlintel_k_list_classic` meets its contract: the range pairs that it does not count stay 0.
use Rattle.sweep.specs.declared.Way.TheVariants.{Classic}
use Rattle.vumlintel.proofs.Counters.{list_by_sweep}
use Rattle.vumlintel.proofs.pair_lists.vumlintel_k_list_classic.Goals as goal

pub returns : goal.returns
returns c = list_by_sweep _ _ _ _ Classic c.k_list.ensures
