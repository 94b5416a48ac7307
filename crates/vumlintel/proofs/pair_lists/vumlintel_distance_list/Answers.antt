-- `vumlintel_distance_list` meets its contract: what the call told, crossed.
use mathlib.Core.Path.{ap₂}
use Rattle.pairs.specs.DistanceList.{distance_values}
use Rattle.vumlintel.proofs.Crosses.{crossed_value, refusal_leaves}
use Rattle.vumlintel.proofs.pair_lists.vumlintel_distance_list.Goals as goal

pub returns : goal.returns
returns c =
    let call = rw (c.list-a.ensures, c.list-b.ensures) at c.distance_list-answer.ensures in
    crossed_value _ call.0 (λ n told. ap₂ distance_values (refusal_leaves _ told call.1.0) (refusal_leaves _ told call.1.1))
    c.cross.ensures
