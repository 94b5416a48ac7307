-- `k_list` meets its contract: each arm returns and writes what its case of the answer tells.
use Rattle.site.specs.Answer.{answer_of}
use mathlib.Core.Path.{refl}
use Rattle.vumlintel.proofs.Crosses.{crossed_values, crossed_refusal, refusal_leaves}
use Rattle.vumlintel.proofs.pair_lists.k_list.Goals as goal

pub returns-in-Ok : goal.returns-in-Ok
unfolding answer_of
returns-in-Ok c =
    let call = rw (c.list-a.ensures, c.list-b.ensures) at c.k_list.ensures in
    crossed_values (rw c.in-Ok.is at call.0) (rw c.put_counters.ensures refl)

pub returns-in-Err : goal.returns-in-Err
unfolding answer_of
returns-in-Err c =
    let call = rw (c.list-a.ensures, c.list-b.ensures) at c.k_list.ensures in
    let told = rw c.in-Err.is at call.0 in
    rw c.number.ensures (crossed_refusal told (rw (refusal_leaves _ told call.1)))
