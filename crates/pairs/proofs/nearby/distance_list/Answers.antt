-- `pairs::distance_list` meets its contract.
use Rattle.std.proofs.Common.{sym}
use Rattle.site.specs.Answer.{refusal_of}
use Rattle.site.proofs.Answer.{passed_on}
use Rattle.pairs.proofs.DistanceList.{accepted, refused_is, answered_is}
use Rattle.pairs.proofs.nearby.distance_list.Goals as goal

pub returns-in_err-distance_refusal : goal.returns-in_err-distance_refusal
unfolding refusal_of
returns-in_err-distance_refusal c =
    rw (passed_on c.from_residual.ensures) (refused_is _ _ _ _ _ _ _ _ _ _ _ _ c.in_err-distance_refusal.ensures)

pub write_all-count-requires : goal.write_all-count-requires
unfolding refusal_of
write_all-count-requires c =
    let l = accepted _ _ _ _ _ _ _ _ _ _ _ (sym c.in_ok-distance_refusal.ensures) in
    record { coordinates = rw c.spots-p.ensures l.0; coordinates_2 = rw c.spots-q.ensures l.1.0; room = rw (c.spots-p.ensures, c.spots-q.ensures) l.1.1 }

pub returns : goal.returns
unfolding refusal_of
returns c = answered_is _ _ _ _ _ _ _ _ _ _ _ (sym c.in_ok-distance_refusal.ensures) (rw (c.spots-p.ensures, c.spots-q.ensures) at c.write_all-count.ensures)
