-- `pairs::distance_refusal` meets its contract.
use Rattle.std.proofs.Common.{sym, arith}
use Rattle.site.specs.Answer.{number, refusal_of}
use Rattle.site.proofs.Answer.{passed_on}
use Rattle.pairs.proofs.DistanceList.{both_lawful, lists_refused, too_short, room}
use Rattle.pairs.proofs.nearby.distance_refusal.Goals as goal

pub returns-in_err-lists_refusal : goal.returns-in_err-lists_refusal
unfolding refusal_of
returns-in_err-lists_refusal c =
    rw (passed_on c.from_residual.ensures) (lists_refused _ _ _ _ _ _ _ _ _ _ _ _ c.in_err-lists_refusal.ensures)

pub count_all-count-requires : goal.count_all-count-requires
unfolding refusal_of
count_all-count-requires c =
    let l = both_lawful _ _ _ _ _ _ _ _ (sym c.in_ok-lists_refusal.ensures) in
    record { coordinates = rw c.spots-p.ensures l.0; coordinates_2 = rw c.spots-q.ensures l.1 }

pub returns-then-min-count : goal.returns-then-min-count
unfolding refusal_of number
returns-then-min-count c =
    too_short _ _ _ _ _ _ _ _ _ _ _ (sym c.in_ok-lists_refusal.ensures) (rw (c.spots-p.ensures, c.spots-q.ensures) at c.count_all-count.ensures)
    (omega arith)

pub returns : goal.returns
unfolding refusal_of
returns c =
    room _ _ _ _ _ _ _ _ _ _ _ (sym c.in_ok-lists_refusal.ensures) (rw (c.spots-p.ensures, c.spots-q.ensures) at c.count_all-count.ensures)
    (omega arith)
