-- `pairs::k_list` meets its contract.
use Rattle.std.proofs.Common.{sym}
use Rattle.site.specs.Answer.{refusal_of}
use Rattle.site.proofs.Answer.{passed_on}
use Rattle.pairs.proofs.KList.{k_refused, join_asks, joined_is}
use Rattle.pairs.proofs.closest.k_list.Goals as goal

pub returns-in_err-k_list_refusal : goal.returns-in_err-k_list_refusal
unfolding refusal_of
returns-in_err-k_list_refusal c = rw (passed_on c.from_residual.ensures) (k_refused _ _ _ _ _ _ c.in_err-k_list_refusal.ensures)

pub run-joined-requires : goal.run-joined-requires
unfolding refusal_of
run-joined-requires c = rw (c.spots-p.ensures, c.spots-q.ensures) (join_asks _ _ _ _ _ _ _ _ _ _ (sym c.in_ok-k_list_refusal.ensures))

pub returns : goal.returns
unfolding refusal_of
returns c = joined_is _ _ _ _ _ _ _ _ _ _ (sym c.in_ok-k_list_refusal.ensures) _ (rw (c.spots-p.ensures, c.spots-q.ensures) at c.run-joined.ensures)
