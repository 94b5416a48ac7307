-- `pairs::k_list_refusal` meets its contract.
use Rattle.std.proofs.Common.{sym}
use Rattle.site.specs.Answer.{number, refusal_of}
use Rattle.site.proofs.Answer.{passed_on}
use Rattle.pairs.proofs.KList.{k_lists_refused, k_unlawful, k_short, k_accepted}
use Rattle.pairs.proofs.closest.k_list_refusal.Goals as goal

pub returns-in_err-lists_refusal : goal.returns-in_err-lists_refusal
unfolding refusal_of
returns-in_err-lists_refusal c = rw (passed_on c.from_residual.ensures) (k_lists_refused _ _ _ _ _ c.in_err-lists_refusal.ensures)

pub returns-then-not-lawful_k : goal.returns-then-not-lawful_k
unfolding refusal_of number
returns-then-not-lawful_k c =
    k_unlawful _ _ _ _ (sym c.in_ok-lists_refusal.ensures) c.lawful_k.ensures c.if-not-lawful_k.true

pub returns-then-not-room : goal.returns-then-not-room
unfolding refusal_of number
returns-then-not-room c =
    k_short _ _ _ _ (sym c.in_ok-lists_refusal.ensures) c.lawful_k.ensures c.if-not-lawful_k.false
    c.room.ensures c.if-not-room.true

pub returns : goal.returns
unfolding refusal_of
returns c =
    k_accepted _ _ _ _ (sym c.in_ok-lists_refusal.ensures) c.lawful_k.ensures c.if-not-lawful_k.false
    c.room.ensures c.if-not-room.false
