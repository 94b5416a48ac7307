-- `site::lists_refusal` meets its contract.
use mathlib.Core.Path.{refl}
use Rattle.site.specs.Answer.{refusal_of}
use Rattle.site.specs.Refusal.{lists_refusal}
use Rattle.site.proofs.Answer.{passed_on, refusal_numbered, first_refused, next_decides}
use Rattle.site.proofs.lists.lists_refusal.Goals as goal

pub returns-in_err-list_refusal : goal.returns-in_err-list_refusal
unfolding lists_refusal refusal_of
returns-in_err-list_refusal c = rw (passed_on c.from_residual.ensures) (first_refused _ c.in_err-list_refusal.ensures (refusal_numbered _))

pub returns : goal.returns
unfolding lists_refusal refusal_of
returns c = next_decides c.in_ok-list_refusal.ensures refl c.list_refusal-2.ensures
