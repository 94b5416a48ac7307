-- `site::check` meets its contract.
use mathlib.Core.Path.{refl, sym}
use native.Mathlib.Omega.{arith}
use lib.ListN.{length}
use Rattle.site.specs.SiteList.{raised}
use Rattle.site.specs.Answer.{refusal_of}
use Rattle.site.specs.Refusal.{check_answer}
use Rattle.site.proofs.Answer.{passed_on, result_ok, result_err}
use Rattle.site.proofs.Accepted.{accepted_few}
use Rattle.site.proofs.lists.check.Goals as goal

pub returns-in_err-list_refusal : goal.returns-in_err-list_refusal
unfolding check_answer refusal_of
returns-in_err-list_refusal c =
    rw (passed_on c.from_residual.ensures) (result_err (λ n. n) (length c.args.l.x.now) _ c.in_err-list_refusal.ensures)

pub overflow_cast-result : goal.overflow_cast-result
unfolding refusal_of
overflow_cast-result c =
    let a = c.args.l in
    omega (arith, accepted_few (raised a.x.now a.y.now a.number.now a.height.now) (sym c.in_ok-list_refusal.ensures))

pub returns : goal.returns
unfolding check_answer refusal_of
returns c = result_ok (λ n. n) _ (sym c.in_ok-list_refusal.ensures) refl
