-- `write_refusal` meets its contract: one test after another.
use mathlib.Core.Path.{◌≡◌, sym}
use native.Mathlib.Omega.{arith}
use Rattle.site.specs.Answer.{number, refusal_of}
use Rattle.site.specs.SiteList.{columns}
use Rattle.site.specs.Refusal.{lists_refusal}
use Rattle.site.proofs.Answer.{passed_on, refusal_numbered}
use Rattle.site_file.proofs.WriteAnswer.{lists_first, lists_second, both_few, write_lists, write_short, write_ready}
use Rattle.site_file.proofs.writing.write_refusal.Goals as goal
use Rattle.site_file.proofs.writing.write_refusal.Goals.{In_ok-plane_refusal-2}

-- Neither list is refused.
both : (c : In_ok-plane_refusal-2)
    → (let a = c.args in 0 ≡ lists_refusal (columns a.ax.now a.ay.now a.an.now) (columns a.bx.now a.by.now a.bn.now))
unfolding refusal_of
both c = lists_second _ _ c.in_ok-plane_refusal.ensures c.in_ok-plane_refusal-2.ensures

pub returns-in_err-plane_refusal : goal.returns-in_err-plane_refusal
unfolding refusal_of
returns-in_err-plane_refusal c =
    let some = refusal_numbered c.in_err-plane_refusal.field-0.0 in
    rw (passed_on c.from_residual.ensures) (write_lists _ _ _ (lists_first _ _ c.in_err-plane_refusal.ensures some) some)

pub returns-in_err-plane_refusal-2 : goal.returns-in_err-plane_refusal-2
unfolding refusal_of
returns-in_err-plane_refusal-2 c =
    rw (passed_on c.from_residual-in_err-plane_refusal-2.ensures)
    (write_lists _ _ _ (lists_second _ _ c.in_ok-plane_refusal.ensures c.in_err-plane_refusal-2.ensures) (refusal_numbered _))

pub overflow_mul-ax : goal.overflow_mul-ax
overflow_mul-ax c =
    let few = both_few _ _ (sym (both (goal.at.overflow_mul-ax c).In_ok-plane_refusal-2)) in
    omega (arith, few)

pub overflow_add-ax : goal.overflow_add-ax
overflow_add-ax c =
    let few = both_few _ _ (sym (both (goal.at.overflow_add-ax c).In_ok-plane_refusal-2)) in
    omega (arith, few)

pub overflow_mul-bx : goal.overflow_mul-bx
overflow_mul-bx c =
    let few = both_few _ _ (sym (both (goal.at.overflow_mul-bx c).In_ok-plane_refusal-2)) in
    omega (arith, few)

pub overflow_add-ax-2 : goal.overflow_add-ax-2
overflow_add-ax-2 c =
    let few = both_few _ _ (sym (both (goal.at.overflow_add-ax-2 c).In_ok-plane_refusal-2)) in
    omega (arith, few)

pub returns-then-room-ax : goal.returns-then-room-ax
unfolding refusal_of number
returns-then-room-ax c = write_short _ _ _ (both (goal.at.returns-then-room-ax c).In_ok-plane_refusal-2) c.if-room-ax.true

pub returns : goal.returns
unfolding refusal_of
returns c = write_ready _ _ _ (both (goal.at.returns c).In_ok-plane_refusal-2) c.if-room-ax.false
