-- `site::plane_refusal` meets its contract.
use mathlib.Core.Path.{sym, ap₂, ◌∙◌}
use mathlib.Core.Bool.{Bool, not}
use native.Mathlib.Omega.{arith}
use borrow.Author.Tests.{not-true, not-false}
use Rattle.site.specs.Answer.{number, refusal_of, refuse_if, or_else}
use Rattle.site.specs.SiteList.{columns}
use Rattle.site.proofs.ListRefusal.{sized_level, sizes_refused, plane_content}
use Rattle.site.proofs.Accepted.{ascending_sorted}
use Rattle.site.proofs.lists.plane_refusal.Goals as goal

pub returns-then-not-are_level : goal.returns-then-not-are_level
unfolding refusal_of number
returns-then-not-are_level c = sizes_refused _ _ _ (not-false _ (sym c.if-not-are_level.ensures))

pub ascends-sorted-requires : goal.ascends-sorted-requires
ascends-sorted-requires c = sized_level _ _ _ (not-true _ (sym c.if-not-are_level.ensures))

pub positions_within-requires : goal.positions_within-requires
positions_within-requires c =
    let a = c.args in
    let sized = sized_level a.x.now a.y.now a.number.now (not-true _ (sym c.if-not-are_level.ensures)) in
    let l = columns a.x.now a.y.now a.number.now in
    (sized.1, omega (arith, sized.0.y, sized.1), λ s. ascending_sorted l sized.0 (sym c.ascends-sorted.ensures ∙ s))

pub returns : goal.returns
returns c =
    let a = c.args in
    let sized = sized_level a.x.now a.y.now a.number.now (not-true _ (sym c.if-not-are_level.ensures)) in
    c.content_refusal.ensures
    ∙ ap₂ (λ (b o : Bool). or_else (refuse_if (not b) 2) (refuse_if (not o) 3)) c.positions_within.ensures c.ascends-sorted.ensures
    ∙ sym (plane_content _ _ _ sized.0 sized.1)
