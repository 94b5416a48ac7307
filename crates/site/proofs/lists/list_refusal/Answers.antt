-- `site::list_refusal` meets its contract.
use mathlib.Core.Path.{◌≡◌, sym, ap₂, ◌∙◌}
use mathlib.Core.Bool.{Bool, not, ◌&&◌}
use native.Mathlib.Omega.{arith}
use borrow.Author.Tests.{not-true, not-false}
use Rattle.order.specs.Lists.{all}
use Rattle.site.specs.Answer.{number, refusal_of, refuse_if, or_else}
use Rattle.site.specs.Site.{within, height_within}
use Rattle.site.specs.SiteList.{columns}
use Rattle.site.proofs.ListRefusal.{sized_level, raised_refused, unequal_height, raised_content}
use Rattle.site.proofs.Accepted.{ascending_sorted}
use Rattle.site.proofs.lists.list_refusal.Goals as goal
use Rattle.site.proofs.lists.list_refusal.Goals.{then-positions_within, else-positions_within}
use Rattle.site.proofs.lists.list_refusal.Goals.{then-not-are_level-via-then-not-are_level, then-not-are_level-via-else-not-are_level+then-l}

pub returns-then-not-are_level : goal.returns-then-not-are_level
unfolding refusal_of number
returns-then-not-are_level c =
    let a = c.args.l in
    elim c.then-not-are_level.branch [
      | then-not-are_level-via-then-not-are_level w ↦
          raised_refused a.x.now a.y.now a.number.now a.height.now (not-false _ (sym w.if-not-are_level.ensures))
      | then-not-are_level-via-else-not-are_level+then-l w ↦
          unequal_height a.x.now a.y.now a.number.now a.height.now w.if-l.true
    ]

pub ascends-sorted-requires : goal.ascends-sorted-requires
ascends-sorted-requires c = sized_level _ _ _ (not-true _ (sym c.if-not-are_level.ensures))

pub positions_within-requires : goal.positions_within-requires
positions_within-requires c =
    let a = c.args.l in
    let sized = sized_level a.x.now a.y.now a.number.now (not-true _ (sym c.if-not-are_level.ensures)) in
    let l = columns a.x.now a.y.now a.number.now in
    (sized.1, omega (arith, sized.0.y, sized.1), λ s. ascending_sorted l sized.0 (sym c.ascends-sorted.ensures ∙ s))

pub all_between-inside-requires : goal.all_between-inside-requires
all_between-inside-requires c =
    let a = c.args.l in
    let sized = sized_level a.x.now a.y.now a.number.now (not-true _ (sym c.if-not-are_level.ensures)) in
    omega (arith, c.if-l.false, sized.1)

pub returns : goal.returns
unfolding height_within
returns c =
    let a = c.args.l in
    let sized = sized_level a.x.now a.y.now a.number.now (not-true _ (sym c.if-not-are_level.ensures)) in
    let inside : c.if-positions_within.inside ≡ (all within a.x.now && all within a.y.now && all height_within a.height.now) =
    elim c.if-positions_within.branch [
      | then-positions_within w ↦ simp (sym w.if-positions_within.ensures) (w.inside-is ∙ w.all_between-inside.ensures)
      | else-positions_within w ↦ simp (sym w.if-positions_within.ensures) (w.inside-is ∙ w.if-positions_within.false)
    ] in
    c.content_refusal.ensures
    ∙ ap₂ (λ (b o : Bool). or_else (refuse_if (not b) 2) (refuse_if (not o) 3)) inside c.ascends-sorted.ensures
    ∙ sym (raised_content _ _ _ a.height.now sized.0 sized.1 c.if-l.false)
