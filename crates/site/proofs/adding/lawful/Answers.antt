-- `site::lawful` meets its contract.
use mathlib.Core.Path.{refl, sym, ◌∙◌}
use mir.Facts.{to_z-of_z}
use Rattle.order.proofs.Order.{never_both}
use Rattle.site.specs.Site.{within, height_within}
use Rattle.site.specs.SiteList.{raised_site}
use Rattle.site.proofs.Signed.{at₁}
use Rattle.site.proofs.ListRefusal.{lawful_up}
use Rattle.site.proofs.adding.lawful.Goals as goal
use Rattle.site.proofs.adding.lawful.Goals.{then-within, else-within}

pub returns-then-within-2 : goal.returns-then-within-2
returns-then-within-2 c =
    let a = c.args in
    let up = lawful_up (raised_site a.sx a.sy 0 a.sh) a.sh refl in
    let x = at₁ within (to_z-of_z c.ranges.sx) c.within.ensures in
    let h = at₁ height_within (to_z-of_z c.ranges.sh) c.height_within.ensures in
    elim c.if-within.branch [
      | then-within w ↦
          let y = at₁ within (to_z-of_z c.ranges.sy) w.within-then-within.ensures in
          simp (up, sym x ∙ w.if-within.true, sym y ∙ sym w.value-is ∙ c.if-within-2.true) h
      | else-within w ↦ never_both (c.if-within-2.true) (w.value-is ∙ w.if-within.false)
    ]

pub returns-else-within-2 : goal.returns-else-within-2
returns-else-within-2 c =
    let a = c.args in
    let up = lawful_up (raised_site a.sx a.sy 0 a.sh) a.sh refl in
    let x = at₁ within (to_z-of_z c.ranges.sx) c.within.ensures in
    elim c.if-within.branch [
      | then-within w ↦
          let y = at₁ within (to_z-of_z c.ranges.sy) w.within-then-within.ensures in
          simp (up, sym x ∙ w.if-within.true, sym y ∙ sym w.value-is ∙ c.if-within-2.false) c.if-within-2.false
      | else-within w ↦ simp (up, sym x ∙ w.if-within.false) c.if-within-2.false
    ]
