-- `site::remove_refusal` meets its contract.
use mathlib.Core.Path.{sym, ◌∙◌}
use mir.Facts.{to_z-of_z}
use Rattle.site.specs.Answer.{number, refusal_of}
use Rattle.site.specs.SiteList.{raised, site, sites, in_use}
use Rattle.site.specs.InUse.{present}
use Rattle.site.proofs.SiteList.{flattened}
use Rattle.site.proofs.Answer.{passed_on, refusal_numbered}
use Rattle.site.proofs.InUse.{used_level, used_inside, used_asked, in_use_present}
use Rattle.site.proofs.Removal.{remove_used, remove_absent, remove_ok}
use Rattle.site.proofs.removing.remove_refusal.Goals as goal

pub returns-in_err-used_refusal : goal.returns-in_err-used_refusal
unfolding refusal_of
returns-in_err-used_refusal c =
    let a = c.args in
    let b = a.l in
    let l = raised b.x.now b.y.now b.number.now b.height.now in
    rw (passed_on c.from_residual.ensures)
    (remove_used l a.count (site a.sx a.sy a.sn) c.in_err-used_refusal.ensures (refusal_numbered _))

pub is_present-requires-clause-level : goal.is_present-requires-clause-level
unfolding refusal_of
is_present-requires-clause-level c =
    let a = c.args in
    let b = a.l in
    (used_asked (raised b.x.now b.y.now b.number.now b.height.now) a.count (sym c.in_ok-used_refusal.ensures)).0

pub is_present-requires-clause-number_value : goal.is_present-requires-clause-number_value
unfolding refusal_of
is_present-requires-clause-number_value c =
    let a = c.args in
    let b = a.l in
    (used_asked (raised b.x.now b.y.now b.number.now b.height.now) a.count (sym c.in_ok-used_refusal.ensures)).1

pub returns-then-is_present : goal.returns-then-is_present
unfolding refusal_of
returns-then-is_present c =
    let a = c.args in
    let b = a.l in
    let l = raised b.x.now b.y.now b.number.now b.height.now in
    let none = sym c.in_ok-used_refusal.ensures in
    let told =
    c.is_present.ensures
    ∙ (λ i. present (site (to_z-of_z c.ranges.sx i) (to_z-of_z c.ranges.sy i) a.sn) (sites (in_use a.count (flattened l))))
    ∙ in_use_present l a.count (used_level l a.count none) (used_inside l a.count none) (site a.sx a.sy a.sn) in
    remove_ok l a.count (site a.sx a.sy a.sn) none (sym told ∙ c.if-is_present.true)

pub returns-else-is_present : goal.returns-else-is_present
unfolding refusal_of number
returns-else-is_present c =
    let a = c.args in
    let b = a.l in
    let l = raised b.x.now b.y.now b.number.now b.height.now in
    let none = sym c.in_ok-used_refusal.ensures in
    let told =
    c.is_present.ensures
    ∙ (λ i. present (site (to_z-of_z c.ranges.sx i) (to_z-of_z c.ranges.sy i) a.sn) (sites (in_use a.count (flattened l))))
    ∙ in_use_present l a.count (used_level l a.count none) (used_inside l a.count none) (site a.sx a.sy a.sn) in
    remove_absent l a.count (site a.sx a.sy a.sn) none (sym told ∙ c.if-is_present.false)
