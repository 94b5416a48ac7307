-- `site::add_refusal` meets its contract.
use mathlib.Core.Path.{sym, ◌∙◌}
use borrow.Author.Rules.{rules, sfits_of}
use mir.Syntax.{w32}
use mir.Val.{SFits}
use mir.Facts.{to_z-of_z}
use Rattle.site.specs.Answer.{number, refusal_of}
use Rattle.site.specs.Site.{lawful_site}
use Rattle.site.specs.SiteList.{raised, site, raised_site, sites, in_use}
use Rattle.site.specs.InUse.{present}
use Rattle.site.specs.Addition.{site_of}
use Rattle.site.proofs.SiteList.{flattened}
use Rattle.site.proofs.Answer.{passed_on, refusal_numbered}
use Rattle.site.proofs.InUse.{used_level, used_inside, used_asked, in_use_present}
use Rattle.site.proofs.Addition.{add_used, add_outside, add_full, add_most, add_present, add_ok}
use Rattle.site.proofs.adding.add_refusal.Goals as goal
use Rattle.site.proofs.adding.add_refusal.Goals.{then-l-n-via-then-l-n, then-l-n-via-else-l-n+then-count-ge65535}

pub returns-in_err-used_refusal : goal.returns-in_err-used_refusal
unfolding refusal_of
returns-in_err-used_refusal c =
    let a = c.args in
    let b = a.l in
    let l = raised b.x.now b.y.now b.number.now b.height.now in
    rw (passed_on c.from_residual.ensures) (add_used l a.count (site_of a.s) c.in_err-used_refusal.ensures (refusal_numbered _))

pub returns-then-not-lawful : goal.returns-then-not-lawful
unfolding refusal_of number lawful_site
returns-then-not-lawful c =
    let a = c.args in
    let b = a.l in
    let l = raised b.x.now b.y.now b.number.now b.height.now in
    let x : SFits w32 a.s.x = sfits_of (search rules) in
    let y : SFits w32 a.s.y = sfits_of (search rules) in
    let h : SFits w32 a.s.height = sfits_of (search rules) in
    let told = c.lawful.ensures ∙ (λ i. lawful_site (raised_site (to_z-of_z x i) (to_z-of_z y i) 0 (to_z-of_z h i))) in
    add_outside l a.count (site_of a.s) (sym c.in_ok-used_refusal.ensures) (sym told ∙ c.if-not-lawful.true)

pub returns-then-l-n : goal.returns-then-l-n
unfolding refusal_of number lawful_site
returns-then-l-n c =
    let a = c.args in
    let b = a.l in
    let l = raised b.x.now b.y.now b.number.now b.height.now in
    let none = sym c.in_ok-used_refusal.ensures in
    let x : SFits w32 a.s.x = sfits_of (search rules) in
    let y : SFits w32 a.s.y = sfits_of (search rules) in
    let h : SFits w32 a.s.height = sfits_of (search rules) in
    let told = c.lawful.ensures ∙ (λ i. lawful_site (raised_site (to_z-of_z x i) (to_z-of_z y i) 0 (to_z-of_z h i))) in
    let lawful = sym told ∙ c.if-not-lawful.false in
    elim c.then-l-n.branch [
      | then-l-n-via-then-l-n w ↦ add_full l a.count (site_of a.s) none lawful w.if-l-n.true
      | then-l-n-via-else-l-n+then-count-ge65535 w ↦
          add_most l a.count (site_of a.s) none lawful w.if-l-n.false w.if-count-ge65535.true
    ]

pub is_present-requires-clause-level : goal.is_present-requires-clause-level
unfolding refusal_of
is_present-requires-clause-level c =
    let a = c.args in
    let b = a.l in
    (used_asked (raised b.x.now b.y.now b.number.now b.height.now) a.count (sym c.in_ok-used_refusal.ensures)).0

pub is_present-requires-clause-number_value : goal.is_present-requires-clause-number_value
unfolding refusal_of
is_present-requires-clause-number_value c =
    let a = c.args in
    let b = a.l in
    (used_asked (raised b.x.now b.y.now b.number.now b.height.now) a.count (sym c.in_ok-used_refusal.ensures)).1

pub returns-then-is_present : goal.returns-then-is_present
unfolding refusal_of number lawful_site
returns-then-is_present c =
    let a = c.args in
    let b = a.l in
    let l = raised b.x.now b.y.now b.number.now b.height.now in
    let none = sym c.in_ok-used_refusal.ensures in
    let x : SFits w32 a.s.x = sfits_of (search rules) in
    let y : SFits w32 a.s.y = sfits_of (search rules) in
    let h : SFits w32 a.s.height = sfits_of (search rules) in
    let told = c.lawful.ensures ∙ (λ i. lawful_site (raised_site (to_z-of_z x i) (to_z-of_z y i) 0 (to_z-of_z h i))) in
    let level = used_level l a.count none in
    let inside = used_inside l a.count none in
    let told_present =
    c.is_present.ensures
    ∙ (λ i. present (site (to_z-of_z x i) (to_z-of_z y i) a.s.number) (sites (in_use a.count (flattened l))))
    ∙ in_use_present l a.count level inside (site_of a.s) in
    add_present l a.count (site_of a.s) none (sym told ∙ c.if-not-lawful.false) c.if-l-n.false c.if-count-ge65535.false
    (sym told_present ∙ c.if-is_present.true)

pub returns : goal.returns
unfolding refusal_of lawful_site
returns c =
    let a = c.args in
    let b = a.l in
    let l = raised b.x.now b.y.now b.number.now b.height.now in
    let none = sym c.in_ok-used_refusal.ensures in
    let x : SFits w32 a.s.x = sfits_of (search rules) in
    let y : SFits w32 a.s.y = sfits_of (search rules) in
    let h : SFits w32 a.s.height = sfits_of (search rules) in
    let told = c.lawful.ensures ∙ (λ i. lawful_site (raised_site (to_z-of_z x i) (to_z-of_z y i) 0 (to_z-of_z h i))) in
    let level = used_level l a.count none in
    let inside = used_inside l a.count none in
    let told_present =
    c.is_present.ensures
    ∙ (λ i. present (site (to_z-of_z x i) (to_z-of_z y i) a.s.number) (sites (in_use a.count (flattened l))))
    ∙ in_use_present l a.count level inside (site_of a.s) in
    add_ok l a.count (site_of a.s) none (sym told ∙ c.if-not-lawful.false) c.if-l-n.false c.if-count-ge65535.false
    (sym told_present ∙ c.if-is_present.false)
