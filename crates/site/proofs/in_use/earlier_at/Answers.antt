-- `site::earlier_at` meets its contract.
use mathlib.Core.Path.{◌≡◌, ap, ◌∙◌}
use borrow.Author.Rules.{rules, sfits_of}
use lib.IntN.{ℤ, pos}
use lib.ListN.{get_or}
use mir.Syntax.{w32}
use mir.Val.{SFits, bool_byte}
use mir.Facts.{to_z-of_z}
use Rattle.site.specs.Site.{site_before}
use Rattle.site.specs.SiteList.{columns, site, sites, site_at}
use Rattle.site.proofs.Signed.{at₄}
use Rattle.site.proofs.Counting.{yes_byte}
use Rattle.site.proofs.SiteList.{site_at_lem}
use Rattle.site.proofs.in_use.earlier_at.Goals as goal

pub returns : goal.returns
returns c =
    let a = c.args in
    let l = columns a.x.now a.y.now a.number.now in
    let x : SFits w32 (get_or a.x.now a.i (pos 0)) = sfits_of (search rules) in
    let y : SFits w32 (get_or a.y.now a.i (pos 0)) = sfits_of (search rules) in
    let told : c.before-2.result ≡ site_before (site_at (sites l) a.i) (site a.sx a.sy a.sn) =
    rw (site_at_lem l c.requires.0 a.i c.requires.1)
    (at₄ (λ (x y sx sy : ℤ). site_before (site x y (get_or a.number.now a.i 0)) (site sx sy a.sn)) (to_z-of_z x) (to_z-of_z y)
    (to_z-of_z c.ranges.sx) (to_z-of_z c.ranges.sy) c.before-2.ensures) in
    ap bool_byte told ∙ yes_byte _
