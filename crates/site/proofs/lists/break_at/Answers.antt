-- `site::break_at` meets its contract.
use mathlib.Core.Path.{◌≡◌, ap, ◌∙◌}
use mathlib.Core.Bool.{Bool, not}
use Prim.Native.Nat.{◌+◌}
use native.Mathlib.Omega.{arith}
use borrow.Author.Rules.{rules, sfits_of}
use lib.IntN.{ℤ, pos}
use lib.ListN.{get_or}
use mir.Syntax.{w32}
use mir.Val.{SFits, bool_byte}
use mir.Facts.{to_z-of_z}
use Rattle.site.specs.Site.{site_before}
use Rattle.site.specs.SiteList.{columns, site, sites, site_at}
use Rattle.site.proofs.Signed.{at₄}
use Rattle.site.proofs.Counting.{no_byte}
use Rattle.site.proofs.SiteList.{site_at_lem}
use Rattle.site.proofs.lists.break_at.Goals as goal

pub returns : goal.returns
returns c =
    let a = c.args in
    let l = columns a.x.now a.y.now a.number.now in
    let x : SFits w32 (get_or a.x.now a.i (pos 0)) = sfits_of (search rules) in
    let y : SFits w32 (get_or a.y.now a.i (pos 0)) = sfits_of (search rules) in
    let next_x : SFits w32 (get_or a.x.now (a.i + 1) (pos 0)) = sfits_of (search rules) in
    let next_y : SFits w32 (get_or a.y.now (a.i + 1) (pos 0)) = sfits_of (search rules) in
    let told : c.before-2.result ≡ site_before (site_at (sites l) a.i) (site_at (sites l) (a.i + 1)) =
    rw (site_at_lem l c.requires.0 a.i (omega (arith, c.requires.1)), site_at_lem l c.requires.0 (a.i + 1) c.requires.1)
    (at₄ (λ (ax ay bx by : ℤ). site_before (site ax ay (get_or a.number.now a.i 0)) (site bx by (get_or a.number.now (a.i + 1) 0)))
    (to_z-of_z x) (to_z-of_z y) (to_z-of_z next_x) (to_z-of_z next_y) c.before-2.ensures) in
    ap (λ (t : Bool). bool_byte (not t)) told ∙ no_byte _
