-- `site::is_present` meets its contract: where the first sites ascend, a site stands at its place or nowhere.
use mathlib.Core.Path.{◌≡◌, sym, ap, ◌∙◌}
use mathlib.Core.Bool.{not}
use native.Mathlib.Omega.{arith}
use borrow.Author.Rules.{rules, sfits_of}
use borrow.Author.Tests.{le-leb, lt-leb, le-ltb}
use lib.IntN.{ℤ, pos}
use lib.ListN.{length, get_or}
use mir.Syntax.{w32}
use mir.Val.{SFits}
use mir.Facts.{to_z-of_z}
use Rattle.order.proofs.Sorted.{ascending_ascends}
use Rattle.site.specs.Site.{site_before}
use Rattle.site.specs.SiteList.{columns, site, sites, site_at, in_use}
use Rattle.site.specs.InUse.{place_of}
use Rattle.site.proofs.Signed.{at₂, at₄}
use Rattle.site.proofs.SiteBefore.{site_order}
use Rattle.site.proofs.SiteList.{site_at_lem, in_use_at}
use Rattle.site.proofs.PlaceOf.{present_at}
use Rattle.site.proofs.InUse.{in_use_length}
use Rattle.site.proofs.in_use.is_present.Goals as goal

pub returns-then-place-n : goal.returns-then-place-n
returns-then-place-n c =
    let a = c.args in
    let f = c.ranges in
    let p = c.place_of-place.result in
    let l = columns a.x.now a.y.now a.number.now in
    let used = sites (in_use a.n l) in
    let s = site a.sx a.sy a.sn in
    let found = site (get_or a.x.now p (pos 0)) (get_or a.y.now p (pos 0)) (get_or a.number.now p 0) in
    let x : SFits w32 (get_or a.x.now p (pos 0)) = sfits_of (search rules) in
    let y : SFits w32 (get_or a.y.now p (pos 0)) = sfits_of (search rules) in
    let place : p ≡ place_of s used =
    at₂ (λ (x y : ℤ). place_of (site x y a.sn) used) (to_z-of_z f.sx) (to_z-of_z f.sy) c.place_of-place.ensures in
    let compared : c.before-then-place-n.result ≡ site_before s found =
    at₄ (λ (sx sy x y : ℤ). site_before (site sx sy a.sn) (site x y found.number)) (to_z-of_z f.sx) (to_z-of_z f.sy) (to_z-of_z x)
    (to_z-of_z y) c.before-then-place-n.ensures in
    let long = in_use_length l a.n c.requires.level.0 c.requires.level.1 in
    let inside = lt-leb (length used) (place_of s used) (omega (arith, long, place, c.if-place-n.true)) in
    let read : site_at used (place_of s used) ≡ found =
    ap (site_at used) (sym place) ∙ in_use_at a.n l p c.if-place-n.true
    ∙ site_at_lem l c.requires.level.0 p (omega (arith, c.if-place-n.true, c.requires.level.1)) in
    simp (present_at s used (ascending_ascends site_order used c.requires.number_value), inside, read) (ap not compared)

pub returns-else-place-n : goal.returns-else-place-n
returns-else-place-n c =
    let a = c.args in
    let l = columns a.x.now a.y.now a.number.now in
    let used = sites (in_use a.n l) in
    let s = site a.sx a.sy a.sn in
    let place : c.place_of-place.result ≡ place_of s used =
    at₂ (λ (x y : ℤ). place_of (site x y a.sn) used) (to_z-of_z c.ranges.sx) (to_z-of_z c.ranges.sy) c.place_of-place.ensures in
    let long = in_use_length l a.n c.requires.level.0 c.requires.level.1 in
    let past = le-leb (length used) (place_of s used) (omega (arith, long, place, c.if-place-n.false)) in
    simp (present_at s used (ascending_ascends site_order used c.requires.number_value), past) (le-ltb c.place_of-place.result a.n c.if-place-n.false)
