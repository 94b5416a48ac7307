-- `site::place_of` meets its contract.
use mathlib.Core.Path.{◌≡◌, ap}
use mathlib.Core.Bool.{cond}
use Prim.Native.Nat.{ℕ, ◌+◌}
use native.Mathlib.Omega.{arith}
use lib.IntN.{ℤ}
use lib.ListN.{drop}
use mir.Syntax.{w32}
use mir.Val.{to_z, of_z}
use mir.Facts.{to_z-of_z}
use Rattle.site.specs.Site.{site_before}
use Rattle.site.specs.SiteList.{columns, site, sites, site_at, in_use}
use Rattle.site.specs.InUse.{place_of}
use Rattle.site.proofs.Signed.{at₂}
use Rattle.site.proofs.Counting.{yes_le}
use Rattle.site.proofs.SiteList.{nowhere, in_use_at}
use Rattle.site.proofs.InUse.{in_use_length}
use Rattle.site.proofs.PlaceOf.{place_step, place_end}
use Rattle.site.proofs.in_use.place_of.Goals as goal

pub loop-i-preserved : goal.loop-i-preserved
unfolding site_at
loop-i-preserved c =
    let a = c.args in
    let i = c.loop-i.i in
    let l = columns a.x.now a.y.now a.number.now in
    let used = sites (in_use a.n l) in
    let s = site (to_z w32 (of_z w32 a.sx)) (to_z w32 (of_z w32 a.sy)) a.sn in
    let told : c.earlier_at-place.result ≡ cond (site_before (site_at used i) s) 1 0 =
    rw (in_use_at a.n l i c.loop-i-test.true) c.earlier_at-place.ensures in
    let small = yes_le (site_before (site_at used i) s) told in
    let inside = in_use_length l a.n c.requires.0 c.requires.1 in
    let step : c.earlier_at-place.result + place_of s (drop (i + 1) used) ≡ place_of s (drop i used) =
    rw (place_step s used i nowhere (omega (arith, c.loop-i-test.true))) (ap (λ (n : ℕ). n + place_of s (drop (i + 1) used)) told) in
    (omega (arith, small, c.loop-i.invariant.0), omega (arith, step, c.loop-i.invariant.1))

pub returns : goal.returns
returns c =
    let a = c.args in
    let i = c.loop-i.i in
    let l = columns a.x.now a.y.now a.number.now in
    let used = sites (in_use a.n l) in
    let s = site (to_z w32 (of_z w32 a.sx)) (to_z w32 (of_z w32 a.sy)) a.sn in
    let inside = in_use_length l a.n c.requires.0 c.requires.1 in
    let none = place_end s used i (omega (arith, c.loop-i-test.false)) in
    let all : c.loop-i.place ≡ place_of s used = omega (arith, none, c.loop-i.invariant.1) in
    at₂ (λ (x y : ℤ). place_of (site x y a.sn) used) (to_z-of_z c.ranges.sx) (to_z-of_z c.ranges.sy) all
