-- `site::squared_distance` meets its contract: inside the limits the sum is below 2 ^ 63.
use mathlib.Core.Path.{◌≡◌, ◌∙◌, sym, ap₂}
use Prim.Native.Nat.{◌+◌}
use native.Mathlib.Omega.{arith}
use borrow.Author.Rules.{rules}
use lib.IntN.{ℤ}
use mir.Facts.{to_z-of_z}
use Rattle.site.specs.Site.{gap, square, squared_distance}
use Rattle.site.specs.SiteList.{site}
use Rattle.site.proofs.Signed.{at₂, at₄}
use Rattle.site.proofs.Distance.{squared_distance_plane, squared_distance_up, squared_distance_within}
use Rattle.site.proofs.positions.squared_distance.Statement.{statement}
use Rattle.site.proofs.positions.squared_distance.Tie as tie

plane-distance-requires : tie.Need-plane_distance-requires
plane-distance-requires c κs =
    let f = c.ranges in
    let p = c.requires in (
      rw (to_z-of_z f.ax) p.0.0,
      rw (to_z-of_z f.ay) p.0.1,
      rw (to_z-of_z f.bx) p.1.0,
      rw (to_z-of_z f.by) p.1.1,
    )

flat : (c : tie.After-plane_distance)
    → let a = c.before.args in
    c.plane_distance.result ≡ square (gap a.ax a.bx) + square (gap a.ay a.by)
flat c =
    let a = c.args in
    let f = c.ranges in
    at₄ (λ (x y u v : ℤ). squared_distance (site x y 0) (site u v 0)) (to_z-of_z f.ax) (to_z-of_z f.ay) (to_z-of_z f.bx) (to_z-of_z f.by)
    c.plane_distance.ensures
    ∙ squared_distance_plane a.ax a.ay a.bx a.by 0 0

along_height : (c : tie.After-squared_gap)
    → let a = c.before.before.args in
    c.squared_gap.result ≡ square (gap a.ah a.bh)
along_height c =
    let f = c.ranges in
    at₂ (λ (a b : ℤ). square (gap a b)) (to_z-of_z f.ah) (to_z-of_z f.bh) c.squared_gap.ensures

-- The sum is the squared distance.
whole : (c : tie.After-squared_gap)
    → let a = c.before.before.args in
    c.before.plane_distance.result + c.squared_gap.result
    ≡ square (gap a.ax a.bx) + square (gap a.ay a.by) + square (gap a.ah a.bh)
whole c = ap₂ ◌+◌ (flat c.before) (along_height c)

add-result : tie.Need-overflow_add-result
add-result c =
    let a = c.args in
    let p = c.requires in
    omega (
      arith,
      whole c,
      squared_distance_up a.ax a.ay a.ah a.bx a.by a.bh 0 0,
      squared_distance_within a.ax a.ay a.ah a.bx a.by a.bh 0 0 p.0.0 p.0.1 p.0.2 p.1.0 p.1.1 p.1.2,
    )

returns : tie.Need-returns
returns c =
    let a = c.args in
    whole c ∙ sym (squared_distance_up a.ax a.ay a.ah a.bx a.by a.bh 0 0)

pub squared_distance_spec : {M : Type 1} → statement M
squared_distance_spec = tie.close (tie.spec plane-distance-requires (λ c κs. search rules) add-result returns)
