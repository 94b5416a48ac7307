-- `pairs::is_near` meets its contract.
use mir.Syntax.{w32}
use Rattle.std.proofs.Common.{◌≡◌, ℕ, ℤ, pos, get_or, sym, to_z-of_z, rules}
use Rattle.site.specs.Site.{squared_distance}
use Rattle.site.specs.SiteList.{raised_site}
use Rattle.site.proofs.Signed.{at₁}
use Rattle.site.proofs.Accepted.{coordinate_x, coordinate_y, height_at}
use Rattle.sweep.specs.Terms.{spot}
use Rattle.pairs.specs.Internal.{offset}
use Rattle.pairs.proofs.Offset.{near_within, near_beyond, far_y}
use Rattle.pairs.proofs.nearby.is_near.Goals as goal

pub returns-then-reach-above : goal.returns-then-reach-above
unfolding spot
returns-then-reach-above c =
    let a = c.args in
    let p = c.requires.0 in
    sym
    (far_y a.x a.y a.h (spot a.b.x.now a.b.y.now a.b.height.now a.j).site a.e
    p.inside_y (coordinate_y p.others a.j c.requires.1) c.ranges.e.fits
    (at₁ offset (to_z-of_z {w = w32} (search rules)) c.offset.ensures.0) c.offset.ensures.1
    (at₁ offset (to_z-of_z c.ranges.y) c.offset-2.ensures.0) c.offset-2.ensures.1
    c.if-reach-above.true)

pub squared_distance-squared-requires-clause-bx_value : goal.squared_distance-squared-requires-clause-bx_value
squared_distance-squared-requires-clause-bx_value c =
    let a = c.args in
    let p = c.requires.0 in
    let k = c.requires.1 in (
      rw (to_z-of_z {w = w32} {z = get_or a.b.x.now a.j (pos 0)} (search rules)) (coordinate_x p.others a.j k),
      rw (to_z-of_z {w = w32} {z = get_or a.b.y.now a.j (pos 0)} (search rules)) (coordinate_y p.others a.j k),
      rw (to_z-of_z {w = w32} {z = get_or a.b.height.now a.j (pos 0)} (search rules)) (height_at p.heights a.j k),
    )

-- A squared distance of equal positions.
same_distance : {d : ℕ} {x y h u v w x' y' h' u' v' w' : ℤ} → x ≡ x' → y ≡ y' → h ≡ h' → u ≡ u' → v ≡ v' → w ≡ w'
    → d ≡ squared_distance (raised_site x y 0 h) (raised_site u v 0 w)
    → d ≡ squared_distance (raised_site x' y' 0 h') (raised_site u' v' 0 w')
same_distance p q r p' q' r' e = cc

pub returns-then-squared-reach : goal.returns-then-squared-reach
unfolding spot
returns-then-squared-reach c =
    near_within _ _ _ _
    (same_distance (to_z-of_z c.ranges.x) (to_z-of_z c.ranges.y) (to_z-of_z c.ranges.h) (to_z-of_z {w = w32} (search rules))
    (to_z-of_z {w = w32} (search rules)) (to_z-of_z {w = w32} (search rules)) c.squared_distance-squared.ensures)
    c.if-squared-reach.true

pub returns-else-squared-reach : goal.returns-else-squared-reach
unfolding spot
returns-else-squared-reach c =
    near_beyond _ _ _ _
    (same_distance (to_z-of_z c.ranges.x) (to_z-of_z c.ranges.y) (to_z-of_z c.ranges.h) (to_z-of_z {w = w32} (search rules))
    (to_z-of_z {w = w32} (search rules)) (to_z-of_z {w = w32} (search rules)) c.squared_distance-squared.ensures)
    c.if-squared-reach.false
