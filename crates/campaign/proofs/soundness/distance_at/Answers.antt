-- `campaign::soundness::distance_at` meets its contract.
use borrow.Author.Rules.{sfits_of}
use mathlib.Core.Path.{◌∙◌}
use mir.Facts.{to_z-of_z}
use Rattle.site.specs.Site.{squared_distance}
use Rattle.site.specs.SiteList.{raised, raised_site}
use Rattle.site.proofs.Accepted.{coordinate_x, coordinate_y, height_at}
use Rattle.campaign.proofs.SoundEntry.{apart_at}
use mir.Syntax.{w32}
use Rattle.campaign.proofs.soundness.distance_at.Goals as goal

-- The distance by what was read, before what the reads are asked to be.
pub returns : goal.returns
returns c =
    let x = to_z-of_z {w = w32} (sfits_of c.squared_distance-arg-1.given) in
    let y = to_z-of_z {w = w32} (sfits_of c.squared_distance-arg-2-1.given) in
    let h = to_z-of_z {w = w32} (sfits_of c.squared_distance-arg-3-1.given) in
    let u = to_z-of_z {w = w32} (sfits_of c.squared_distance-arg-4-1.given) in
    let v = to_z-of_z {w = w32} (sfits_of c.squared_distance-arg-5-1.given) in
    let k = to_z-of_z {w = w32} (sfits_of c.squared_distance-arg-6-1.given) in
    record {
      numbered = λ an bn la lb.
          apart_at (raised c.args.a.x.now c.args.a.y.now an c.args.a.height.now)
          (raised c.args.b.x.now c.args.b.y.now bn c.args.b.height.now) la lb _ _ c.requires.i_in_bounds.0 c.requires.i_in_bounds.1
          (c.squared_distance.ensures ∙ (λ i. squared_distance (raised_site (x i) (y i) 0 (h i)) (raised_site (u i) (v i) 0 (k i))));
    }

pub squared_distance-requires : goal.squared_distance-requires
squared_distance-requires c =
    let first = c.requires.both_lists.0 in
    let second = c.requires.both_lists.1 in
    let i = c.requires.i_in_bounds.0 in
    let j = c.requires.i_in_bounds.1 in
    record {
      ax_value = (
        rw (to_z-of_z {w = w32} (sfits_of c.squared_distance-arg-1.given)) (coordinate_x first.plane _ i),
        rw (to_z-of_z {w = w32} (sfits_of c.squared_distance-arg-2-1.given)) (coordinate_y first.plane _ i),
        rw (to_z-of_z {w = w32} (sfits_of c.squared_distance-arg-3-1.given)) (height_at first.heights _ i),
      );
      bx_value = (
        rw (to_z-of_z {w = w32} (sfits_of c.squared_distance-arg-4-1.given)) (coordinate_x second.plane _ j),
        rw (to_z-of_z {w = w32} (sfits_of c.squared_distance-arg-5-1.given)) (coordinate_y second.plane _ j),
        rw (to_z-of_z {w = w32} (sfits_of c.squared_distance-arg-6-1.given)) (height_at second.heights _ j),
      );
    }
