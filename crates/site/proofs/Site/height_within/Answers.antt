-- `site::Site::height_within` meets its contract.
use lib.IntN.{pos, negsuc}
use mir.Facts.{to_z-of_z}
use Rattle.site.specs.Site.{between, height_within}
use Rattle.site.proofs.Signed.{at₁}
use Rattle.site.proofs.Site.height_within.Goals as goal

pub returns : goal.returns
unfolding height_within
returns c = at₁ (between (negsuc 9_999) (pos 10_000)) (to_z-of_z c.ranges.h) c.between.ensures
