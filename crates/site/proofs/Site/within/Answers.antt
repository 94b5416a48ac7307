-- `site::Site::within` meets its contract.
use lib.IntN.{pos, negsuc}
use mir.Facts.{to_z-of_z}
use Rattle.site.specs.Site.{between, within}
use Rattle.site.proofs.Signed.{at₁}
use Rattle.site.proofs.Site.within.Goals as goal

pub returns : goal.returns
unfolding within
returns c = at₁ (between (negsuc 999_999_999) (pos 1_000_000_000)) (to_z-of_z c.ranges.c) c.between.ensures
