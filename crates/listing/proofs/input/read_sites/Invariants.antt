-- The sites of a list: the first `i` are read.
use lib.ListN.{length}
use Rattle.site_file.specs.File.{sites_in}
use Rattle.listing.proofs.FileLists.{SitesRead}
use Rattle.listing.proofs.input.read_sites.Given as goal

abbrev pub invariant-loop-i : goal.invariant-loop-i
invariant-loop-i l = SitesRead (sites_in l.file l.which) (length l.initial.x) l.x l.y l.number l.i
