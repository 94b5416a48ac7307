-- The sites of a list: the first `i` are read.
use Rattle.site_file.proofs.File.{list_length}
use Rattle.listing.proofs.FileLists.{sites_starts, sites_more, sites_ends}
use Rattle.listing.proofs.input.read_sites.Goals as goal

pub loop-i-init : goal.loop-i-init
loop-i-init c = sites_starts _ (list_length _ _) c.requires.sized

pub loop-i-preserved : goal.loop-i-preserved
loop-i-preserved c =
    let done = c.read_site.ensures in
    sites_more _ _ c.loop-i-test.true done.0 done.1.0 done.1.1 c.loop-i.invariant

pub returns : goal.returns
returns c = sites_ends _ _ c.loop-i-test.false c.loop-i.invariant
