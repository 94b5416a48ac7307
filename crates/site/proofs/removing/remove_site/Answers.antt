-- `site::remove_site` meets its contract.
use Rattle.site.specs.SiteList.{raised}
use Rattle.site.specs.Removal.{remove_site}
use Rattle.site.proofs.removing.remove_site.Goals as goal

pub returns : goal.returns
unfolding remove_site
returns c = λ i. raised (c.remove.ensures i) (c.remove-2.ensures i) (c.remove-3.ensures i) (c.remove-4.ensures i)
