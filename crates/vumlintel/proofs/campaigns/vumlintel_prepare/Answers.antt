-- `vumlintel_prepare` meets its contract: what the call told, stored.
use Rattle.vumlintel.proofs.campaigns.vumlintel_prepare.Goals as goal

pub returns : goal.returns
returns c = rw (c.list-a.ensures, c.list-b.ensures) at (rw c.prepare-prepared.ensures at c.store.ensures)
