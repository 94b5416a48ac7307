-- `vumlintel_open` meets its contract: what the call told, stored.
use Rattle.vumlintel.proofs.campaigns.vumlintel_open.Goals as goal

pub returns : goal.returns
returns c = rw (c.get-g.ensures, c.list-a.ensures, c.list-b.ensures) at (rw c.open-opened.ensures at c.store.ensures)
