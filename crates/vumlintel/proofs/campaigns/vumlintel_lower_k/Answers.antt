-- `vumlintel_lower_k` meets its contract: what the call told, stored.
use Rattle.vumlintel.proofs.campaigns.vumlintel_lower_k.Goals as goal

pub returns : goal.returns
returns c = rw (c.get-g.ensures, c.list-a.ensures, c.list-b.ensures) at (rw c.lower_k-lowered.ensures at c.store.ensures)
