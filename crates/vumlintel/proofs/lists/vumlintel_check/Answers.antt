-- `vumlintel_check` meets its contract: what the call told, crossed.
use Rattle.vumlintel.proofs.lists.vumlintel_check.Goals as goal

pub returns : goal.returns
returns c = rw (c.list.ensures) at (rw c.check-answer.ensures at c.cross.ensures)
