-- Each way by its own function, and the answer from what it leaves.
use Rattle.join.proofs.JoinedStrips.{joined_by_sweep, joined_by_halves}
use Rattle.join.proofs.run.Goals as goal

pub returns-in-Sweep : goal.returns-in-Sweep
returns-in-Sweep c =
    rw c.in-Sweep.is
    (joined_by_sweep _ _ _ _ _ _ _ _ _ _ _ _ _ _ c.run-swept.ensures)

pub returns-in-Halves : goal.returns-in-Halves
returns-in-Halves c =
    rw c.in-Halves.is
    (joined_by_halves _ _ _ _ _ _ _ _ _ _ _ _ _ c.run-halved.ensures)
