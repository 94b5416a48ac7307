-- `held_start` meets its contract.
use Rattle.site_file.specs.ReaderAnswer.{held_start}
use Rattle.site_file.proofs.consulting.held_start.Goals as goal

pub returns-in-First : goal.returns-in-First
unfolding held_start
returns-in-First c = rw c.in-First.is

pub returns-in-Second : goal.returns-in-Second
unfolding held_start
returns-in-Second c = rw c.in-Second.is
