-- Entries that came in are put in order.
use Rattle.entry.specs.Terms.{queued}
use Rattle.entry.proofs.Queueing.{finish_none}
use Rattle.entry.proofs.queues.finish.Goals as goal

pub returns-then-queue-eq0 : goal.returns-then-queue-eq0
unfolding queued
returns-then-queue-eq0 c = c.order.ensures

pub returns-else-queue-eq0 : goal.returns-else-queue-eq0
returns-else-queue-eq0 c = finish_none c.requires c.if-queue-eq0.false
