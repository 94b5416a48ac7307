-- The entry goes behind the others; with the last that there is room for they become a heap.
use Rattle.entry.proofs.Results.{room_inside}
use Rattle.entry.proofs.QueueOf.{push_builds, push_room, push_full}
use Rattle.entry.proofs.queues.push.Goals as goal

pub put-requires : goal.put-requires
put-requires c = let asked = c.requires in room_inside _ _ asked.room asked.under

pub returns-then-count-k : goal.returns-then-count-k
returns-then-count-k c = push_room c.requires _ c.put.ensures c.if-count-k.true

pub build-requires : goal.build-requires
build-requires c = push_builds c.requires _ c.put.ensures

pub returns : goal.returns
returns c = push_full c.requires _ c.put.ensures c.if-count-k.false c.build.ensures c.get.ensures
