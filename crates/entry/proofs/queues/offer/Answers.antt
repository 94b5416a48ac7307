-- An entry comes in behind the others or on top of a heap, or not at all.
use Rattle.entry.proofs.HeapedFrom.{heaped_at}
use Rattle.entry.proofs.QueueOf.{offer_pushes, last_inside, offer_keeps, offer_heap, offer_replaces}
use Rattle.entry.proofs.queues.offer.Goals as goal

pub returns-then-old-k : goal.returns-then-old-k
returns-then-old-k c = offer_pushes c.requires c.if-old-k.true c.push.ensures

pub entry_inside-requires : goal.entry_inside-requires
entry_inside-requires c = last_inside c.requires c.if-old-k.false

pub returns-then-not-before : goal.returns-then-not-before
returns-then-not-before c =
    offer_keeps c.requires c.if-old-k.false c.entry_inside.ensures c.before-2.ensures c.if-not-before.true

pub replace-requires : goal.replace-requires
replace-requires c = (c.requires.some, heaped_at (offer_heap c.requires c.if-old-k.false c.if-old-eq0.true))

pub returns-then-old-eq0 : goal.returns-then-old-eq0
returns-then-old-eq0 c =
    offer_replaces c.requires c.if-old-k.false c.entry_inside.ensures c.before-2.ensures c.if-not-before.false
    (offer_heap c.requires c.if-old-k.false c.if-old-eq0.true)
    c.replace.ensures

pub replace-requires-2 : goal.replace-requires-2
replace-requires-2 c = (c.requires.some, heaped_at c.build.ensures)

pub returns : goal.returns
returns c =
    offer_replaces c.requires c.if-old-k.false c.entry_inside.ensures c.before-2.ensures c.if-not-before.false
    c.build.ensures c.replace-2.ensures
