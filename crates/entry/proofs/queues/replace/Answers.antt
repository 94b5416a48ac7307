-- The entry is put in on top.
use Rattle.entry.proofs.QueueOf.{replace_asks, replaced}
use Rattle.entry.proofs.queues.replace.Goals as goal

pub sift-requires : goal.sift-requires
sift-requires c =
    let asked = c.requires in
    replace_asks asked.0 asked.1

pub returns : goal.returns
returns c =
    let asked = c.requires in
    replaced asked.0 asked.1 c.sift.ensures c.get.ensures
