-- The visits, and the answer from what they leave.
use Rattle.entry.proofs.Updated.{updated_asks}
use Rattle.halves.proofs.Joining.{halved_strips}
use Rattle.halves.proofs.run.Goals as goal

pub answer-requires : goal.answer-requires
answer-requires c = updated_asks c.join-tally.ensures.updated c.requires.few

pub returns : goal.returns
returns c = halved_strips c.requires c.join-tally.ensures c.answer.ensures
