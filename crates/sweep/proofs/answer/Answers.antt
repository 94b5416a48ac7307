-- The queue finished, and the answer of the state that the tally and the columns held.
use mathlib.Core.Path.{refl, sym}
use Rattle.entry.proofs.Queueing.{length_queued}
use Rattle.sweep.specs.Internal.{state_of}
use Rattle.sweep.proofs.answer.Goals as goal

pub returns : goal.returns
unfolding state_of
returns c = record { entries = sym (length_queued c.requires.1); looks = refl; distances = refl; columns = c.finish.ensures }
