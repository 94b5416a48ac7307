-- The queue finished, and the answer of what the tally and the columns held.
use mathlib.Core.Path.{refl, sym}
use Rattle.entry.proofs.Queueing.{length_queued}
use Rattle.halves.specs.Internal.{visited_of}
use Rattle.halves.proofs.answer.Goals as goal

pub returns : goal.returns
unfolding visited_of
returns c =
    record {
      entries = sym (length_queued c.requires.1);
      range_pairs = refl;
      columns = c.finish.ensures;
    }
