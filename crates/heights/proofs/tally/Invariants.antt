-- The table has how often each height stands in what was passed.
use lib.ListN.{take}
use Rattle.heights.specs.Internal.{Tallied}
use Rattle.heights.proofs.tally.Given as goal

abbrev pub invariant-loop-height : goal.invariant-loop-height
invariant-loop-height l = Tallied (take l.height-index l.column) l.counts
