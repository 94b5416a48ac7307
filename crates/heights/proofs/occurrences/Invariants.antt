-- What is found is how often the height stands in what was passed.
use mathlib.Core.Path.{◌≡◌}
use lib.ListN.{take}
use Rattle.heights.specs.Heights.{occurrences}
use Rattle.heights.proofs.occurrences.Given as goal

abbrev pub invariant-loop-height : goal.invariant-loop-height
invariant-loop-height l = l.found ≡ occurrences l.h (take l.height-index l.column)
