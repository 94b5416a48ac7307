-- What is found are the equal pairs of what was passed.
use mathlib.Core.Path.{◌≡◌}
use lib.ListN.{take}
use Rattle.heights.specs.Heights.{equal_pairs}
use Rattle.heights.proofs.few_equal.Given as goal

abbrev pub invariant-loop-height : goal.invariant-loop-height
invariant-loop-height l = l.found ≡ equal_pairs (take l.height-index l.a) l.b
