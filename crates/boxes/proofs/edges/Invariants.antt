-- What is found, widened by what is left, is the column's edges.
use mathlib.Core.Path.{◌≡◌}
use lib.ListN.{drop}
use Rattle.boxes.specs.Box.{edges}
use Rattle.boxes.proofs.Widened.{widened}
use Rattle.boxes.proofs.edges.Given as goal

abbrev pub invariant-loop-c : goal.invariant-loop-c
invariant-loop-c l = widened l.least l.greatest (drop l.c-index l.rest) ≡ edges l.column
