-- `bands::judging::gather` meets its contract. The invariant: the bands passed are taken, and as many are to be taken as at first.
use Rattle.std.proofs.Common.{◌≡◌}
use Rattle.bands.specs.Internal.{tariff_of}
use Rattle.bands.proofs.Gathered.{gathered_to}
use Rattle.bands.proofs.judging.gather.Given as goal

abbrev pub invariant-loop-i : goal.invariant-loop-i
invariant-loop-i l = tariff_of l.t ≡ gathered_to l.bands l.i
