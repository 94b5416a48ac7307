-- `bands::search` meets its contract. The invariant: the band is among the `size` places from `low` on.
use Rattle.std.proofs.Common.{◌≤◌, ◌<◌, ◌+◌}
use Rattle.bands.specs.Internal.{band_at}
use Rattle.bands.proofs.pricing.search.Given as goal

abbrev pub invariant-loop-size : goal.invariant-loop-size
invariant-loop-size l =
    (l.low ≤ band_at l.ends l.d) × (band_at l.ends l.d < l.low + l.size) × (l.low + l.size ≤ 64)

abbrev pub decreases-loop-size : goal.decreases-loop-size
decreases-loop-size l = l.size
