-- `bands::write_prices` meets its contract. The invariant: the prices of the distances passed are written and summed, and
-- while one is left, `at` is a band's place.
use Rattle.std.proofs.Common.{◌<◌, length}
use Rattle.bands.specs.Internal.{price_at}
use Rattle.column.proofs.Filled.{Filled}
use Rattle.bands.proofs.pricing.write_prices.Given as goal

abbrev pub invariant-loop-i : goal.invariant-loop-i
invariant-loop-i l =
    (l.i < length l.distance → l.at < 64)
    × (Filled (price_at l.ends l.rates) 1_000_000 l.distance l.initial.prices l.i l.prices l.total)
