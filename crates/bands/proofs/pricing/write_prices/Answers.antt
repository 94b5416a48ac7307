-- `bands::write_prices` meets its contract.
use native.Mathlib.Omega.{arith}
use Rattle.bands.specs.Internal.{Covered}
use Rattle.column.proofs.Filled.{filled_none, filled_more}
use Rattle.bands.proofs.PriceRead.{covered_at, price_read}
use Rattle.bands.proofs.pricing.write_prices.Goals as goal

pub loop-i-init : goal.loop-i-init
unfolding Covered
loop-i-init c = (λ h. omega (arith, covered_at c.requires 0 h), filled_none)

pub band_at-at-requires : goal.band_at-at-requires
band_at-at-requires c =
    let p = c.requires in
    let h = c.loop-i-test.true in
    (p.tiers.rising, covered_at p _ h, c.loop-i.invariant.0 h)

pub offset_bounds-rates-at : goal.offset_bounds-rates-at
offset_bounds-rates-at c =
    let r = price_read c.requires _ c.loop-i-test.true c.band_at-at.ensures in
    omega (arith, r.within)

pub bounds-rates-at : goal.bounds-rates-at
bounds-rates-at c = (price_read c.requires _ c.loop-i-test.true c.band_at-at.ensures).within

pub loop-i-preserved : goal.loop-i-preserved
loop-i-preserved c =
    let r = price_read c.requires _ c.loop-i-test.true c.band_at-at.ensures in
    (λ h. r.inside, filled_more 0 c.loop-i-test.true c.requires.room r.price r.lawful c.loop-i.invariant.1)
