-- The price that is read at the place of a distance's band.
use mathlib.Core.Path.{◌≡◌}
use mathlib.Core.List.{List}
use Prim.Native.Nat.{ℕ, ◌≤◌, ◌<◌}
use native.Mathlib.Omega.{arith}
use lib.ListN.{length, get_or}
use Rattle.order.proofs.Lists.{all_at}
use Rattle.bands.specs.Internal.{band_at, price_at, Covered, Chargeable}

-- It is inside, and the price is the distance's own, and lawful.
pub record Read (ends rates : List ℕ) (d b : ℕ) : Type 0 where
  pub inside : b < 64
  pub within : b < length rates
  pub price : get_or rates b 0 ≡ price_at ends rates d
  pub lawful : get_or rates b 0 ≤ 1_000_000

module _ {ends rates distance column : List ℕ} (c : Chargeable ends rates distance column) (i : ℕ) (h : i < length distance) where
  -- Each distance has a band.
  pub covered_at : Covered ends (get_or distance i 0)
  covered_at = all_at (Covered ends) distance i 0 h c.covered

  -- So its price can be read there.
  pub price_read : {b : ℕ} → b ≡ band_at ends (get_or distance i 0) → Read ends rates (get_or distance i 0) b
  unfolding Covered price_at
  price_read {b} e =
      let within : b < length rates = omega (arith, covered_at, c.tiers.long) in
      record {
        inside = omega (arith, covered_at);
        within = within;
        price = rw e;
        lawful = all_at (λ p. p ≤ 1_000_000) rates b 0 within c.tiers.lawful;
      }
