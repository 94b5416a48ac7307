-- Decimal digits as bytes.
use Rattle.std.specs.Prelude.{List, [], ◌∷◌, map, ℕ, zero, suc, ◌+◌, ◌/◌, ◌%◌, ◌^◌, max, leb}
use Rattle.order.specs.Lists.{keep}

-- The `n` powers of ten below 10 ^ n, the largest first.
unfoldable pub powers_below : ℕ → List ℕ
powers_below zero = []
powers_below (suc n) = 10 ^ n ∷ powers_below n

-- "Decimal digits come from the twenty powers of ten from 1 to 10,000,000,000,000,000,000": 1 and those up to `n`.
unfoldable pub decimal : ℕ → List ℕ
decimal n = map (λ power. 48 + n / power % 10) (keep (λ power. leb power (max n 1)) (powers_below 20))
