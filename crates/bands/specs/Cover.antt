-- That accepted bands cover every squared distance exactly once, and what a priced case list then holds. (02 b)
use Rattle.std.specs.Prelude.{◌≡◌, List, [], ◌∷◌, ℕ, ◌<◌, get_or, take, drop}
use Rattle.order.specs.Lists.{keep, sum}
use Rattle.site.specs.Answer.{answered}
use Rattle.site.specs.Site.{square}
use Rattle.bands.specs.declared.Band.{Band}
use Rattle.bands.specs.Bands.{holds, last_to, bands_refusal, price_of}
use Rattle.bands.specs.Calls.{PriceValues, price_answer}

-- Exactly one of the bands holds the squared distance, and it gives the price.
pub record OneBand (bands : List Band) (d : ℕ) : Type 0 where
  pub band : Band
  pub alone : keep (λ b. holds b d) bands ≡ band ∷ []
  pub price : price_of bands d ≡ band.price

-- Accepted bands cover every squared distance below 2,828,427,125² exactly once.
unfoldable pub EveryDistanceOnce : Type 0
EveryDistanceOnce = (bands : List Band) (d : ℕ) → bands_refusal bands ≡ 0 → d < square last_to → OneBand bands d

-- A case list that was priced: each entry is in exactly one band and has its price, the total is the sum of the prices, and
-- the column past the count is as before.
pub record Prices (bands : List Band) (distance : List ℕ) (count : ℕ) (before : List ℕ) (v : PriceValues) : Type 0 where
  pub each :
      (i : ℕ) → i < count
      → (one : OneBand bands (get_or distance i 0)) × (get_or v.prices i 0 ≡ one.band.price)
  pub total : v.total ≡ sum (take count v.prices)
  pub rest : drop count v.prices ≡ drop count before

unfoldable pub EveryEntryPriced : Type 0
EveryEntryPriced =
    (bands : List Band) (distance : List ℕ) (count : ℕ) (prices : List ℕ) (v : PriceValues)
    → price_answer bands distance count prices ≡ answered v → Prices bands distance count prices v
