-- Terms that only this crate's functions cite: a tariff, the table of bands by value.
use Rattle.std.specs.Prelude.{◌≡◌, not, cond, List, [], ◌∷◌, ℕ, suc, ◌+◌, ◌≤◌, ◌<◌, leb, ltb, eqb, length, get_or, take, set, replicate}
use Rattle.order.specs.Lists.{keep, All}
use Rattle.order.specs.Terms.{Sorted}
use Rattle.site.specs.Answer.{refuse_if, or_else, refusal_of}
use Rattle.site.specs.Site.{square}
use Rattle.bands.specs.declared.Band.{Band}
use Rattle.bands.specs.declared.Tariff as told
use Rattle.bands.specs.Bands.{last_to, lawful_number, lawful_price, band_refusal}

-- A tariff, with its refusal's number, 0 for none.
pub record Tariff : Type 0 where
  pub bands : ℕ
  pub refusal : ℕ
  pub to : ℕ
  pub ends : List ℕ
  pub prices : List ℕ

-- The one that the struct of the code stands for.
abbrev pub tariff_of : told.Tariff → Tariff
tariff_of t =
    record { bands = t.bands; refusal = refusal_of t.refusal; to = t.to; ends = t.ends; prices = t.prices }

-- A tariff of so many bands with none taken, and with one more taken.
unfoldable pub begun : ℕ → Tariff
begun count = record {
  bands = cond (lawful_number count) count 0;
  refusal = refuse_if (not (lawful_number count)) 14;
  to = 0;
  ends = replicate 64 (square last_to);
  prices = replicate 64 0;
}

unfoldable pub taken : Tariff → ℕ → Band → Tariff
taken t i band = record {
  bands = t.bands;
  refusal =
      cond (lawful_price band) (or_else t.refusal (band_refusal t.to (eqb (i + 1) t.bands) band)) 14;
  to = band.to;
  ends = set t.ends i (square band.to);
  prices = set t.prices i band.price;
}

-- With all of some bands taken, from place `i` on.
unfoldable pub taken_from : Tariff → ℕ → List Band → Tariff
taken_from t i [] = t
taken_from t i (band ∷ rest) = taken_from (taken t i band) (suc i) rest

-- The tariff of a table: none of its bands is taken where their number is wrong.
unfoldable pub gathered : List Band → Tariff
gathered bands =
    let t = begun (length bands) in
    taken_from t 0 (take t.bands bands)

-- Which of some ascending ends is the first above a squared distance: how many are not above it.
unfoldable pub band_at : List ℕ → ℕ → ℕ
band_at ends d = length (keep (λ e. leb e d) ends)

-- The price of a squared distance by the ends and prices of bands.
unfoldable pub price_at : List ℕ → List ℕ → ℕ → ℕ
price_at ends prices d = get_or prices (band_at ends d) 0

-- 64 ends in order.
pub record Rising (ends : List ℕ) : Type 0 where
  pub sorted : Sorted ltb ends
  pub long : length ends ≡ 64

-- And as many prices, none too high.
pub record Tiers (ends prices : List ℕ) : Type 0 where
  pub rising : Rising ends
  pub long : length prices ≡ 64
  pub lawful : All (λ p. p ≤ 1_000_000) prices

-- A squared distance is below the last end.
unfoldable pub Covered : List ℕ → ℕ → Type 0
Covered ends d = band_at ends d < 64

-- What is asked of a tariff: one that is not refused has such ends and prices, and covers every squared distance.
pub record Priceable (t : Tariff) : Type 0 where
  pub tiers : t.refusal ≡ 0 → Tiers t.ends t.prices
  pub covers : t.refusal ≡ 0 → (d : ℕ) → d < square last_to → Covered t.ends d

-- What pricing asks of ends, prices, distances and a column.
pub record Chargeable (ends prices distance column : List ℕ) : Type 0 where
  pub tiers : Tiers ends prices
  pub covered : All (Covered ends) distance
  pub few : length distance ≤ 4_096
  pub room : length distance ≤ length column
