-- Price bands, beside demand 2: each squared distance has one price, and the entries of a K list can always be priced. (02 b)
use Rattle.std.specs.Prelude.{◌≡◌, List, ℕ, ◌≤◌, length}
use Rattle.site.specs.Answer.{answered}
use Rattle.site.specs.SiteList.{Columns}
use Rattle.entry.specs.Results.{Results}
use Rattle.bands.specs.declared.Band.{Band}
use Rattle.bands.specs.Bands.{bands_refusal}
use Rattle.bands.specs.Calls.{PriceValues, price_answer}
use Rattle.bands.specs.Cover.{EveryDistanceOnce, EveryEntryPriced}
use Rattle.join.specs.declared.Join.{Join}
use Rattle.pairs.specs.KList.{KListValues, k_list_answer}

-- A list in the plane or with heights: no more than one coordinate beside x and y. Each list that is lent is one.
abbrev pub AsLent : Columns → Type 0
AsLent c = length c.further ≤ 1

-- The distance column of an accepted K list, by any of the three ways, is priced by any accepted bands into any column with room
-- for the list's entries: never 6, never 7.
unfoldable pub EntriesArePriced : Type 0
EntriesArePriced =
    (way : Join) (a b : Columns) (k : ℕ) (r : Results) (v : KListValues) → AsLent a → AsLent b
    → k_list_answer way a b k r ≡ answered v
    → (bands : List Band) (prices : List ℕ) → bands_refusal bands ≡ 0 → v.count ≤ length prices
    → (w : PriceValues) × (price_answer bands v.results.distance v.count prices ≡ answered w)

-- What holds of prices, whole.
pub record PricesHold : Type 0 where
  -- Accepted bands cover every squared distance below 2,828,427,125² exactly once.
  pub distances : EveryDistanceOnce
  -- So each entry of a priced case list has exactly one price, and the total is their sum.
  pub priced : EveryEntryPriced
  -- The entries of a K list can be priced.
  pub k_lists : EntriesArePriced
