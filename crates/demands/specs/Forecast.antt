-- The forecast of room, beside demand 2: what it tells of each distance list of the same two lists with the same e. (02 g)
use Rattle.std.specs.Prelude.{◌≡◌, List, ℕ, ◌≤◌, eqb, length, take, get_or}
use Rattle.order.specs.Lists.{keep, sum}
use Rattle.site.specs.Answer.{answered}
use Rattle.site.specs.SiteList.{Columns, sites}
use Rattle.pairs.specs.DistanceList.{DistanceValues, distance_answer}
use Rattle.pairs.specs.Forecast.{ForecastValues, forecast_answer}

-- The numbers that a forecast leaves in its column, one for each place of the first list.
abbrev pub place_numbers : Columns → ForecastValues → List ℕ
place_numbers a v = take (length (sites a)) v.partners

-- What the values of a forecast tell.
pub record ForecastBounds (a b : Columns) (e : ℕ) (v : ForecastValues) : Type 0 where
  -- The numbers of the first list's places make up the total.
  pub sums : v.total ≡ sum (place_numbers a v)
  -- "A distance list with that e never has more pairs than the forecast, in total or for a place":
  pub in_total :
      (first second : List ℕ) (w : DistanceValues) → distance_answer a b e first second ≡ answered w → w.count ≤ v.total
  -- a place stands in the first column no more often than it has partners, and one past the first list never.
  pub for_place :
      (first second : List ℕ) (w : DistanceValues) → distance_answer a b e first second ≡ answered w → (place : ℕ)
      → length (keep (λ p. eqb p place) (take w.count w.first)) ≤ get_or (place_numbers a v) place 0
  -- "Distance columns as long as the total never get 6", nor any other refusal.
  pub room :
      (first second : List ℕ) → v.total ≤ length first → v.total ≤ length second
      → (w : DistanceValues) × (distance_answer a b e first second ≡ answered w)

-- Every accepted forecast does.
unfoldable pub ForecastsHold : Type 0
ForecastsHold =
    (a b : Columns) (e : ℕ) (column : List ℕ) (v : ForecastValues) → forecast_answer a b e column ≡ answered v
    → ForecastBounds a b e v
