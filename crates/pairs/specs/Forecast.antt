-- The forecast of room: how large a distance list of two whole lists may get.
use Rattle.std.specs.Prelude.{ℕ, List, map, length, nat_le, nat_lt}
use Rattle.order.specs.Lists.{keep}
use Rattle.column.specs.Column.{overwritten}
use Rattle.site.specs.Answer.{Answer, answer_unless, refuse_if, or_else}
use Rattle.site.specs.Site.{Site, gap}
use Rattle.site.specs.SiteList.{Columns, sites}
use Rattle.site.specs.Refusal.{lists_refusal}
use Rattle.sweep.specs.Strip.{product}

-- How many of some numbers are at most `e`.
unfoldable pub count_within : ℕ → List ℕ → ℕ
count_within e l = length (keep (λ d. nat_le d e) l)

-- The x-difference of two sites.
abbrev pub x_gap : Site → Site → ℕ
x_gap s t = gap s.x t.x

-- "the exact number of pairs whose x-difference is at most e"; "the forecast includes co-sited pairs". (02 g)
unfoldable pub forecast_total : ℕ → List Site → List Site → ℕ
forecast_total e a b = count_within e (product x_gap a b)

-- "for every first-list place its own number of such partners"
unfoldable pub forecast_partners : ℕ → List Site → List Site → List ℕ
forecast_partners e a b = map (λ s. count_within e (map (x_gap s) b)) a

-- 1, 2, 3 for each list, then "A column shorter than the list gets 6": than the first.
unfoldable pub forecast_refusal : Columns → Columns → List ℕ → ℕ
forecast_refusal a b column = or_else (lists_refusal a b) (refuse_if (nat_lt (length column) (length (sites a))) 6)

-- The total, and what the column then holds.
pub record ForecastValues : Type 0 where
  pub partners : List ℕ
  pub total : ℕ

abbrev pub forecast_values : List ℕ → ℕ → ForecastValues
forecast_values partners total = record { partners = partners; total = total }

unfoldable pub forecast_answer : Columns → Columns → ℕ → List ℕ → Answer ForecastValues
forecast_answer a b e column =
    answer_unless (forecast_refusal a b column)
    (forecast_values (overwritten (forecast_partners e (sites a) (sites b)) column) (forecast_total e (sites a) (sites b)))
