-- What a forecast tells of distance lists.
use mathlib.Core.Path.{◌≡◌, refl, sym, ap, ◌∙◌}
use mathlib.Core.List.{List, map}
use Prim.Native.Nat.{ℕ, min, ◌≤◌}
use native.Mathlib.Omega.{arith}
use borrow.Author.Tests.{le-ltb}
use lib.Dec.{eqb}
use lib.ListN.{length, take, get_or, length-map}
use Rattle.order.specs.Lists.{keep, sum}
use Rattle.order.proofs.Lists.{length_keep_map}
use Rattle.column.specs.Column.{overwritten}
use Rattle.column.proofs.Overwritten.{take_overwritten}
use Rattle.site.specs.Answer.{answered}
use Rattle.site.specs.SiteList.{Columns, sites}
use Rattle.site.specs.Refusal.{lists_refusal}
use Rattle.site.proofs.Answer.{answer_values, answered_values, next_decides, or_else_first}
use Rattle.entry.specs.declared.Entry.{Entry}
use Rattle.entry.proofs.Below.{written}
use Rattle.pairs.specs.DistanceList.{distance_list, distance_refusal, distance_answer}
use Rattle.pairs.specs.Forecast.{
  count_within,
  x_gap,
  forecast_total,
  forecast_partners,
  forecast_refusal,
  ForecastValues,
  forecast_values,
  forecast_answer,
}
use Rattle.pairs.proofs.ForecastAnswer.{total_sums}
use Rattle.pairs.proofs.ForecastBound.{no_more, no_more_for}
use Rattle.demands.specs.Forecast.{place_numbers, ForecastBounds, ForecastsHold}
use Rattle.demands.proofs.Demand2.{written_values, distance_values_lem}

module _ (a b : Columns) (e : ℕ) (column : List ℕ) where
  abbrev partners : List ℕ
  partners = forecast_partners e (sites a) (sites b)

  -- The values of an accepted forecast.
  abbrev values : ForecastValues
  values = forecast_values (overwritten partners column) (forecast_total e (sites a) (sites b))

  accepted_values : (v : ForecastValues) → forecast_answer a b e column ≡ answered v → (lists_refusal a b ≡ 0) × (values ≡ v)
  unfolding forecast_answer forecast_refusal
  accepted_values v accepted =
      let w = answered_values (forecast_refusal a b column) values v accepted in
      (or_else_first _ _ w.0, w.1)

  partners_length : length partners ≡ length (sites a)
  unfolding forecast_partners
  partners_length = length-map (sites a) (λ s. count_within e (map (x_gap s) (sites b)))

  -- The column starts with the places' numbers.
  numbers_are : place_numbers a values ≡ partners
  numbers_are = rw partners_length at (take_overwritten partners column)

  place_bound : (first second : List ℕ) (place : ℕ)
      → let w = written_values a b e first second in
      length (keep (λ p. eqb p place) (take w.count w.first)) ≤ get_or (place_numbers a values) place 0
  place_bound first second place =
      let l = distance_list e (sites a) (sites b) in
      rw (numbers_are, written l (λ p. p.first) first, length_keep_map (λ p. eqb p place) (λ (p : Entry). p.first) l)
      (no_more_for e (sites a) (sites b) place)

  module _ (ok : lists_refusal a b ≡ 0) where
    enough : (first second : List ℕ) → values.total ≤ length first → values.total ≤ length second
        → distance_answer a b e first second ≡ answered (written_values a b e first second)
    unfolding distance_answer distance_refusal
    enough first second f s =
        let few = no_more e (sites a) (sites b) in
        let room = le-ltb (min (length first) (length second)) (length (distance_list e (sites a) (sites b))) (omega arith) in
        sym (answer_values (sym (next_decides {q = lists_refusal a b} refl ok (rw room))))

    bounds : ForecastBounds a b e values
    bounds =
        record {
          sums = total_sums e (sites a) (sites b) ∙ ap sum (sym numbers_are);
          in_total = λ first second w accepted.
              rw (← distance_values_lem a b e first second w accepted) (no_more e (sites a) (sites b));
          for_place = λ first second w accepted place.
              rw (← distance_values_lem a b e first second w accepted) (place_bound first second place);
          room = λ first second f s. (written_values a b e first second, enough first second f s);
        }

pub forecasts_hold : ForecastsHold
unfolding ForecastsHold
forecasts_hold a b e column v accepted =
    let w = accepted_values a b e column v accepted in rw (← w.1) (bounds a b e column w.0)
