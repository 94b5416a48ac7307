-- The distance list of two whole lists.
use Rattle.std.specs.Prelude.{ℕ, min, List, map, length, nat_le, nat_lt}
use Rattle.order.specs.Lists.{keep}
use Rattle.column.specs.Column.{overwritten}
use Rattle.site.specs.Answer.{Answer, answer_unless, refuse_if, or_else}
use Rattle.site.specs.Site.{Site, square}
use Rattle.site.specs.SiteList.{Columns, sites}
use Rattle.site.specs.Refusal.{lists_refusal}
use Rattle.entry.specs.declared.Entry.{Entry}
use Rattle.sweep.specs.Strip.{all_pairs}

-- "All pairs with squared distance at most e², by first place and then second." (01: distance list.)
unfoldable pub distance_list : ℕ → List Site → List Site → List Entry
distance_list e a b = keep (λ p. nat_le p.distance (square e)) (all_pairs a b)

-- 1, 2, 3 for each list, then "6: a distance list with more pairs than its shorter column".
unfoldable pub distance_refusal : Columns → Columns → ℕ → List ℕ → List ℕ → ℕ
distance_refusal a b e first second =
    let count = length (distance_list e (sites a) (sites b)) in
    or_else (lists_refusal a b) (refuse_if (nat_lt (min (length first) (length second)) count) 6)

-- "Its count is the exact number of pairs"; and what the two columns then hold.
pub record DistanceValues : Type 0 where
  pub first : List ℕ
  pub second : List ℕ
  pub count : ℕ

abbrev pub distance_values : List ℕ → List ℕ → ℕ → DistanceValues
distance_values first second count = record { first = first; second = second; count = count }

unfoldable pub distance_answer : Columns → Columns → ℕ → List ℕ → List ℕ → Answer DistanceValues
distance_answer a b e f s =
    let l = distance_list e (sites a) (sites b) in
    answer_unless (distance_refusal a b e f s)
    (distance_values (overwritten (map (λ p. p.first) l) f) (overwritten (map (λ p. p.second) l) s) (length l))
