-- The K list of two whole lists.
use Rattle.std.specs.Prelude.{ℕ, not, List, [], length}
use Rattle.site.specs.Answer.{Answer, answer_unless, refuse_if, or_else}
use Rattle.site.specs.Site.{Site}
use Rattle.site.specs.SiteList.{Columns, sites}
use Rattle.site.specs.Refusal.{lists_refusal}
use Rattle.entry.specs.declared.Entry.{Entry}
use Rattle.entry.specs.Entry.{lawful_k, best_k}
use Rattle.entry.specs.Results.{Results, holding, room_for}
use Rattle.sweep.specs.Strip.{whole, all_pairs}
use Rattle.join.specs.declared.Join.{Join}
use Rattle.join.specs.Join.{Counts, counts_of, join}
use Rattle.pairs.specs.declared.Listed.{Listed}

-- "The first K pairs by rank, or all" where there are fewer. (01: K list.)
unfoldable pub k_list : ℕ → List Site → List Site → List Entry
k_list k a b = best_k k (all_pairs a b)

-- 1, 2, 3 for each list, then "4: K is 0 or above 4,096", then "6: a whole K list with a result column shorter than K".
unfoldable pub k_list_refusal : Columns → Columns → ℕ → Results → ℕ
k_list_refusal a b k r =
    or_else (lists_refusal a b) (or_else (refuse_if (not (lawful_k k)) 4) (refuse_if (not (room_for k r)) 6))

-- "a K list, the entry count, looks and distances", the join's own, with range pairs for these by halves; and what the
-- result columns then hold. (01, 02 k.)
pub record KListValues : Type 0 where
  pub results : Results
  pub count : ℕ
  pub counts : Counts

abbrev pub k_list_values : Results → ℕ → Counts → KListValues
k_list_values r count counts = record { results = r; count = count; counts = counts }

unfoldable pub k_list_answer : Join → Columns → Columns → ℕ → Results → Answer KListValues
k_list_answer way a b k r =
    let l = k_list k (sites a) (sites b) in
    let joined = join way k (whole (sites a)) (whole (sites b)) [] in
    answer_unless (k_list_refusal a b k r) (k_list_values (holding l r) (length l) joined.counts)

-- The values that the struct of the code stands for, with the result columns at exit.
abbrev pub listed : Results → Listed → KListValues
listed r told = k_list_values r told.count (counts_of told.counters)
