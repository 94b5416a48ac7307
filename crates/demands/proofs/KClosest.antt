-- The K list holds the K closest pairs, and no other choice is better at any place. What an accepted K list answers.
use mathlib.Core.Path.{◌≡◌, ap, ◌∙◌}
use mathlib.Core.Bool.{true}
use mathlib.Core.List.{List, [], map, Memᴰ}
use Prim.Native.Nat.{ℕ, ◌≤◌}
use lib.Dec.{ltb}
use lib.ListN.{length}
use borrow.Author.Tests.{ltb-true, ltb-false}
use Rattle.order.specs.Sort.{sort}
use Rattle.order.proofs.Best.{best, length_best}
use Rattle.order.proofs.Order.{by_test, never_both}
use Rattle.order.proofs.Lists.{all_mem}
use Rattle.order.proofs.Sorted.{mem_best, distinct_best, sorted_best, sort_sorted, ascends_best, ascends_ascending}
use Rattle.order.proofs.Choice.{sort_weights, no_equal_choice_better, best_none_better}
use Rattle.site.specs.Site.{Site}
use Rattle.site.specs.Answer.{answered}
use Rattle.site.specs.SiteList.{Columns, sites}
use Rattle.site.proofs.Answer.{answered_values}
use Rattle.entry.specs.declared.Entry.{Entry}
use Rattle.entry.specs.Entry.{rank_before, best_k}
use Rattle.entry.specs.Results.{Results, holding}
use Rattle.entry.proofs.Rank.{rank_order, rank_farther}
use Rattle.sweep.specs.Strip.{whole, all_pairs}
use Rattle.sweep.proofs.Strip.{whole_pairs_distinct}
use Rattle.join.specs.declared.Join.{Join}
use Rattle.join.specs.Join.{join}
use Rattle.pairs.specs.KList.{k_list, k_list_refusal, KListValues, k_list_values, k_list_answer}
use Rattle.demands.specs.Demand3.{NoChoiceBetter}
use Rattle.demands.specs.Demand2.{KClosest}

-- By rank the distance does not fall.
pub rank_grows : (e f : Entry) → rank_before e f ≡ true → e.distance ≤ f.distance
rank_grows e f h =
    by_test (ltb f.distance e.distance)
    (λ t. never_both h (rank_farther e f (ltb-true f.distance e.distance t)))
    (λ t. ltb-false f.distance e.distance t)

module _ (a b : List Site) (k : ℕ) where
  -- The distances of the best K are in ascending order already.
  best_distances : sort ltb (map (λ e. e.distance) (k_list k a b)) ≡ map (λ e. e.distance) (k_list k a b)
  unfolding k_list best_k
  best_distances =
      let l = best rank_before k (all_pairs a b) in
      sort_weights rank_order (λ e. e.distance) rank_grows l
      ∙ ap (map (λ e. e.distance)) (sort_sorted rank_order l (sorted_best rank_order k (all_pairs a b)))

  pub k_list_none_better : NoChoiceBetter a b (k_list k a b)
  unfolding NoChoiceBetter k_list best_k
  k_list_none_better choice d among n i h =
      let distinct = whole_pairs_distinct a b in
      rw best_distances
      (no_equal_choice_better rank_order (λ e. e.distance) rank_grows k (all_pairs a b) choice distinct d among n i h)

  k_list_before : (e h : Entry) → Memᴰ e (all_pairs a b) → (Memᴰ e (k_list k a b) → ⊥)
      → Memᴰ h (k_list k a b) → rank_before h e ≡ true
  unfolding k_list best_k
  k_list_before e h m out n =
      let all = (best_none_better rank_order k (all_pairs a b) (whole_pairs_distinct a b) e m out).0 in
      all_mem (λ x. rank_before x e ≡ true) all n

  pub k_list_closest : KClosest a b k (k_list k a b)
  unfolding k_list best_k
  k_list_closest = record {
    size = length_best rank_before k (all_pairs a b);
    different = distinct_best rank_before k (all_pairs a b) (whole_pairs_distinct a b);
    among = λ e m. mem_best rank_before k (all_pairs a b) m;
    ranked = ascends_ascending rank_before (best rank_before k (all_pairs a b))
        (ascends_best rank_order k (all_pairs a b) (whole_pairs_distinct a b));
    closest = λ e h m out n. let t = k_list_before e h m out n in (t, rank_grows h e t);
    none_better = k_list_none_better;
  }

-- The values of an accepted K list.
pub k_list_values_lem : (way : Join) (a b : Columns) (k : ℕ) (r : Results) (v : KListValues)
    → k_list_answer way a b k r ≡ answered v
    → (let l = k_list k (sites a) (sites b) in
    let joined = join way k (whole (sites a)) (whole (sites b)) [] in
    k_list_values (holding l r) (length l) joined.counts ≡ v)
unfolding k_list_answer
k_list_values_lem way a b k r v accepted = (answered_values (k_list_refusal a b k r) _ v accepted).1
