-- Demand 2, whole.
use mathlib.Core.Path.{◌≡◌, refl, ap}
use mathlib.Core.Bool.{Bool}
use mathlib.Core.List.{List, map}
use Prim.Native.Nat.{ℕ}
use lib.Dec.{leb}
use lib.ListN.{length}
use borrow.Author.Tests.{leb-true, le-leb}
use Rattle.order.specs.Lists.{keep}
use Rattle.order.proofs.Lists.{keep_mem, mem_keep, distinct_keep}
use Rattle.column.specs.Column.{overwritten}
use Rattle.site.specs.Answer.{answered}
use Rattle.site.specs.Site.{square}
use Rattle.site.specs.SiteList.{Columns, sites}
use Rattle.site.proofs.Answer.{answered_values}
use Rattle.site.proofs.Accepted.{both_accepted}
use Rattle.entry.specs.declared.Entry.{Entry}
use Rattle.entry.specs.Results.{entries_of, holding}
use Rattle.entry.proofs.Results.{entries_holding}
use Rattle.entry.proofs.Below.{written}
use Rattle.sweep.specs.Strip.{whole, all_pairs}
use Rattle.sweep.proofs.Strip.{by_places, whole_ascends, pairs_ascend, whole_pairs_distinct}
use Rattle.pairs.specs.KList.{k_list}
use Rattle.pairs.proofs.KList.{join_k_list}
use Rattle.pairs.specs.DistanceList.{distance_list, distance_refusal, DistanceValues, distance_values, distance_answer}
use Rattle.order.proofs.Sorted.{ascends_keep, ascends_ascending}
use Rattle.site_file.proofs.RoundTrip.{every_output_accepted, every_accepted_is_output}
use Rattle.demands.specs.Demand2.{KClosest, WithinLimit, Demand2}
use Rattle.demands.proofs.KClosest.{k_list_closest, k_list_values_lem}

-- The values of an accepted distance list: its places written into the columns, and its count.
abbrev pub written_values : Columns → Columns → ℕ → List ℕ → List ℕ → DistanceValues
written_values a b e first second =
    let l = distance_list e (sites a) (sites b) in
    distance_values (overwritten (map (λ p. p.first) l) first) (overwritten (map (λ p. p.second) l) second) (length l)

pub distance_values_lem : (a b : Columns) (e : ℕ) (first second : List ℕ) (v : DistanceValues)
    → distance_answer a b e first second ≡ answered v → written_values a b e first second ≡ v
unfolding distance_answer
distance_values_lem a b e first second v accepted = (answered_values (distance_refusal a b e first second) _ v accepted).1

distances_within : (a b : Columns) (e : ℕ) (first second : List ℕ)
    → WithinLimit (sites a) (sites b) e (distance_list e (sites a) (sites b)) (written_values a b e first second)
unfolding distance_list
distances_within a b e first second =
    let all = all_pairs (sites a) (sites b) in
    let test : Entry → Bool = λ p. leb p.distance (square e) in
    let distinct = whole_pairs_distinct (sites a) (sites b) in
    let ascends =
    pairs_ascend (whole (sites a)) (whole (sites b)) (whole_ascends (sites a)) (whole_ascends (sites b)) in
    record {
      exactly = λ p. (
        λ m. let w = keep_mem test all m in (w.0, leb-true p.distance (square e) w.1),
        λ h. mem_keep test all h.0 (le-leb p.distance (square e) h.1),
      );
      once = distinct_keep test all distinct;
      in_order = ascends_ascending by_places (keep test all) (ascends_keep by_places test all ascends);
      count = refl;
      firsts = written (keep test all) (λ p. p.first) first;
      seconds = written (keep test all) (λ p. p.second) second;
    }

pub demand2 : Demand2
demand2 = record {
  k_lists = λ way a b k r v accepted.
      let l = k_list k (sites a) (sites b) in
      let here : entries_of (length l) (holding l r) ≡ l = entries_holding l r in
      let closest : KClosest (sites a) (sites b) k (entries_of (length l) (holding l r)) =
      rw here (k_list_closest (sites a) (sites b) k) in
      rw (← k_list_values_lem way a b k r v accepted) (ap (λ (x : List Entry). length x) here, closest);
  joins = λ way a b k ok. let w = both_accepted a b ok in join_k_list way k a b w.0 w.1;
  distance_lists = λ a b e first second v accepted. (
    distance_list e (sites a) (sites b),
    rw (← distance_values_lem a b e first second v accepted) (distances_within a b e first second),
  );
  files = (every_output_accepted, every_accepted_is_output);
}
