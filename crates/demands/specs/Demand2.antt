-- Demand 2: the K list, the distance list and the site file.
use Rattle.std.specs.Prelude.{◌≡◌, true, ◌↔◌, ℕ, ◌≤◌, min, ltb, length, take}
use mathlib.Core.List.{List, [], map, Memᴰ}
use Rattle.order.specs.Order.{on, lex, ascending}
use Rattle.order.specs.Lists.{Distinct}
use Rattle.site.specs.Answer.{answered}
use Rattle.site.specs.Site.{Site, square}
use Rattle.site.specs.SiteList.{Columns, sites}
use Rattle.site.specs.Refusal.{lists_refusal}
use Rattle.entry.specs.declared.Entry.{Entry}
use Rattle.entry.specs.Entry.{rank_before}
use Rattle.entry.specs.Results.{Results, entries_of}
use Rattle.sweep.specs.Strip.{whole, all_pairs}
use Rattle.join.specs.declared.Join.{Join}
use Rattle.join.specs.Join.{join}
use Rattle.pairs.specs.KList.{k_list, KListValues, k_list_answer}
use Rattle.pairs.specs.DistanceList.{DistanceValues, distance_answer}
use Rattle.site_file.specs.RoundTrip.{EveryOutputAccepted, EveryAcceptedIsOutput}
use Rattle.demands.specs.Demand3.{NoChoiceBetter}

-- Definition 1 of document 000, with 01's "or" and its tie rule: each of the pairs before every pair left out.
pub record KClosest (a b : List Site) (k : ℕ) (l : List Entry) : Type 0 where
  pub size : length l ≡ min k (length (all_pairs a b))
  pub different : Distinct l
  pub among : (e : Entry) → Memᴰ e l → Memᴰ e (all_pairs a b)
  pub ranked : ascending rank_before l ≡ true
  pub closest :
      (e h : Entry) → Memᴰ e (all_pairs a b) → (Memᴰ e l → ⊥) → Memᴰ h l
      → (rank_before h e ≡ true) × (h.distance ≤ e.distance)
  pub none_better : NoChoiceBetter a b l

-- Definition 2 of document 000 from 0 to e: "exactly the pairs within the limit", in the answer's two columns.
pub record WithinLimit (a b : List Site) (e : ℕ) (l : List Entry) (v : DistanceValues) : Type 0 where
  pub exactly : (p : Entry) → Memᴰ p l ↔ (Memᴰ p (all_pairs a b) × (p.distance ≤ square e))
  pub once : Distinct l
  pub in_order : ascending (lex (on ltb (λ p. p.first)) (on ltb (λ p. p.second))) l ≡ true
  pub count : v.count ≡ length l
  pub firsts : take v.count v.first ≡ map (λ p. p.first) l
  pub seconds : take v.count v.second ≡ map (λ p. p.second) l

-- Demand 2, whole.
pub record Demand2 : Type 0 where
  -- An accepted K list, by any of the three ways: its entries, as many as it answers, are the K closest pairs.
  pub k_lists :
      (way : Join) (a b : Columns) (k : ℕ) (r : Results) (v : KListValues) → k_list_answer way a b k r ≡ answered v
      → (length (entries_of v.count v.results) ≡ v.count)
      × KClosest (sites a) (sites b) k (entries_of v.count v.results)
  -- Each of the three ways finds the K list.
  pub joins :
      (way : Join) (a b : Columns) (k : ℕ) → lists_refusal a b ≡ 0
      → (join way k (whole (sites a)) (whole (sites b)) []).entries ≡ k_list k (sites a) (sites b)
  -- An accepted distance list: the pairs in its columns are those within the limit.
  pub distance_lists :
      (a b : Columns) (e : ℕ) (first second : List ℕ) (v : DistanceValues)
      → distance_answer a b e first second ≡ answered v
      → (l : List Entry) × WithinLimit (sites a) (sites b) e l v
  -- The reader accepts exactly what the writer can write, and yields the same two lists.
  pub files : EveryOutputAccepted × EveryAcceptedIsOutput
