-- Every height 0: the K list, the distance list and the forecast.
use mathlib.Core.Path.{◌≡◌, refl, sym, ap₂, ◌∙◌}
use mathlib.Core.List.{List, [], map}
use Prim.Native.Nat.{ℕ}
use lib.ListN.{length-map}
use Rattle.site.specs.Site.{Site}
use Rattle.site.specs.SiteList.{Columns, Plane, on_ground, sites}
use Rattle.site.proofs.Ground.{ground, ground_sites, ground_distance, ground_lists}
use Rattle.entry.specs.declared.Entry.{Entry}
use Rattle.entry.specs.Results.{Results}
use Rattle.boxes.proofs.Ground.{ground_gap}
use Rattle.sweep.specs.Strip.{Placed, whole, pairs, all_pairs}
use Rattle.sweep.proofs.Alike.{each, whole_each, pairs_alike}
use Rattle.join.specs.declared.Join.{Join}
use Rattle.join.specs.Join.{join}
use Rattle.join.proofs.Alike.{join_alike}
use Rattle.pairs.specs.KList.{k_list, k_list_refusal, k_list_answer}
use Rattle.pairs.specs.DistanceList.{distance_list, distance_refusal, distance_answer}
use Rattle.pairs.specs.Forecast.{forecast_refusal, forecast_answer}
use Rattle.pairs.proofs.ForecastAnswer.{partners_alike, total_alike}

-- ---- any sites

-- The sites with the height 0 are joined as those they were, and pair up as they did.
pub ground_join : (way : Join) (k : ℕ) (p q : List Placed) (l : List Entry)
    → join way k (map (each ground) p) (map (each ground) q) l ≡ join way k p q l
ground_join = join_alike ground (λ s. refl) ground_gap ground_distance

pub ground_pairs : (p q : List Placed) → pairs (map (each ground) p) (map (each ground) q) ≡ pairs p q
ground_pairs p q = sym (pairs_alike ground (λ s. refl) (λ s t. sym (ground_distance s t)) p q)

-- Whole lists of them.
all_ground : (a b : List Site) → all_pairs (map ground a) (map ground b) ≡ all_pairs a b
all_ground a b = ap₂ pairs (whole_each ground a) (whole_each ground b) ∙ ground_pairs (whole a) (whole b)

whole_ground : (way : Join) (k : ℕ) (a b : List Site) → join way k (whole (map ground a)) (whole (map ground b)) [] ≡ join way k (whole a) (whole b) []
whole_ground way k a b =
    ap₂ (λ (p q : List Placed). join way k p q []) (whole_each ground a) (whole_each ground b) ∙ ground_join way k (whole a) (whole b) []

-- ---- lists of the plane

module _ (a b : Columns) (pa : Plane a) (pb : Plane b) where
  pub pairs_same : all_pairs (sites (on_ground a)) (sites (on_ground b)) ≡ all_pairs (sites a) (sites b)
  pairs_same = rw (ground_sites a pa, ground_sites b pb) (all_ground (sites a) (sites b))

  join_same : (way : Join) (k : ℕ)
      → join way k (whole (sites (on_ground a))) (whole (sites (on_ground b))) [] ≡ join way k (whole (sites a)) (whole (sites b)) []
  join_same way k = rw (ground_sites a pa, ground_sites b pb) (whole_ground way k (sites a) (sites b))

  pub k_list_same : (way : Join) (k : ℕ) (r : Results) → k_list_answer way (on_ground a) (on_ground b) k r ≡ k_list_answer way a b k r
  unfolding k_list_answer k_list_refusal k_list
  k_list_same way k r = rw (ground_lists a b pa pb, pairs_same, join_same way k)

  pub distance_list_same : (e : ℕ) (first second : List ℕ)
      → distance_answer (on_ground a) (on_ground b) e first second ≡ distance_answer a b e first second
  unfolding distance_answer distance_refusal distance_list
  distance_list_same e first second = rw (ground_lists a b pa pb, pairs_same)

  pub forecast_same : (e : ℕ) (column : List ℕ) → forecast_answer (on_ground a) (on_ground b) e column ≡ forecast_answer a b e column
  unfolding forecast_answer forecast_refusal
  forecast_same e column =
      let l = sites a in
      let m = sites b in
      rw (
        ground_lists a b pa pb,
        ground_sites a pa,
        ground_sites b pb,
        length-map l ground,
        partners_alike e ground (λ s. refl) l m,
        total_alike e ground (λ s. refl) l m,
      )
