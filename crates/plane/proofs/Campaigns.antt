-- Every height 0: preparing, opening, a smaller K, jobs, several in one call, and status.
use mathlib.Core.Path.{◌≡◌, refl, ap, ap₂, ◌∙◌}
use mathlib.Core.Bool.{◌&&◌}
use mathlib.Core.List.{List, [], ◌∷◌, map, flat_map}
use Prim.Native.Nat.{ℕ}
use lib.Dec.{ltb, eqb}
use lib.ListN.{length-map}
use Rattle.site.specs.Site.{Site}
use Rattle.site.specs.SiteList.{Columns, Plane, on_ground, sites}
use Rattle.site.proofs.Ground.{ground, ground_sites, ground_at, ground_distance, ground_lists}
use Rattle.entry.specs.declared.Entry.{Entry}
use Rattle.entry.specs.Entry.{apart}
use Rattle.entry.specs.Results.{Results, entries_of}
use Rattle.boxes.proofs.Ground.{ground_gap}
use Rattle.sweep.specs.Strip.{Placed, pairs}
use Rattle.sweep.proofs.Alike.{each, strip_each}
use Rattle.halves.specs.Gap.{squared_strip_gap}
use Rattle.halves.proofs.Alike.{gap_alike}
use Rattle.join.specs.declared.Join.{Join}
use Rattle.join.specs.Join.{join}
use Rattle.customers.specs.declared.Campaign.{Campaign}
use Rattle.customers.specs.declared.Grid.{Grid}
use Rattle.customers.specs.Customers.{campaign_as}
use Rattle.campaign.specs.Grid.{Job, job_of, strip_at, strip_holding, settled, settled_jobs, job_pairs, jobs_pairs}
use Rattle.campaign.specs.Soundness.{first_ends, second_ends, sound_entry, sound, caller_refusal, keeper_refusal, campaign_refusal}
use Rattle.campaign.specs.Calls.{lawful_cuts, prepare_refusal, prepare_answer, open_refusal, open_answer, lower_refusal, lower_answer, job_refusal, skips, job_entries, accepted_job, job_answer, status_answer}
use Rattle.batch.specs.Batch.{Batch, Row, rows_of, way_of, batch_refusal, BatchValues, no_job, with_job_done, accepted_rows, batch_answer}
use Rattle.plane.proofs.PairLists.{ground_join, ground_pairs}

-- ---- strips of any sites

module _ (a b : List Site) where
  -- A strip of the sites with the height 0.
  ground_strip : (ends : List ℕ) (l : List Site) (s : ℕ) → strip_at ends (map ground l) s ≡ map (each ground) (strip_at ends l s)
  unfolding strip_at
  ground_strip ends l s = strip_each ground _ _ l

  -- The pairs of jobs.
  job_pairs_same : (ends ends' : List ℕ) → job_pairs ends ends' (map ground a) (map ground b) ≡ job_pairs ends ends' a b
  unfolding job_pairs
  job_pairs_same ends ends' = λ i j.
      (ap₂ pairs (ground_strip ends a j.first) (ground_strip ends' b j.second)
      ∙ ground_pairs (strip_at ends a j.first) (strip_at ends' b j.second)) i

  jobs_pairs_same : (ends ends' : List ℕ) (l : List Job) → jobs_pairs ends ends' (map ground a) (map ground b) l ≡ jobs_pairs ends ends' a b l
  unfolding jobs_pairs
  jobs_pairs_same ends ends' l = ap (λ (f : Job → List Entry). flat_map f l) (job_pairs_same ends ends')

  -- The gap of two strips.
  strip_gap_same : (ends ends' : List ℕ) (j : Job)
      → squared_strip_gap (strip_at ends (map ground a) j.first) (strip_at ends' (map ground b) j.second)
      ≡ squared_strip_gap (strip_at ends a j.first) (strip_at ends' b j.second)
  strip_gap_same ends ends' j =
      ap₂ squared_strip_gap (ground_strip ends a j.first) (ground_strip ends' b j.second)
      ∙ gap_alike ground ground_gap ground_distance (strip_at ends a j.first) (strip_at ends' b j.second)

  job_join_same : (way : Join) (k : ℕ) (ends ends' : List ℕ) (j : Job) (l : List Entry)
      → join way k (strip_at ends (map ground a) j.first) (strip_at ends' (map ground b) j.second) l
      ≡ join way k (strip_at ends a j.first) (strip_at ends' b j.second) l
  job_join_same way k ends ends' j l =
      ap₂ (λ (u v : List Placed). join way k u v l) (ground_strip ends a j.first) (ground_strip ends' b j.second)
      ∙ ground_join way k (strip_at ends a j.first) (strip_at ends' b j.second) l

  -- The faults of a campaign.
  entry_same : (marks ends ends' : List ℕ) → sound_entry marks ends ends' (map ground a) (map ground b) ≡ sound_entry marks ends ends' a b
  unfolding sound_entry
  entry_same marks ends ends' = λ i e.
      ltb e.first (length-map a ground i)
      && (ltb e.second (length-map b ground i)
      && (apart e
      && (eqb e.distance (ground_at a b e.first e.second i)
      && settled marks (job_of (strip_holding ends e.first) (strip_holding ends' e.second)))))

  pub sound_same : (c : Campaign) (r : Results) → sound c (map ground a) (map ground b) r ≡ sound c a b r
  unfolding sound
  sound_same c r =
      rw (length-map a ground, length-map b ground, entry_same c.marks (first_ends c) (second_ends c), jobs_pairs_same (first_ends c) (second_ends c) (settled_jobs c))

  -- What a job does.
  skips_same : (c : Campaign) (l : List Entry) (j : Job) → skips c (map ground a) (map ground b) l j ≡ skips c a b l j
  unfolding skips
  skips_same c l j = rw (strip_gap_same (first_ends c) (second_ends c) j)

  job_entries_same : (c : Campaign) (l : List Entry) (j : Job) → job_entries c (map ground a) (map ground b) l j ≡ job_entries c a b l j
  unfolding job_entries
  job_entries_same c l j = rw (job_pairs_same (first_ends c) (second_ends c))

  job_done_same : (way : Join) (customer : ℕ) (g : Grid) (r : Results) (j : Job)
      → accepted_job way customer g (map ground a) (map ground b) r j ≡ accepted_job way customer g a b r j
  unfolding accepted_job
  job_done_same way customer g r j =
      let c = campaign_as customer g in
      let old = entries_of c.entries r in
      rw (
        job_entries_same c old j,
        skips_same c old j,
        job_join_same way c.k (first_ends c) (second_ends c) j old,
      )

  -- What several in one call do.
  rows_same : (customer : ℕ) (v : BatchValues) (l : List Row)
      → accepted_rows customer (map ground a) (map ground b) v l ≡ accepted_rows customer a b v l
  unfolding accepted_rows
  rows_same customer v [] = refl
  rows_same customer v (x ∷ l) =
      rw (job_done_same (way_of x.way) customer v.grid v.results x.job) (rows_same customer (with_job_done v (accepted_job (way_of x.way) customer v.grid a b v.results x.job)) l)

-- ---- lists of the plane

module _ (a b : Columns) (pa : Plane a) (pb : Plane b) where
  pub prepare_same : (ends ends' : List ℕ) → prepare_answer (on_ground a) (on_ground b) ends ends' ≡ prepare_answer a b ends ends'
  unfolding prepare_answer prepare_refusal lawful_cuts
  prepare_same ends ends' = rw (ground_lists a b pa pb)

  module _ (customer : ℕ) where
    caller_same : caller_refusal customer (on_ground a) (on_ground b) ≡ caller_refusal customer a b
    unfolding caller_refusal
    caller_same = rw (ground_lists a b pa pb)

    module _ (g : Grid) where
      pub open_same : (k : ℕ) (ends ends' : List ℕ) (r : Results)
          → open_answer customer g (on_ground a) (on_ground b) k ends ends' r ≡ open_answer customer g a b k ends ends' r
      unfolding open_answer open_refusal lawful_cuts
      open_same k ends ends' r = rw caller_same

      keeper_same : (r : Results)
          → keeper_refusal customer g (sites (on_ground a)) (sites (on_ground b)) r
          ≡ keeper_refusal customer g (sites a) (sites b) r
      unfolding keeper_refusal
      keeper_same r =
          rw (ground_sites a pa, ground_sites b pb, sound_same (sites a) (sites b) (campaign_as customer g) r)

      pub lower_same : (k : ℕ) (r : Results)
          → lower_answer customer g (on_ground a) (on_ground b) k r ≡ lower_answer customer g a b k r
      unfolding lower_answer lower_refusal
      lower_same k r = rw (caller_same, keeper_same r)

      refusal_same : (r : Results)
          → campaign_refusal customer g (on_ground a) (on_ground b) r ≡ campaign_refusal customer g a b r
      unfolding campaign_refusal
      refusal_same r = rw (caller_same, keeper_same r)

      pub status_same : (r : Results)
          → status_answer customer g (on_ground a) (on_ground b) r ≡ status_answer customer g a b r
      unfolding status_answer
      status_same r = rw (refusal_same r)

      pub batch_same : (r : Results) (l : Batch)
          → batch_answer customer g (on_ground a) (on_ground b) r l ≡ batch_answer customer g a b r l
      unfolding batch_answer batch_refusal
      batch_same r l =
          rw (
            refusal_same r,
            ground_sites a pa,
            ground_sites b pb,
            rows_same (sites a) (sites b) customer (no_job g r) (rows_of l),
          )

  pub job_same : (way : Join) (customer : ℕ) (g : Grid) (r : Results) (j : Job)
      → job_answer way customer g (on_ground a) (on_ground b) r j ≡ job_answer way customer g a b r j
  unfolding job_answer job_refusal
  job_same way customer g r j =
      rw (
        refusal_same customer g r,
        ground_sites a pa,
        ground_sites b pb,
        job_done_same (sites a) (sites b) way customer g r j,
      )
