-- What a way counts crosses: the counters that are not its own stay 0.
use mathlib.Core.Path.{◌≡◌, refl, sym, ap, ◌∙◌}
use mathlib.Core.Bool.{Bool, true, false, cond}
use Prim.Native.Nat.{ℕ, zero, suc}
use Rattle.site.specs.Answer.{answer_unless, afterwards}
use Rattle.site.specs.SiteList.{Columns, sites}
use Rattle.entry.specs.Results.{Results, entries_of}
use Rattle.sweep.specs.declared.Way.{Way}
use Rattle.join.specs.declared.Join.{Join}
use Rattle.join.specs.declared.Join.TheVariants.{Sweep, Halves}
use Rattle.join.specs.Join.{Counts, counts, by_sweep, by_halves, no_counts, join}
use Rattle.pairs.specs.KList.{k_list_values, k_list_answer}
use Rattle.customers.specs.declared.Campaign.{Campaign}
use Rattle.customers.specs.declared.Grid.{Grid}
use Rattle.customers.specs.Customers.{campaign_as}
use Rattle.campaign.specs.Grid.{Job, strip_at}
use Rattle.campaign.specs.Soundness.{first_ends, second_ends}
use Rattle.campaign.specs.Calls.{skips, job_values, accepted_job, job_answer}
use Rattle.vumlintel.specs.Crosses.{Crosses}

-- The counters of a sweep, and of a join by halves.
abbrev of_sweep : Counts → Counts
of_sweep c = by_sweep c.looks c.distances

abbrev of_halves : Counts → Counts
of_halves c = by_halves c.range_pairs

module _ {A : Type 0} (read : A → Counts) (own : Counts → Counts) where
  left_own : (n : ℕ) (v before : A) → own (read v) ≡ read v → own (read before) ≡ read before
      → own (read (afterwards (λ x. x) (answer_unless n v) before)) ≡ read (afterwards (λ x. x) (answer_unless n v) before)
  unfolding answer_unless afterwards
  left_own zero v before h g = h
  left_own (suc n) v before h g = g

  crossed_own : (make : Counts → A) → ((c : Counts) → read (make c) ≡ c) → (n : ℕ) (v before : A) {c : Counts} {r : ℕ}
      → own (read v) ≡ read v → own (read before) ≡ read before
      → Crosses (answer_unless n v) r (record { entry = before; exit = make c })
      → Crosses (answer_unless n v) r (record { entry = before; exit = make (own c) })
  crossed_own make reads n v before {c} h g crossed =
      let e : c ≡ read (afterwards (λ x. x) (answer_unless n v) before) = sym (reads c) ∙ ap read crossed.values in
      let same : own c ≡ c = ap own e ∙ left_own n v before h g ∙ sym e in
      record { number = crossed.number; values = ap make same ∙ crossed.values }

-- ---- a K list

module _ (a b : Columns) (k : ℕ) (r : Results) {l l' : Results} {n n' x' y' z' told : ℕ} where
  pub list_by_sweep : (way : Way) {x y : ℕ}
      → Crosses (k_list_answer (Sweep way) a b k r) told
      (record { entry = k_list_values l n (counts x y 0); exit = k_list_values l' n' (counts x' y' z') })
      → Crosses (k_list_answer (Sweep way) a b k r) told
      (record { entry = k_list_values l n (by_sweep x y); exit = k_list_values l' n' (by_sweep x' y') })
  unfolding k_list_answer join
  list_by_sweep way crossed = crossed_own (λ v. v.counts) of_sweep (k_list_values l' n') (λ c. refl) _ _ _ refl refl crossed

  pub list_by_halves : {z : ℕ} → Crosses (k_list_answer Halves a b k r) told
      (record { entry = k_list_values l n (counts 0 0 z); exit = k_list_values l' n' (counts x' y' z') })
      → Crosses (k_list_answer Halves a b k r) told
      (record { entry = k_list_values l n (by_halves z); exit = k_list_values l' n' (by_halves z') })
  unfolding k_list_answer join
  list_by_halves crossed = crossed_own (λ v. v.counts) of_halves (k_list_values l' n') (λ c. refl) _ _ _ refl refl crossed

-- ---- a job, that counts nothing when skipped

skipped_own : (own : Counts → Counts) (skip : Bool) (c : Counts) → own no_counts ≡ no_counts → own c ≡ c → own (cond skip no_counts c) ≡ cond skip no_counts c
skipped_own own true c h g = h
skipped_own own false c h g = g

module _ (customer : ℕ) (g : Grid) (a b : Columns) (r : Results) (j : Job) where
  abbrev c : Campaign
  c = campaign_as customer g

  -- Whether the job is skipped, and what it counts where it is not.
  abbrev skip : Bool
  skip = skips c (sites a) (sites b) (entries_of c.entries r) j

  abbrev counted : Join → Counts
  counted way =
      let first = strip_at (first_ends c) (sites a) j.first in
      let second = strip_at (second_ends c) (sites b) j.second in
      (join way c.k first second (entries_of c.entries r)).counts

  module _ {d d' : Grid} {l l' : Results} {s s' x' y' z' told : ℕ} where
    pub job_by_sweep : (way : Way) {x y : ℕ}
        → Crosses (job_answer (Sweep way) customer g a b r j) told
        (record { entry = job_values d l s (counts x y 0); exit = job_values d' l' s' (counts x' y' z') })
        → Crosses (job_answer (Sweep way) customer g a b r j) told
        (record { entry = job_values d l s (by_sweep x y); exit = job_values d' l' s' (by_sweep x' y') })
    unfolding job_answer accepted_job join
    job_by_sweep way crossed =
        crossed_own (λ v. v.counts) of_sweep (job_values d' l' s') (λ c. refl) _ _ _
        (skipped_own of_sweep skip (counted (Sweep way)) refl refl) refl crossed

    pub job_by_halves : {z : ℕ} → Crosses (job_answer Halves customer g a b r j) told
        (record { entry = job_values d l s (counts 0 0 z); exit = job_values d' l' s' (counts x' y' z') })
        → Crosses (job_answer Halves customer g a b r j) told
        (record { entry = job_values d l s (by_halves z); exit = job_values d' l' s' (by_halves z') })
    unfolding job_answer accepted_job join
    job_by_halves crossed =
        crossed_own (λ v. v.counts) of_halves (job_values d' l' s') (λ c. refl) _ _ _
        (skipped_own of_halves skip (counted Halves) refl refl) refl crossed
