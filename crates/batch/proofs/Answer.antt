-- What several jobs in one call leave: from each job to the next, and their sums.
use mathlib.Core.Path.{◌≡◌, refl, ap, ◌∙◌}
use mathlib.Core.List.{List, [], ◌∷◌}
use Prim.Native.Nat.{ℕ, ◌+◌, ◌*◌, ◌-◌, ◌^◌, ◌≤◌, ◌<◌}
use native.Mathlib.Omega.{arith}
use lib.IntN.{ℤ}
use lib.ListN.{length}
use Rattle.site.specs.Site.{Site}
use Rattle.std.specs.Prelude.{Result, Ok}
use Rattle.site.specs.declared.refusals.Refusal.{Refusal}
use Rattle.site.specs.Answer.{afterwards, answer_of}
use Rattle.site.specs.SiteList.{Columns, sites}
use Rattle.site.specs.Terms.{Numbered}
use Rattle.site.proofs.Numbered.{numbered_some}
use Rattle.site.proofs.Answer.{result_ok, after_answered}
use Rattle.entry.specs.Results.{Results}
use Rattle.entry.proofs.Below.{lengths_of}
use Rattle.join.specs.declared.Join.{Join}
use Rattle.join.proofs.Counted.{Few}
use Rattle.join.specs.Join.{Counts, counts_of}
use Rattle.customers.specs.declared.Grid.{Grid}
use Rattle.customers.specs.Customers.{campaign_as}
use Rattle.campaign.specs.declared.Outcome.{Outcome}
use Rattle.campaign.specs.declared.Outcome.TheVariants as outcome
use Rattle.campaign.specs.declared.JobDone.{JobDone}
use Rattle.batch.specs.declared.BatchDone.{BatchDone}
use Rattle.batch.specs.declared.Sums.{Sums}
use Rattle.campaign.specs.Calls.{JobValues, accepted_job, swept_by, counts_by, job_done_values}
use Rattle.batch.specs.Batch.{Batch, Row, rows_of, way_of, batch_refusal, BatchValues, batch_values, no_job, with_job_done, accepted_rows, batch_answer, batch_done_values}
use Rattle.campaign.specs.Terms.{LawfulColumns, sound_plan, JobAsked, ReadyFor}
use Rattle.batch.specs.Internal.{RowsAsked, skipped_by, SumsWith, SumsFit}
use Rattle.campaign.proofs.CustomerLaws.{job_own}
use Rattle.campaign.proofs.JobRefusal.{no_job_fault}
use Rattle.batch.proofs.Refusal.{row_fault, rows_rest}
use Rattle.campaign.proofs.JobAnswer.{done_grid, done_results, job_lengths, job_ready, LongSlots, job_few_counts, job_long}

-- ---- from one job to the next

module _ (customer : ℕ) (g : Grid) {n m : ℕ} {r : Results} (x : Row) (l : List Row)
    (asked : RowsAsked (campaign_as customer g) n m r (x ∷ l)) where
  row_asked : JobAsked (campaign_as customer g) n m x.job
  row_asked =
      let inside = (no_job_fault _ _ _ x.job (row_fault _ _ _ x l asked.accepted)).0 in
      record { plan = asked.plan; row = inside.row; column = inside.column }

  rest_accepted : (way : Join) (a b : List Site)
      → (let v = accepted_job way customer g a b r x.job in RowsAsked (campaign_as customer v.grid) n m v.results l)
  unfolding accepted_job sound_plan
  rest_accepted way a b = record {
    plan = rw (job_own customer g _ x.job) asked.plan;
    ready = job_ready way customer g a b r x.job asked.ready;
    accepted = rw (job_own customer g _ x.job) (rows_rest _ _ _ x l asked.accepted);
  }

  rest_asked : (way : Join) (a b : List Site) (r' : Results) (d : JobDone)
      → job_done_values r' d ≡ accepted_job way customer g a b r x.job → RowsAsked (campaign_as customer d.grid) n m r' l
  rest_asked way a b r' d w = rw (done_grid r' d w, done_results r' d w) (rest_accepted way a b)

-- ---- the sums

-- What a job adds, by its answer.
skipped_by_lem : (o : Outcome) → skipped_by o ≡ 1 - swept_by o
unfolding skipped_by swept_by
skipped_by_lem (outcome.Swept counters) = refl
skipped_by_lem outcome.Skipped = refl

module _ {v : JobValues} (r : Results) (d : JobDone) (w : job_done_values r d ≡ v) where
  pub worked_skipped : skipped_by d.outcome ≡ 1 - v.swept
  unfolding job_done_values
  worked_skipped = skipped_by_lem d.outcome ∙ ap (λ (u : JobValues). 1 - u.swept) w

  pub worked_counts : counts_by d.outcome ≡ v.counts
  unfolding job_done_values
  worked_counts = ap (λ (u : JobValues). u.counts) w

-- The grid, the columns and the sums so far.
abbrev pub values_of : Grid → Results → Sums → BatchValues
values_of g r s = batch_values g r s.skipped (counts_of s.counters)

-- They go on with one job more.
rows_step : (customer : ℕ) (a b : List Site) (g : Grid) (r : Results) (s : Sums) (x : Row) (l : List Row)
    (r' : Results) (d : JobDone) {s' : Sums} → job_done_values r' d ≡ accepted_job (way_of x.way) customer g a b r x.job
    → SumsWith s d.outcome s'
    → accepted_rows customer a b (values_of d.grid r' s') l ≡ accepted_rows customer a b (values_of g r s) (x ∷ l)
unfolding accepted_rows with_job_done
rows_step customer a b g r s x l r' d w t =
    rw (done_grid r' d w, done_results r' d w, t.skipped, t.counts, worked_skipped r' d w, worked_counts r' d w) refl

-- ---- room for the sums

-- The sums of some jobs, at most so much of each.
pub record FewSums (jobs : ℕ) (s : Sums) : Type 0 where
  pub skipped : s.skipped ≤ jobs
  pub looks : s.counters.looks.0 ≤ jobs * 2 ^ 33
  pub distances : s.counters.distances.0 ≤ jobs * 2 ^ 33
  pub range_pairs : s.counters.range_pairs.0 ≤ jobs * 2 ^ 33

-- ---- the loop over the jobs

-- After some jobs: those left are not refused, and what all leave and answer is what they do from here.
pub record Working (customer : ℕ) (ax ay ah bx by bh : List ℤ) (start : BatchValues) (jobs left : List Row) (done : ℕ) (g : Grid)
    (r : Results) (s : Sums) : Type 0 where
  pub asked : RowsAsked (campaign_as customer g) (length ax) (length bx) r left
  pub same : Numbered ax ay ah bx by bh (λ a b. accepted_rows customer a b (values_of g r s) left ≡ accepted_rows customer a b start jobs)
  pub few : FewSums done s
  pub long : LongSlots g
  pub lengths : lengths_of r ≡ lengths_of start.results

module _ {customer : ℕ} {ax ay ah bx by bh : List ℤ} {start : BatchValues} {jobs : List Row} {done : ℕ} {g : Grid} {r : Results}
    {s : Sums} {x : Row} {left rows : List Row} (here : left ≡ x ∷ rows) (lawful : LawfulColumns ax ay ah × LawfulColumns bx by bh)
    (before : Working customer ax ay ah bx by bh start jobs left done g r s) where
  -- The job at hand, and those after it.
  w : Working customer ax ay ah bx by bh start jobs (x ∷ rows) done g r s
  w = rw here at before

  -- What the work on it asks.
  pub next_asked : JobAsked (campaign_as customer g) (length ax) (length bx) x.job × ReadyFor (campaign_as customer g) r
  next_asked = (row_asked customer g x rows w.asked, w.asked.ready)

  module _ {way : Join} (is : way ≡ way_of x.way) (r' : Results) (d : JobDone)
      (by_way : Numbered ax ay ah bx by bh (λ a b. job_done_values r' d ≡ accepted_job way customer g a b r x.job)) where
    worked : Numbered ax ay ah bx by bh (λ a b. job_done_values r' d ≡ accepted_job (way_of x.way) customer g a b r x.job)
    worked = rw is at by_way

    -- Of some two lists with these coordinates the job is done; what it counted.
    abbrev some : (a : List Site) × (b : List Site) × (length a ≡ length ax) × (length b ≡ length bx)
        × (job_done_values r' d ≡ accepted_job (way_of x.way) customer g a b r x.job)
    some = numbered_some lawful.0.plane lawful.0.heights lawful.1.plane lawful.1.heights worked

    counted : Few (counts_by d.outcome) × (skipped_by d.outcome ≤ 1)
    counted =
        let asked : JobAsked (campaign_as customer g) (length some.0) (length some.1) x.job =
        rw (some.2, some.3) (row_asked customer g x rows w.asked) in (
          rw (worked_counts r' d some.4) (job_few_counts (way_of x.way) customer g some.0 some.1 r x.job asked
              (omega (arith, some.2, lawful.0.plane.few)) (omega (arith, some.3, lawful.1.plane.few)) w.long),
          omega (arith, worked_skipped r' d some.4),
        )

    pub sums_fit : done < 1024 → SumsFit s d.outcome
    sums_fit h = record {
      skipped = omega (arith, w.few.skipped, counted.1);
      looks = omega (arith, w.few.looks, counted.0.looks);
      distances = omega (arith, w.few.distances, counted.0.distances);
      range_pairs = omega (arith, w.few.range_pairs, counted.0.range_pairs);
    }

    pub working_more : {s' : Sums} → SumsWith s d.outcome s'
        → Working customer ax ay ah bx by bh start jobs rows (done + 1) d.grid r' s'
    working_more t =
        let done-so = some.4 in
        record {
          asked = rest_asked customer g x rows w.asked (way_of x.way) some.0 some.1 r' d done-so;
          same = record {
            numbered = λ an bn la lb.
                rows_step customer _ _ g r s x rows r' d (worked.numbered an bn la lb) t ∙ w.same.numbered an bn la lb;
          };
          few = record {
            skipped = omega (arith, t.skipped, w.few.skipped, counted.1);
            looks = omega (arith, ap (λ (c : Counts). c.looks) t.counts, w.few.looks, counted.0.looks);
            distances = omega (arith, ap (λ (c : Counts). c.distances) t.counts, w.few.distances, counted.0.distances);
            range_pairs = omega (arith, ap (λ (c : Counts). c.range_pairs) t.counts, w.few.range_pairs, counted.0.range_pairs);
          };
          long = job_long (way_of x.way) customer g some.0 some.1 r x.job r' d done-so w.long;
          lengths =
              ap lengths_of (done_results r' d done-so)
              ∙ job_lengths (way_of x.way) customer g some.0 some.1 r x.job w.asked.ready ∙ w.lengths;
        }

-- After the last.
pub rows_done : {customer : ℕ} {ax ay ah bx by bh : List ℤ} {start : BatchValues} {jobs left : List Row} {done : ℕ} {g : Grid}
    {r : Results} {s : Sums} → left ≡ [] → Working customer ax ay ah bx by bh start jobs left done g r s
    → Numbered ax ay ah bx by bh (λ a b. values_of g r s ≡ accepted_rows customer a b start jobs)
unfolding accepted_rows
rows_done {customer} {g = g} {r = r} {s = s} none w = record {
  numbered = λ an bn la lb.
      rw (← w.same.numbered an bn la lb, none) refl;
}

-- ---- what they leave

-- Several jobs as their answer and the result columns tell them.
module _ (customer : ℕ) (g : Grid) (a b : Columns) (r : Results) (l : Batch) where
  abbrev pub Batch-as : Result BatchDone Refusal → Results → Type 0
  Batch-as d r' =
      let answer = batch_answer customer g a b r l in
      (answer_of (batch_done_values r') d ≡ answer) × (r' ≡ afterwards (λ (v : BatchValues). v.results) answer r)

  pub batch_worked : batch_refusal customer g a b r l ≡ 0 → (r' : Results) (d : BatchDone)
      → batch_done_values r' d ≡ accepted_rows customer (sites a) (sites b) (no_job g r) (rows_of l) → Batch-as (Ok d) r'
  unfolding batch_answer
  batch_worked ok r' d w = (
    result_ok (batch_done_values r') d ok w,
    ap (λ (v : BatchValues). v.results) w ∙ after_answered (λ (v : BatchValues). v.results) _ r ok,
  )
