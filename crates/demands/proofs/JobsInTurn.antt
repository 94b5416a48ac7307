-- Several jobs in one call end as those jobs one after another.
use mathlib.Core.Path.{◌≡◌, refl, ap, ◌∙◌}
use mathlib.Core.List.{List, [], ◌∷◌}
use Prim.Native.Nat.{ℕ, zero, suc}
use lib.ListN.{length, set, length-set}
use Rattle.order.proofs.Order.{by_test}
use Rattle.site.specs.Answer.{Answer, answer_unless, or_else}
use Rattle.site.specs.SiteList.{Columns, sites}
use Rattle.site.proofs.Answer.{or_none}
use Rattle.join.specs.declared.Join.{Join}
use Rattle.customers.specs.declared.Campaign.{Campaign}
use Rattle.customers.specs.Customers.{settled_at, campaign_as, with_campaign}
use Rattle.campaign.specs.Grid.{Job, mark_of}
use Rattle.campaign.specs.Soundness.{campaign_refusal}
use Rattle.campaign.specs.Calls.{job_fault, job_refusal, after_job, accepted_job, job_answer}
use Rattle.batch.specs.Batch.{Row, rows_of, lawful_way, way_of, rows_refusal, BatchValues, no_job, with_job_done, accepted_rows, batch_refusal, batch_answer}
use Rattle.campaign.proofs.CustomerLaws.{job_own}
use Rattle.campaign.proofs.JobSound.{job_leaves_sound}
use Rattle.demands.specs.JobsInTurn.{and_then, in_turn, JobsInTurn}

-- One answer after another: the first refusal of both, or the last result.
and_then_lem : {A B : Type 0} (n m : ℕ) (values : A) (result : B) (next : A → Answer B)
    → (n ≡ 0 → answer_unless m result ≡ next values) → answer_unless (or_else n m) result ≡ and_then (answer_unless n values) next
unfolding or_else answer_unless and_then
and_then_lem zero m values result next h = h refl
and_then_lem (suc n) m values result next h = refl

module _ (customer : ℕ) (a b : Columns) where
  -- The values so far: the grid's strips, the customer's marks of it, and a campaign with no fault.
  record SoFar (rows cols : ℕ) (marks : List ℕ) (v : BatchValues) : Type 0 where
    strips : v.grid.first_strips ≡ rows
    strips' : v.grid.second_strips ≡ cols
    own : (campaign_as customer v.grid).marks ≡ marks
    size : length v.grid.marks ≡ 1_024
    accepted : campaign_refusal customer v.grid a b v.results ≡ 0

  module _ {rows cols : ℕ} {marks : List ℕ} {v : BatchValues} (s : SoFar rows cols marks v) (j : Job) where
    -- A job is refused for its own faults alone, ..
    own_faults : job_refusal customer v.grid a b v.results j ≡ job_fault rows cols marks j
    unfolding job_refusal
    own_faults =
        or_none (campaign_refusal customer v.grid a b v.results) _ s.accepted ∙ rw (s.own, s.strips, s.strips')

    -- .. and leaves such values where it has none.
    one_more : (way : Join) → job_fault rows cols marks j ≡ 0
        → SoFar rows cols (set marks (mark_of j) 1)
        (with_job_done v (accepted_job way customer v.grid (sites a) (sites b) v.results j))
    unfolding with_job_done accepted_job after_job with_campaign settled_at
    one_more way ok = record {
      strips = s.strips;
      strips' = s.strips';
      own =
          ap (λ (c : Campaign). c.marks) (job_own customer v.grid _ j) ∙ ap (λ (m : List ℕ). set m (mark_of j) 1) s.own;
      size = length-set v.grid.marks (mark_of j) _ ∙ s.size;
      accepted = job_leaves_sound way customer v.grid a b v.results j s.size (own_faults ∙ ok);
    }

  -- Jobs in one call, and in turn.
  rows_in_turn : {rows cols : ℕ} {marks : List ℕ} (l : List Row) (v : BatchValues) → SoFar rows cols marks v
      → answer_unless (rows_refusal rows cols marks l) (accepted_rows customer (sites a) (sites b) v l)
      ≡ in_turn customer a b v l
  unfolding rows_refusal accepted_rows in_turn or_else answer_unless job_answer
  rows_in_turn [] v s = refl
  rows_in_turn {rows} {cols} {marks} (x ∷ l) v s =
      by_test (lawful_way x.way)
      (λ t.
      let d = accepted_job (way_of x.way) customer v.grid (sites a) (sites b) v.results x.job in
      rw (t, own_faults s x.job)
      (and_then_lem (job_fault rows cols marks x.job) (rows_refusal rows cols (set marks (mark_of x.job) 1) l) d
      (accepted_rows customer (sites a) (sites b) (with_job_done v d) l) (λ d. in_turn customer a b (with_job_done v d) l)
      (λ ok. rows_in_turn {marks = set marks (mark_of x.job) 1} l (with_job_done v d) (one_more s x.job (way_of x.way) ok))))
      (λ f. rw f)

pub jobs_in_turn : JobsInTurn
unfolding JobsInTurn batch_answer batch_refusal or_else
jobs_in_turn customer g size a b r l ok equal =
    rw (ok, equal)
    (rows_in_turn customer a b (rows_of l) (no_job g r)
    (record { strips = refl; strips' = refl; own = refl; size = size; accepted = ok }))
