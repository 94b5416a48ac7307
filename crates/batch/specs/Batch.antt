-- Several jobs in one call: what it refuses, and what it leaves and answers. (02 m)
use Rattle.std.specs.Prelude.{Bool, not, cond, ◌&&◌, ℕ, ◌+◌, ◌-◌, leb, eqb, length, set}
use mathlib.Core.List.{List, [], ◌∷◌, zip_with}
use Rattle.site.specs.Site.{Site}
use Rattle.column.specs.Lent.{Lent, Held, the, ◌of◌}
use Rattle.site.specs.Answer.{Answer, answer_unless, refuse_if, or_else}
use Rattle.site.specs.SiteList.{Columns, sites}
use Rattle.entry.specs.Results.{Results}
use Rattle.sweep.specs.declared.Way.TheVariants.{Classic, ReverseRun}
use Rattle.join.specs.declared.Join.{Join}
use Rattle.join.specs.declared.Join.TheVariants.{Sweep, Halves}
use Rattle.join.specs.Join.{Counts, counts, no_counts, counts_of}
use Rattle.customers.specs.declared.Grid.{Grid}
use Rattle.customers.specs.Customers.{campaign_as}
use Rattle.batch.specs.declared.BatchDone.{BatchDone}
use Rattle.campaign.specs.Grid.{Job, job_of, mark_of}
use Rattle.campaign.specs.Soundness.{campaign_refusal}
use Rattle.campaign.specs.Calls.{job_fault, JobValues, accepted_job}

-- "Its jobs stand in two columns of strips and one of ways."
pub record Batch : Type 0 where
  pub first : List ℕ
  pub second : List ℕ
  pub way : List ℕ

abbrev pub batch_of : List ℕ → List ℕ → List ℕ → Batch
batch_of first second way = record { first = first; second = second; way = way }

-- The columns as they are lent.
abbrev pub lent_batch : Lent (List ℕ) → Lent (List ℕ) → Lent (List ℕ) → Held Batch
lent_batch first second way = the batch_of of first of second of way

-- A job, and its way by number.
pub record Row : Type 0 where
  pub job : Job
  pub way : ℕ

abbrev pub row_of : ℕ → ℕ → ℕ → Row
row_of s t way = record { job = job_of s t; way = way }

-- The jobs of a batch, from the top of its columns down.
unfoldable pub rows_of : Batch → List Row
rows_of l = zip_with (λ make way. make way) (zip_with row_of l.first l.second) l.way

-- The three columns are of one length.
unfoldable pub equal_columns : Batch → Bool
equal_columns l = eqb (length l.first) (length l.way) && eqb (length l.second) (length l.way)

-- "ways (0 classic, 1 Reverse Run, 2 halves)"; there is no other.
unfoldable pub lawful_way : ℕ → Bool
lawful_way way = leb way 2

-- The way of a number: of 0, and of any that is no way's, which is refused, the classic sweep.
unfoldable pub way_of : ℕ → Join
way_of way = cond (eqb way 1) (Sweep ReverseRun) (cond (eqb way 2) Halves (Sweep Classic))

-- "then the first job at fault refuses the call, another way with 8, a repeat with 9": a job settled before, or by a job
-- further up in the call. The marks are the customer's own.
unfoldable pub rows_refusal : ℕ → ℕ → List ℕ → List Row → ℕ
rows_refusal rows cols marks [] = 0
rows_refusal rows cols marks (x ∷ l) =
    or_else (refuse_if (not (lawful_way x.way)) 8)
    (or_else (job_fault rows cols marks x.job)
    (rows_refusal rows cols (set marks (mark_of x.job) 1) l))

-- "after 7, unequal ones get 8, then the first job at fault refuses the call".
unfoldable pub batch_refusal : ℕ → Grid → Columns → Columns → Results → Batch → ℕ
batch_refusal customer g a b r l =
    or_else (campaign_refusal customer g a b r)
    (or_else (refuse_if (not (equal_columns l)) 8)
    (rows_refusal g.first_strips g.second_strips (campaign_as customer g).marks (rows_of l)))

-- "the campaign, their looks, distances and range pairs, each summed alone, and the number skipped", and the result columns.
pub record BatchValues : Type 0 where
  pub grid : Grid
  pub results : Results
  pub skipped : ℕ
  pub counts : Counts

abbrev pub batch_values : Grid → Results → ℕ → Counts → BatchValues
batch_values g r skipped counts = record { grid = g; results = r; skipped = skipped; counts = counts }

-- Before the first job.
abbrev pub no_job : Grid → Results → BatchValues
no_job g r = batch_values g r 0 no_counts

-- "each summed alone".
abbrev pub add_counts : Counts → Counts → Counts
add_counts c d = counts (c.looks + d.looks) (c.distances + d.distances) (c.range_pairs + d.range_pairs)

-- With one job more, by what it leaves and answers; swept is 1 and skipped 0, so that 1 less it is the number skipped.
unfoldable pub with_job_done : BatchValues → JobValues → BatchValues
with_job_done v d =
    batch_values d.grid d.results (v.skipped + (1 - d.swept)) (add_counts v.counts d.counts)

-- "It ends .. as those jobs one after another would."
unfoldable pub accepted_rows : ℕ → List Site → List Site → BatchValues → List Row → BatchValues
accepted_rows customer a b v [] = v
accepted_rows customer a b v (x ∷ l) =
    accepted_rows customer a b
    (with_job_done v (accepted_job (way_of x.way) customer v.grid a b v.results x.job)) l

-- What the call answers.
unfoldable pub batch_answer : ℕ → Grid → Columns → Columns → Results → Batch → Answer BatchValues
batch_answer customer g a b r l =
    answer_unless (batch_refusal customer g a b r l) (accepted_rows customer (sites a) (sites b) (no_job g r) (rows_of l))

-- The values that the struct of the code stands for, with the result columns at exit.
abbrev pub batch_done_values : Results → BatchDone → BatchValues
batch_done_values r d = batch_values d.grid r d.sums.skipped (counts_of d.sums.counters)
