-- What preparing, opening, a smaller K, a job and status answer, and what the grid and the result columns then hold.
use Rattle.std.specs.Prelude.{Bool, not, cond, ◌&&◌, List, ◌++◌, ℕ, ◌*◌, ◌-◌, ltb, length, replicate}
use Rattle.site.specs.Site.{Site}
use Rattle.site.specs.Answer.{Answer, answer_unless, refuse_if, or_else}
use Rattle.site.specs.SiteList.{Columns, sites}
use Rattle.site.specs.Refusal.{lists_refusal}
use Rattle.entry.specs.declared.Entry.{Entry}
use Rattle.entry.specs.Entry.{best_k, k_up_to, lawful_k}
use Rattle.entry.specs.Results.{Results, entries_of, holding, room_for}
use Rattle.sweep.specs.Scan.{beyond}
use Rattle.halves.specs.Gap.{squared_strip_gap}
use Rattle.join.specs.declared.Join.{Join}
use Rattle.join.specs.Join.{Counts, no_counts, counts_of, join}
use Rattle.customers.specs.declared.Campaign.{Campaign}
use Rattle.customers.specs.declared.Grid.{Grid}
use Rattle.customers.specs.Customers.{campaign_as, grid_of, with_campaign, cleared, lowered}
use Rattle.campaign.specs.declared.Outcome.{Outcome}
use Rattle.campaign.specs.declared.Outcome.TheVariants as outcome
use Rattle.campaign.specs.declared.JobDone.{JobDone}
use Rattle.campaign.specs.declared.Status.{Status}
use Rattle.campaign.specs.Grid.{lawful_ends, same_ends, strip_at, Job, settled, settled_jobs, job_pairs, settle}
use Rattle.campaign.specs.Soundness.{first_ends, second_ends, lawful_grid, caller_refusal, keeper_refusal, campaign_refusal}

-- No "cut ends unlawful" of either list.
unfoldable pub lawful_cuts : Columns → Columns → List ℕ → List ℕ → Bool
lawful_cuts a b ends ends' = lawful_ends (length a.x) ends && lawful_ends (length b.x) ends'

-- "Preparing the grid is lent both lists, tests for 1, 2, 3 and 5 and never for 7."
unfoldable pub prepare_refusal : Columns → Columns → List ℕ → List ℕ → ℕ
prepare_refusal a b ends ends' = or_else (lists_refusal a b) (refuse_if (not (lawful_cuts a b ends ends')) 5)

-- Ends in the 32 slots of a grid; the unused slots are 0.
unfoldable pub slots : List ℕ → List ℕ
slots ends = ends ++ replicate (32 - length ends) 0

-- It "fixes the ends, sets all marks, both K and both entry counts to 0"; "1,024 marks, one for each job, all 0".
unfoldable pub prepared : List ℕ → List ℕ → Grid
prepared ends ends' = grid_of (length ends) (length ends') (slots ends) (slots ends') (replicate 1024 0) 0 0 0 0

-- "and answers the grid", or the refusal.
unfoldable pub prepare_answer : Columns → Columns → List ℕ → List ℕ → Answer Grid
prepare_answer a b ends ends' = answer_unless (prepare_refusal a b ends ends') (prepared ends ends')

-- The ends are the grid's.
unfoldable pub grid_cuts : Grid → List ℕ → List ℕ → Bool
grid_cuts g ends ends' =
    same_ends g.first_strips g.first_ends ends && same_ends g.second_strips g.second_ends ends'

-- "Opening tests for 1 to 6"; "opening with ends other than the grid's gets 5"; 7 reads the marks "at opening too"; 15 first.
unfoldable pub open_refusal : ℕ → Grid → Columns → Columns → ℕ → List ℕ → List ℕ → Results → ℕ
open_refusal customer g a b k ends ends' r =
    or_else (caller_refusal customer a b)
    (or_else (refuse_if (not (lawful_k k)) 4)
    (or_else (refuse_if (not (lawful_cuts a b ends ends' && grid_cuts g ends ends')) 5)
    (or_else (refuse_if (not (room_for k r)) 6)
    (refuse_if (not (lawful_grid g)) 7))))

-- "Opening fixes K"; "Opening as one customer clears that customer's marks and entry count only."
unfoldable pub opened : ℕ → Grid → ℕ → Grid
opened customer g k = with_campaign customer k 0 (cleared customer g.marks) g

-- "opening, the campaign with entry count 0, no column touched", or the refusal.
unfoldable pub open_answer : ℕ → Grid → Columns → Columns → ℕ → List ℕ → List ℕ → Results → Answer Grid
open_answer customer g a b k ends ends' r = answer_unless (open_refusal customer g a b k ends ends' r) (opened customer g k)

-- "Lower K to any number from 1 to the present K": "A K of 0, or above the present one, gets 4, before opening too", where
-- the present one is 0: after 15 and the lists' 1 to 3, and before 7. (02 j)
unfoldable pub lower_refusal : ℕ → Grid → Columns → Columns → ℕ → Results → ℕ
lower_refusal customer g a b k r =
    or_else (caller_refusal customer a b)
    (or_else (refuse_if (not (k_up_to (campaign_as customer g).k k)) 4)
    (keeper_refusal customer g (sites a) (sites b) r))

-- "and answer the campaign", no column touched, or the refusal.
unfoldable pub lower_answer : ℕ → Grid → Columns → Columns → ℕ → Results → Answer Grid
lower_answer customer g a b k r = answer_unless (lower_refusal customer g a b k r) (lowered customer g k)

-- "8: a strip number not below the strip count", then "9: the job is settled", by these marks of the customer's own.
unfoldable pub job_fault : ℕ → ℕ → List ℕ → Job → ℕ
job_fault rows cols marks j =
    or_else (refuse_if (not (ltb j.first rows && ltb j.second cols)) 8) (refuse_if (settled marks j) 9)

-- A job tests for 15, 1, 2, 3 and 7, then for these.
unfoldable pub job_refusal : ℕ → Grid → Columns → Columns → Results → Job → ℕ
job_refusal customer g a b r j =
    or_else (campaign_refusal customer g a b r)
    (job_fault g.first_strips g.second_strips (campaign_as customer g).marks j)

-- "A job is skipped exactly when the list has K entries and the gap squared is greater than the last squared distance."
unfoldable pub skips : Campaign → List Site → List Site → List Entry → Job → Bool
skips c a b l j =
    beyond c.k l (squared_strip_gap (strip_at (first_ends c) a j.first) (strip_at (second_ends c) b j.second))

-- "the list becomes the first K of its old entries and the job's pairs", swept or skipped.
unfoldable pub job_entries : Campaign → List Site → List Site → List Entry → Job → List Entry
job_entries c a b l j = best_k c.k (l ++ job_pairs (first_ends c) (second_ends c) a b j)

-- "Either way it becomes settled." The customer's K stays, and all else of the grid.
unfoldable pub after_job : ℕ → Grid → ℕ → Job → Grid
after_job customer g count j = with_campaign customer (campaign_as customer g).k count (settle customer g.marks j) g

-- "the campaign, whether it was swept or skipped, looks and distances", with range pairs for these by halves, and the
-- result columns; swept, by any of the three ways, is 1, skipped 0. (01, 02 k.)
pub record JobValues : Type 0 where
  pub grid : Grid
  pub results : Results
  pub swept : ℕ
  pub counts : Counts

abbrev pub job_values : Grid → Results → ℕ → Counts → JobValues
job_values g r swept counts = record { grid = g; results = r; swept = swept; counts = counts }

-- What a job that is not refused leaves and answers: looks and distances, and so range pairs, are "both 0 when skipped".
unfoldable pub accepted_job : Join → ℕ → Grid → List Site → List Site → Results → Job → JobValues
accepted_job way customer g a b r j =
    let c = campaign_as customer g in
    let old = entries_of c.entries r in
    let new = job_entries c a b old j in
    let skip = skips c a b old j in
    let joined = join way c.k (strip_at (first_ends c) a j.first) (strip_at (second_ends c) b j.second) old in
    job_values (after_job customer g (length new) j) (holding new r) (cond skip 0 1) (cond skip no_counts joined.counts)

-- What a job answers.
unfoldable pub job_answer : Join → ℕ → Grid → Columns → Columns → Results → Job → Answer JobValues
job_answer way customer g a b r j =
    answer_unless (job_refusal customer g a b r j) (accepted_job way customer g (sites a) (sites b) r j)

-- "Status gives jobs settled, jobs in all, entries, and K."
pub record StatusValues : Type 0 where
  pub settled : ℕ
  pub jobs : ℕ
  pub entries : ℕ
  pub k : ℕ

abbrev pub status_values : ℕ → ℕ → ℕ → ℕ → StatusValues
status_values settled jobs entries k = record { settled = settled; jobs = jobs; entries = entries; k = k }

unfoldable pub status_answer : ℕ → Grid → Columns → Columns → Results → Answer StatusValues
status_answer customer g a b r =
    let c = campaign_as customer g in
    answer_unless (campaign_refusal customer g a b r)
    (status_values (length (settled_jobs c)) (c.first_strips * c.second_strips) c.entries c.k)

-- Whether a job was swept, and what it counted, by how it ended.
unfoldable pub swept_by : Outcome → ℕ
swept_by (outcome.Swept counters) = 1
swept_by outcome.Skipped = 0

unfoldable pub counts_by : Outcome → Counts
counts_by (outcome.Swept counters) = counts_of counters
counts_by outcome.Skipped = no_counts

-- The values that the structs of the code stand for; a job's with the result columns at exit.
unfoldable pub job_done_values : Results → JobDone → JobValues
job_done_values r d = job_values d.grid r (swept_by d.outcome) (counts_by d.outcome)

abbrev pub status_of : Status → StatusValues
status_of s = status_values s.settled s.jobs s.entries s.k
