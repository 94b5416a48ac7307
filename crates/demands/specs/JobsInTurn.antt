-- Several jobs in one call beside calls of their own, one after another. (02 m)
use Rattle.std.specs.Prelude.{◌≡◌, true, cond, List, [], ◌∷◌, ℕ, length}
use Rattle.site.specs.Answer.{Answer, refused, answered}
use Rattle.site.specs.SiteList.{Columns}
use Rattle.entry.specs.Results.{Results}
use Rattle.customers.specs.declared.Grid.{Grid}
use Rattle.campaign.specs.Soundness.{campaign_refusal}
use Rattle.campaign.specs.Calls.{job_answer}
use Rattle.batch.specs.Batch.{Batch, Row, rows_of, equal_columns, lawful_way, way_of, BatchValues, no_job, with_job_done, batch_answer}

-- What goes on from an answer; a refusal ends it.
unfoldable pub and_then : {A B : Type 0} → Answer A → (A → Answer B) → Answer B
and_then (refused number) next = refused number
and_then (answered values) next = next values

-- Jobs in calls of their own: each gets both lists, and the grid and the columns as the one before left them; their counts
-- are summed, and the skipped ones counted. The first that is refused ends it with its number, and so does another way,
-- with 8.
unfoldable pub in_turn : ℕ → Columns → Columns → BatchValues → List Row → Answer BatchValues
in_turn customer a b v [] = answered v
in_turn customer a b v (x ∷ l) =
    cond (lawful_way x.way)
    (and_then (job_answer (way_of x.way) customer v.grid a b v.results x.job)
    (λ d. in_turn customer a b (with_job_done v d) l))
    (refused 8)

-- "It ends .. as those jobs one after another would": where the call passes 15, both lists' 1 to 3 and 7, and its columns
-- are of one length, its answer is theirs, campaign, columns, sums, and the first refusal.
unfoldable pub JobsInTurn : Type 0
JobsInTurn =
    (customer : ℕ) (g : Grid) → length g.marks ≡ 1_024
    → (a b : Columns) (r : Results) (l : Batch)
    → campaign_refusal customer g a b r ≡ 0 → equal_columns l ≡ true
    → batch_answer customer g a b r l ≡ in_turn customer a b (no_job g r) (rows_of l)
