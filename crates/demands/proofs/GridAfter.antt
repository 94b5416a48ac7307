-- What a call leaves of the grid: its marks in place, and the other customer's campaign.
use mathlib.Core.Path.{◌≡◌, refl, sym, ◌∙◌}
use mathlib.Core.Bool.{true, not}
use mathlib.Core.List.{List, [], ◌∷◌}
use Prim.Native.Nat.{ℕ, zero, suc}
use lib.ListN.{set}
use Rattle.site.specs.Site.{Site}
use Rattle.site.specs.Answer.{answer_unless, afterwards, refuse_if}
use Rattle.site.specs.SiteList.{Columns, sites}
use Rattle.site.proofs.Answer.{or_else_first, or_else_second}
use Rattle.entry.specs.Results.{Results}
use Rattle.customers.specs.declared.Grid.{Grid}
use Rattle.customers.specs.Customers.{is_customer, campaign_as, with_campaign, lowered}
use Rattle.campaign.specs.Grid.{Job, mark_of}
use Rattle.campaign.specs.Soundness.{lawful_grid, campaign_refusal}
use Rattle.campaign.specs.Calls.{open_refusal, opened, open_answer, lower_refusal, lower_answer, status_answer}
use Rattle.campaign.specs.Calls.{job_refusal, after_job, accepted_job, job_answer}
use Rattle.batch.specs.Batch.{Row, way_of, rows_of, equal_columns, rows_refusal, batch_refusal, BatchValues, no_job, with_job_done, accepted_rows, batch_answer}
use Rattle.customers.proofs.CustomerLaws.{Other, two_customers_lem, lowered_other}
use Rattle.campaign.proofs.Grid.{InGrid}
use Rattle.campaign.proofs.JobRefusal.{no_job_fault}
use Rattle.batch.proofs.Refusal.{row_fault, rows_rest}
use Rattle.campaign.proofs.CustomerLaws.{opened_other, job_other, opened_lawful, lowered_lawful, job_lawful}
use Rattle.demands.specs.Customers.{Act, opening, lowering, job, batch, status, Success, map_answer, answer_to, grid_after}
use Rattle.demands.proofs.Accepted.{accepted_opening, accepted_lowering, accepted_campaign}

-- A statement that holds of the grid before, and of the one answered if nothing refuses, holds of the one after.
after_mapped : {A : Type 0} (P : Grid → Type 0) (f : A → Success) (n : ℕ) (v : A) (g : Grid) → P g → (n ≡ 0 → P (f v).grid)
    → P (afterwards (λ w. w.grid) (map_answer f (answer_unless n v)) g)
unfolding afterwards map_answer answer_unless
after_mapped P f zero v g before then = then refl
after_mapped P f (suc n) v g before then = before

-- What every job inside the grid keeps, the jobs of a call keep that finds none at fault by whatever marks.
rows_keep : (customer : ℕ) (a b : List Site) (P : Grid → Type 0)
    → ((g : Grid) (count : ℕ) (j : Job) → InGrid g.first_strips g.second_strips j → P g
    → P (after_job customer g count j))
    → (v : BatchValues) (marks : List ℕ) (l : List Row)
    → rows_refusal v.grid.first_strips v.grid.second_strips marks l ≡ 0
    → P v.grid → P (accepted_rows customer a b v l).grid
unfolding accepted_rows with_job_done accepted_job after_job with_campaign
rows_keep customer a b P step v marks [] ok now = now
rows_keep customer a b P step v marks (x ∷ l) ok now =
    let inside = (no_job_fault _ _ marks x.job (row_fault _ _ marks x l ok)).0 in
    rows_keep customer a b P step (with_job_done v (accepted_job (way_of x.way) customer v.grid a b v.results x.job)) (set marks (mark_of x.job) 1) l (rows_rest _ _ marks x l ok) (step v.grid _ x.job inside now)

module _ (customer : ℕ) (g : Grid) (a b : Columns) (r : Results) where
  -- The grid stays, or an opening, a lowering, a job or several are accepted.
  grid_after_lem : (P : Grid → Type 0) → P g
      → ((k : ℕ) (ends ends' : List ℕ) → open_refusal customer g a b k ends ends' r ≡ 0 → P (opened customer g k))
      → ((k : ℕ) → lower_refusal customer g a b k r ≡ 0 → P (lowered customer g k))
      → (campaign_refusal customer g a b r ≡ 0
      → (h : Grid) (count : ℕ) (j : Job) → InGrid h.first_strips h.second_strips j → P h
      → P (after_job customer h count j))
      → (act : Act) → P (grid_after customer g a b r act)
  unfolding
      grid_after answer_to open_answer lower_answer job_answer job_refusal accepted_job batch_answer batch_refusal
      status_answer
  grid_after_lem P stays opens lowers does (opening k ends ends') = after_mapped P _ _ _ g stays (opens k ends ends')
  grid_after_lem P stays opens lowers does (lowering k) = after_mapped P _ _ _ g stays (lowers k)
  grid_after_lem P stays opens lowers does (job j way) =
      after_mapped P _ _ _ g stays
      (λ ok.
      let first = campaign_refusal customer g a b r in
      does (or_else_first first _ ok) g _ j (no_job_fault _ _ _ j (or_else_second first _ ok)).0 stays)
  grid_after_lem P stays opens lowers does (batch l) =
      after_mapped P _ _ _ g stays
      (λ ok.
      let first = campaign_refusal customer g a b r in
      let rows = or_else_second (refuse_if (not (equal_columns l)) 8) _ (or_else_second first _ ok) in
      rows_keep customer (sites a) (sites b) P (does (or_else_first first _ ok)) (no_job g r) _ (rows_of l) rows stays)
  grid_after_lem P stays opens lowers does status = after_mapped P _ _ _ g stays (λ h. stays)

  -- No call upsets the marks, nor changes the strips.
  grid_kept : (act : Act)
      → (let h = grid_after customer g a b r act in
      (h.second_strips ≡ g.second_strips) × (lawful_grid h ≡ lawful_grid g))
  unfolding opened lowered after_job with_campaign
  grid_kept =
      grid_after_lem (λ h. (h.second_strips ≡ g.second_strips) × (lawful_grid h ≡ lawful_grid g)) (refl, refl)
      (λ k ends ends' ok.
      let o = accepted_opening customer g a b k ends ends' r ok in
      (refl, opened_lawful customer g k o.lawful ∙ sym o.lawful))
      (λ k ok. (refl, lowered_lawful customer g k))
      (λ ok h count j inside now.
      let o = accepted_campaign customer g a b r ok in
      (now.0, job_lawful customer h count j (rw now.0 o.few) inside (now.1 ∙ o.lawful) ∙ sym o.lawful))

  pub grid_lawful : (act : Act) → lawful_grid (grid_after customer g a b r act) ≡ lawful_grid g
  grid_lawful act = (grid_kept act).1

-- Nor another customer's campaign.
pub campaign_kept : (customer other : ℕ) (g : Grid) (a b : Columns) (r : Results) (act : Act) → is_customer customer ≡ true
    → (other ≡ customer → ⊥) → campaign_as customer (grid_after other g a b r act) ≡ campaign_as customer g
campaign_kept customer other g a b r act c apart =
    let two : is_customer other ≡ true → Other other customer = λ o. two_customers_lem other customer o c (λ e. apart (sym e)) in
    grid_after_lem other g a b r (λ h. campaign_as customer h ≡ campaign_as customer g) refl
    (λ k ends ends' ok. opened_other other g customer k (two (accepted_opening other g a b k ends ends' r ok).number))
    (λ k ok. lowered_other other g customer k (two (accepted_lowering other g a b k r ok)))
    (λ ok h count j inside now. job_other other h customer count j (two (accepted_campaign other g a b r ok).number) ∙ now)
    act
