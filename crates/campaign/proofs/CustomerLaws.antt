-- Laws of the calls of two customers on one grid: what a call of one of them does to the campaign of each, and to the marks.
use mathlib.Core.Path.{◌≡◌, refl, ◌∙◌}
use mathlib.Core.Bool.{true}
use mathlib.Core.List.{List}
use Prim.Native.Nat.{ℕ, ◌≤◌}
use native.Mathlib.Omega.{arith}
use lib.ListN.{length, set, replicate}
use Rattle.customers.specs.declared.Campaign.{Campaign}
use Rattle.customers.specs.declared.Grid.{Grid}
use Rattle.customers.specs.Customers.{with_own, cleared, settled_at, campaign_as, with_campaign, lowered}
use Rattle.campaign.specs.Grid.{Job, mark_of, lawful_marks, settle}
use Rattle.campaign.specs.Soundness.{lawful_grid}
use Rattle.campaign.specs.Calls.{prepared, opened, after_job}
use Rattle.customers.proofs.CustomerLaws.{Other, renewed, own_most, own_zero, own_cleared, other_cleared, own_settled, other_settled, own_size, with_own_lem, with_other}
use Rattle.campaign.proofs.Grid.{InGrid}
use Rattle.campaign.proofs.MarkLaws.{mark_most, mark_instead, lawful_zeros, lawful_at, lawful_map, lawful_job}

-- ---- one campaign

-- Opened with K, and with a job settled and that many entries.
abbrev pub opened_campaign : Campaign → ℕ → Campaign
opened_campaign c k = renewed c k 0 (replicate (length c.marks) 0)

abbrev pub done_campaign : Campaign → ℕ → Job → Campaign
done_campaign c count j = renewed c c.k count (set c.marks (mark_of j) 1)

module _ (customer : ℕ) where
  -- Marks within 0 to 3 and inside the jobs stay so.
  module _ (rows cols : ℕ) (marks : List ℕ) (h : lawful_marks rows cols 0 marks ≡ true) where
    lawful_cleared : lawful_marks rows cols 0 (cleared customer marks) ≡ true
    unfolding cleared
    lawful_cleared =
        lawful_map rows cols (with_own customer 0)
        (λ i m l. mark_instead rows cols i m _ l (own_most customer 0 m (omega arith) (mark_most rows cols i m l)) (λ z. rw z (own_zero customer))) 0
        marks h

    lawful_settle : cols ≤ 32 → (j : Job) → InGrid rows cols j → lawful_marks rows cols 0 (settle customer marks j) ≡ true
    unfolding settled_at
    lawful_settle few j g =
        lawful_job rows cols few j g _ marks (own_most customer 1 _ (omega arith) (lawful_at rows cols 0 (mark_of j) marks h)) h

  -- ---- the campaigns on a grid

  module _ (g : Grid) where
    pub opened_own : (k : ℕ) → campaign_as customer (opened customer g k) ≡ opened_campaign (campaign_as customer g) k
    unfolding opened
    opened_own k = with_own_lem customer g k 0 _ ∙ rw (own_cleared customer g.marks, own_size customer g)

    pub opened_other : (other k : ℕ) → Other customer other → campaign_as other (opened customer g k) ≡ campaign_as other g
    unfolding opened
    opened_other other k o = with_other customer g other k 0 _ o (other_cleared customer other g.marks o)

    pub job_own : (count : ℕ) (j : Job) → campaign_as customer (after_job customer g count j) ≡ done_campaign (campaign_as customer g) count j
    unfolding after_job campaign_as
    job_own count j = with_own_lem customer g _ count _ ∙ rw (own_settled customer g.marks (mark_of j))

    pub job_other : (other count : ℕ) (j : Job) → Other customer other → campaign_as other (after_job customer g count j) ≡ campaign_as other g
    unfolding after_job
    job_other other count j o = with_other customer g other _ count _ o (other_settled customer other g.marks (mark_of j) o)

    -- ---- the grid's marks

    pub opened_lawful : (k : ℕ) → lawful_grid g ≡ true → lawful_grid (opened customer g k) ≡ true
    unfolding lawful_grid opened with_campaign
    opened_lawful k h = lawful_cleared g.first_strips g.second_strips g.marks h

    pub lowered_lawful : (k : ℕ) → lawful_grid (lowered customer g k) ≡ lawful_grid g
    unfolding lawful_grid lowered with_campaign
    lowered_lawful k = refl

    pub job_lawful : (count : ℕ) (j : Job) → g.second_strips ≤ 32 → InGrid g.first_strips g.second_strips j
        → lawful_grid g ≡ true → lawful_grid (after_job customer g count j) ≡ true
    unfolding lawful_grid after_job with_campaign
    job_lawful count j few inside h = lawful_settle g.first_strips g.second_strips g.marks h few j inside

pub prepared_lawful : (ends ends' : List ℕ) → lawful_grid (prepared ends ends') ≡ true
unfolding lawful_grid prepared
prepared_lawful ends ends' = lawful_zeros (length ends) (length ends') 0 1024
