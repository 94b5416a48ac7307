-- The tests of several jobs in one call, one after another; a call that is not refused has no more jobs than the grid has marks.
use mathlib.Core.Path.{◌≡◌, refl, sym, ap, ◌∙◌}
use mathlib.Core.Bool.{true, false, not}
use mathlib.Core.List.{List, [], ◌∷◌, zip_with}
use Prim.Native.Nat.{ℕ, ◌+◌, ◌≤◌, ◌<◌}
use native.Mathlib.Numerals.{add-one}
use native.Mathlib.Omega.{arith}
use lib.Dec.{eqb}
use lib.ListN.{length, get_or, set, drop, length-set, drop_of_length-le}
use lib.Seq.{drop-cons}
use borrow.Author.Tests.{eqb-true}
use Rattle.order.specs.Lists.{keep}
use Rattle.order.proofs.Lists.{length_keep, length_keep_set, length_zip}
use Rattle.site.specs.Answer.{refuse_if, or_else}
use Rattle.site.specs.SiteList.{Columns}
use Rattle.site.specs.Terms.{Level}
use Rattle.site.proofs.Tests.{and_first, and_second}
use Rattle.site.proofs.Answer.{first_refused, next_decides, or_none, or_else_first, or_else_second, fault_none}
use Rattle.site.proofs.Accepted.{accepted_level}
use Rattle.entry.specs.Results.{Results}
use Rattle.customers.specs.declared.Campaign.{Campaign}
use Rattle.customers.specs.declared.Grid.{Grid}
use Rattle.customers.specs.Customers.{campaign_as}
use Rattle.campaign.specs.Grid.{mark_of, settled}
use Rattle.campaign.specs.Calls.{job_fault}
use Rattle.campaign.specs.Soundness.{campaign_refusal}
use Rattle.batch.specs.Batch.{Batch, batch_of, Row, row_of, rows_of, equal_columns, lawful_way, rows_refusal, batch_refusal}
use Rattle.batch.specs.Internal.{EqualColumns, RowsAsked}
use Rattle.campaign.proofs.MarkLaws.{mark_below}
use Rattle.campaign.proofs.SoundPlan.{plan_parts}
use Rattle.campaign.proofs.SoundCampaign.{SoundCampaign, sound_campaign, campaign_ready}
use Rattle.campaign.proofs.JobRefusal.{no_job_fault}

-- ---- the jobs from a place of the columns on

abbrev pub left_from : ℕ → List ℕ → List ℕ → List ℕ → List Row
left_from i first second way = rows_of (batch_of (drop i first) (drop i second) (drop i way))

module _ (first second way : List ℕ) (equal : EqualColumns first second way) where
  pub left_at : {i : ℕ} → i < length way
      → left_from i first second way
      ≡ row_of (get_or first i 0) (get_or second i 0) (get_or way i 0) ∷ left_from (i + 1) first second way
  unfolding rows_of zip_with
  left_at {i} inside =
      rw (
        drop-cons first i 0 (omega (arith, equal.0)),
        drop-cons second i 0 (omega (arith, equal.1)),
        drop-cons way i 0 inside,
        add-one i,
      )
      refl

  pub left_end : {i : ℕ} → length way ≤ i → left_from i first second way ≡ []
  unfolding rows_of zip_with
  left_end {i} h =
      let past : length first ≤ i = omega (arith, equal.0) in
      let none : drop i first ≡ [] = drop_of_length-le first past in
      rw none refl

  pub rows_length : length (rows_of (batch_of first second way)) ≡ length way
  unfolding rows_of
  rows_length = simp length_zip (omega (arith, equal.0, equal.1))

-- ---- the tests of a job in their order

module _ (rows cols : ℕ) (marks : List ℕ) (x : Row) (l : List Row) where
  pub other_way : lawful_way x.way ≡ false → 8 ≡ rows_refusal rows cols marks (x ∷ l)
  unfolding rows_refusal or_else
  other_way h = simp h

  -- Of a job by one of the ways its other tests decide.
  by_way : lawful_way x.way ≡ true
      → or_else (job_fault rows cols marks x.job) (rows_refusal rows cols (set marks (mark_of x.job) 1) l)
      ≡ rows_refusal rows cols marks (x ∷ l)
  unfolding rows_refusal
  by_way h = sym (or_none (refuse_if (not (lawful_way x.way)) 8) _ (rw h refl))

  module _ (lawful : lawful_way x.way ≡ true) where
    pub row_refused : {q : ℕ} → q ≡ job_fault rows cols marks x.job → (q ≡ 0 → ⊥) → q ≡ rows_refusal rows cols marks (x ∷ l)
    row_refused is h = first_refused (rows_refusal rows cols (set marks (mark_of x.job) 1) l) is h ∙ by_way lawful

    pub row_accepted : job_fault rows cols marks x.job ≡ 0
        → rows_refusal rows cols (set marks (mark_of x.job) 1) l ≡ rows_refusal rows cols marks (x ∷ l)
    row_accepted fine = next_decides (sym fine) refl refl ∙ by_way lawful

  -- The parts of a row that is not refused.
  module _ (ok : rows_refusal rows cols marks (x ∷ l) ≡ 0) where
    pub row_fault : job_fault rows cols marks x.job ≡ 0
    unfolding rows_refusal
    row_fault = or_else_first _ _ (or_else_second (refuse_if (not (lawful_way x.way)) 8) _ ok)

    pub rows_rest : rows_refusal rows cols (set marks (mark_of x.job) 1) l ≡ 0
    unfolding rows_refusal
    rows_rest =
        or_else_second (job_fault rows cols marks x.job) _ (or_else_second (refuse_if (not (lawful_way x.way)) 8) _ ok)

-- ---- how many they are

module _ {rows cols : ℕ} (few : rows ≤ 32) (few' : cols ≤ 32) where
  -- Each job takes a mark that is not yet 1.
  open_marks : (marks : List ℕ) → length marks ≡ 1024 → (l : List Row) → rows_refusal rows cols marks l ≡ 0
      → length l ≤ length (keep (λ m. not (eqb m 1)) marks)
  unfolding settled
  open_marks marks size [] ok = omega arith
  open_marks marks size (x ∷ l) ok =
      let mark = mark_of x.job in
      let w = no_job_fault rows cols marks x.job (row_fault rows cols marks x l ok) in
      let below : mark < length marks = omega (arith, mark_below rows cols few' x.job w.0 few, size) in
      omega (
        arith,
        length_keep_set (λ m. not (eqb m 1)) marks mark 1 0 below (ap not w.1) refl,
        open_marks (set marks mark 1) (length-set marks mark 1 ∙ size) l (rows_rest rows cols marks x l ok),
      )

  -- There are 1,024.
  batch_short : (marks : List ℕ) → length marks ≡ 1024 → (l : List Row) → rows_refusal rows cols marks l ≡ 0
      → length l ≤ 1024
  batch_short marks size l ok =
      omega (arith, open_marks marks size l ok, length_keep (λ m. not (eqb m 1)) marks, size)

-- So many stand in the columns.
pub columns_short : (first second way : List ℕ) → EqualColumns first second way → {c : Campaign} {n m : ℕ} {r : Results}
    → RowsAsked c n m r (rows_of (batch_of first second way)) → length c.marks ≡ 1024 → length way ≤ 1024
columns_short first second way equal {c} {n} {m} asked size =
    let p = plan_parts c n m asked.plan in
    omega (
      arith,
      rows_length first second way equal,
      batch_short p.rows p.cols c.marks size (rows_of (batch_of first second way)) asked.accepted,
    )

-- ---- the call

module _ (customer : ℕ) (g : Grid) (a b : Columns) (r : Results) (l : Batch) where
  -- What a call that is not refused is.
  module _ (ok : batch_refusal customer g a b r l ≡ 0) where
    pub batch_sound : SoundCampaign (campaign_as customer g) a b r
    unfolding batch_refusal
    batch_sound = sound_campaign customer g a b r refl (or_else_first (campaign_refusal customer g a b r) _ ok)

    past_seven : or_else (refuse_if (not (equal_columns l)) 8)
        (rows_refusal g.first_strips g.second_strips (campaign_as customer g).marks (rows_of l))
        ≡ 0
    unfolding batch_refusal
    past_seven = or_else_second (campaign_refusal customer g a b r) _ ok

    pub batch_equal : EqualColumns l.first l.second l.way
    unfolding equal_columns
    batch_equal =
        let both = fault_none (equal_columns l) 7 (or_else_first (refuse_if (not (equal_columns l)) 8) _ past_seven) in
        let e = eqb (length l.first) (length l.way) in
        let f = eqb (length l.second) (length l.way) in
        (eqb-true _ _ (and_first e f both), eqb-true _ _ (and_second e f both))

    pub batch_asked : RowsAsked (campaign_as customer g) (length a.x) (length b.x) r (rows_of l)
    unfolding campaign_as
    batch_asked = record {
      plan = batch_sound.plan;
      ready = campaign_ready (campaign_as customer g) a b r batch_sound;
      accepted = or_else_second (refuse_if (not (equal_columns l)) 8) _ past_seven;
    }

    pub batch_levels : Level a × Level b
    batch_levels = (accepted_level a batch_sound.lists.0, accepted_level b batch_sound.lists.1)
