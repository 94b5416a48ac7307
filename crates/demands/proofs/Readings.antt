-- What depends on a customer's reading and on the entries and the room of their columns alone.
use mathlib.Core.Path.{◌≡◌, refl, sym, ap, ap₂, ◌∙◌}
use mathlib.Core.List.{List, [], ◌∷◌}
use Prim.Native.Nat.{ℕ, ◌+◌, ◌-◌, ◌*◌}
use lib.ListN.{length}
use Rattle.site.specs.Site.{Site}
use Rattle.site.specs.SiteList.{Columns, sites}
use Rattle.entry.specs.Results.{Results, below, entries_of, holding, room_for}
use Rattle.entry.proofs.Results.{entries_below}
use Rattle.entry.proofs.Below.{below_holding}
use Rattle.join.specs.declared.Join.{Join}
use Rattle.customers.specs.declared.Campaign.{Campaign}
use Rattle.customers.specs.declared.Grid.{Grid}
use Rattle.customers.specs.Customers.{campaign_as, lowered}
use Rattle.customers.proofs.CustomerLaws.{lowered_campaign, lowered_own}
use Rattle.campaign.specs.Grid.{same_ends, Job, settled_jobs}
use Rattle.campaign.specs.Soundness.{first_ends, second_ends, sound, keeper_refusal, campaign_refusal}
use Rattle.campaign.specs.Calls.{grid_cuts, open_refusal, opened, lower_refusal, job_refusal, skips, job_entries, accepted_job, status_values}
use Rattle.batch.specs.Batch.{Batch, Row, way_of, batch_refusal, BatchValues, add_counts, with_job_done, accepted_rows}
use Rattle.campaign.proofs.CustomerLaws.{opened_campaign, done_campaign, opened_own, job_own}
use Rattle.demands.specs.Customers.{Reading, reading_of, reading, counted, Alike}

-- ---- two campaigns that read the same

pub record SameParts (c d : Campaign) : Type 0 where
  pub strips : c.first_strips ≡ d.first_strips
  pub strips' : c.second_strips ≡ d.second_strips
  pub ends : first_ends c ≡ first_ends d
  pub ends' : second_ends c ≡ second_ends d
  pub k : c.k ≡ d.k
  pub entries : c.entries ≡ d.entries
  pub marks : c.marks ≡ d.marks

same_parts : (c d : Campaign) → reading_of c ≡ reading_of d → SameParts c d
unfolding reading_of
same_parts c d e = record {
  strips = ap (λ (w : Reading). w.strips) e;
  strips' = ap (λ (w : Reading). w.strips') e;
  ends = ap (λ (w : Reading). w.ends) e;
  ends' = ap (λ (w : Reading). w.ends') e;
  k = ap (λ (w : Reading). w.k) e;
  entries = ap (λ (w : Reading). w.entries) e;
  marks = ap (λ (w : Reading). w.marks) e;
}

-- Columns in which a call finds the same: the entries, and the numbers that there is room for.
pub record SameColumns (count : ℕ) (r r' : Results) : Type 0 where
  pub shown : below count r ≡ below count r'
  pub room : (k : ℕ) → room_for k r ≡ room_for k r'

module _ {c d : Campaign} (p : SameParts c d) where
  settled_read : settled_jobs c ≡ settled_jobs d
  unfolding settled_jobs
  settled_read = rw (p.strips, p.strips', p.marks)

  module _ (r r' : Results) (shown : below d.entries r ≡ below d.entries r') where
    entries_read : entries_of c.entries r ≡ entries_of d.entries r'
    entries_read =
        rw p.entries
        (sym (entries_below d.entries r) ∙ ap (entries_of d.entries) shown ∙ entries_below d.entries r')

    sound_read : ((k : ℕ) → room_for k r ≡ room_for k r') → (a b : List Site) → sound c a b r ≡ sound d a b r'
    unfolding sound
    sound_read room a b = rw (
      entries_read,
      p.ends,
      p.ends',
      settled_read,
      p.strips,
      p.strips',
      p.k,
      p.entries,
      p.marks,
      room d.k,
    )

  -- What is read afterwards.
  opened_read : (k : ℕ) → reading_of (opened_campaign c k) ≡ reading_of (opened_campaign d k)
  unfolding reading_of first_ends second_ends
  opened_read k = rw (p.ends, p.ends', p.strips, p.strips', p.marks)

  lowered_read : (k : ℕ) → reading_of (lowered_campaign c k) ≡ reading_of (lowered_campaign d k)
  unfolding reading_of first_ends second_ends
  lowered_read k = rw (p.ends, p.ends', p.strips, p.strips', p.entries, p.marks)

  done_read : (count : ℕ) (j : Job) → reading_of (done_campaign c count j) ≡ reading_of (done_campaign d count j)
  unfolding reading_of first_ends second_ends
  done_read count j = rw (p.ends, p.ends', p.strips, p.strips', p.k, p.marks)

-- ---- two grids alike

module _ {customer : ℕ} {g h : Grid} (alike : Alike customer g h) where
  pub same : SameParts (campaign_as customer g) (campaign_as customer h)
  unfolding reading
  same = same_parts _ _ alike.read

  cuts_read : (ends ends' : List ℕ) → grid_cuts g ends ends' ≡ grid_cuts h ends ends'
  unfolding grid_cuts same_ends campaign_as first_ends second_ends
  cuts_read ends ends' = rw (same.ends, same.ends', same.strips, same.strips')

  -- What refuses a call.
  module _ {r r' : Results} (even : SameColumns (campaign_as customer h).entries r r') (a b : Columns) where
    pub opening_read : (k : ℕ) (ends ends' : List ℕ)
        → open_refusal customer g a b k ends ends' r ≡ open_refusal customer h a b k ends ends' r'
    unfolding open_refusal
    opening_read k ends ends' = rw (cuts_read ends ends', even.room k, alike.lawful)

    keeper_read : keeper_refusal customer g (sites a) (sites b) r ≡ keeper_refusal customer h (sites a) (sites b) r'
    unfolding keeper_refusal
    keeper_read = rw (alike.lawful, sound_read same r r' even.shown even.room (sites a) (sites b))

    pub lowering_read : (k : ℕ) → lower_refusal customer g a b k r ≡ lower_refusal customer h a b k r'
    unfolding lower_refusal
    lowering_read k = rw (same.k, keeper_read)

    pub campaign_read : campaign_refusal customer g a b r ≡ campaign_refusal customer h a b r'
    unfolding campaign_refusal
    campaign_read = rw keeper_read

    pub job_read : (j : Job) → job_refusal customer g a b r j ≡ job_refusal customer h a b r' j
    unfolding job_refusal campaign_as
    job_read j = rw (campaign_read, same.marks, same.strips, same.strips')

    pub batch_read : (l : Batch) → batch_refusal customer g a b r l ≡ batch_refusal customer h a b r' l
    unfolding batch_refusal campaign_as
    batch_read l = rw (campaign_read, same.marks, same.strips, same.strips')

  pub opened_reading : (k : ℕ) → reading customer (opened customer g k) ≡ reading customer (opened customer h k)
  unfolding reading
  opened_reading k = rw (opened_own customer g k, opened_own customer h k) (opened_read same k)

  pub lowered_reading : (k : ℕ) → reading customer (lowered customer g k) ≡ reading customer (lowered customer h k)
  unfolding reading
  lowered_reading k = rw (lowered_own customer g k, lowered_own customer h k) (lowered_read same k)

  pub status_read : (let c = campaign_as customer g in
      let d = campaign_as customer h in
      counted (status_values (length (settled_jobs c)) (c.first_strips * c.second_strips) c.entries c.k)
      ≡ counted (status_values (length (settled_jobs d)) (d.first_strips * d.second_strips) d.entries d.k))
  status_read = rw (settled_read same, same.strips, same.strips', same.entries, same.k)

-- ---- what jobs leave and tell

-- What the customer reads is the same, and the columns as far as the entries go; with `Whole`, all of the columns.
pub record SameLeft (customer : ℕ) (Whole : Type 0) (g h : Grid) (r r' : Results) : Type 0 where
  pub read : reading customer g ≡ reading customer h
  pub shown : below (reading customer h).entries r ≡ below (reading customer h).entries r'
  pub whole : Whole → r ≡ r'

-- An accepted job leaves the same, and tells the same.
pub done_left : {customer : ℕ} {Whole : Type 0} {g h : Grid} {r r' : Results} → SameLeft customer Whole g h r r'
    → (a b : List Site) (way : Join) (j : Job)
    → (let v = accepted_job way customer g a b r j in
    let w = accepted_job way customer h a b r' j in
    SameLeft customer Whole v.grid w.grid v.results w.results × (v.swept ≡ w.swept) × (v.counts ≡ w.counts))
unfolding accepted_job skips job_entries reading reading_of
done_left {customer} {Whole} {g} {h} {r} {r'} left a b way j =
    let parts = same_parts (campaign_as customer g) (campaign_as customer h) left.read in
    let d = campaign_as customer h in
    let l = job_entries d a b (entries_of d.entries r') j in
    let n = length l in
    rw (entries_read parts r r' left.shown, parts.ends, parts.ends', parts.k) (
      record {
        read = rw (job_own customer g n j, job_own customer h n j) (done_read parts n j);
        shown = rw (job_own customer h n j) (below_holding l r ∙ sym (below_holding l r'));
        whole = λ all. ap (holding l) (left.whole all);
      },
      refl,
      refl,
    )

-- So do several, one after another.
pub rows_left : {customer : ℕ} {Whole : Type 0} (v w : BatchValues)
    → SameLeft customer Whole v.grid w.grid v.results w.results → v.skipped ≡ w.skipped → v.counts ≡ w.counts
    → (a b : List Site) (l : List Row)
    → (let v' = accepted_rows customer a b v l in
    let w' = accepted_rows customer a b w l in
    SameLeft customer Whole v'.grid w'.grid v'.results w'.results
    × (v'.skipped ≡ w'.skipped)
    × (v'.counts ≡ w'.counts))
unfolding accepted_rows with_job_done
rows_left v w left skipped counts a b [] = (left, skipped, counts)
rows_left {customer = customer} {Whole = Whole} v w left skipped counts a b (x ∷ l) =
    let one = done_left left a b (way_of x.way) x.job in
    rows_left {customer = customer} {Whole = Whole} (with_job_done v (accepted_job (way_of x.way) customer v.grid a b v.results x.job))
    (with_job_done w (accepted_job (way_of x.way) customer w.grid a b w.results x.job)) one.0 (ap₂ (λ (n m : ℕ). n + (1 - m)) skipped one.1) (ap₂ add_counts counts one.2) a b l
