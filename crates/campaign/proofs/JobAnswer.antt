-- Whether a job is skipped, and what it leaves, skipped or swept.
use mathlib.Core.Path.{◌≡◌, refl, sym, ap, ap₂, ◌∙◌}
use mathlib.Core.Bool.{Bool, true, false, cond}
use mathlib.Core.List.{List, ◌++◌, map}
use Prim.Native.Nat.{ℕ, ◌-◌, ◌≤◌, ◌<◌}
use native.Mathlib.Omega.{arith}
use lib.Dec.{ltb}
use lib.Signed.{lt_z}
use lib.IntN.{ℤ}
use lib.ListN.{length, get_or, take}
use lib.Seq.{take_all}
use borrow.Author.Tests.{eq-eqb, ne_eqb}
use Rattle.order.specs.Terms.{Sorted}
use Rattle.order.proofs.Best.{length_best}
use Rattle.order.proofs.Sorted.{best_sorted, sorted_best}
use Rattle.std.specs.Prelude.{Result, Ok}
use Rattle.site.specs.declared.refusals.Refusal.{Refusal}
use Rattle.site.specs.Site.{Site}
use Rattle.site.specs.Answer.{afterwards, answer_of}
use Rattle.site.specs.SiteList.{Columns, raised, sites}
use Rattle.site.specs.Terms.{Level}
use Rattle.site.proofs.SiteList.{sites_x}
use Rattle.site.proofs.PositionOrder.{coordinates_sorted}
use Rattle.site.proofs.Answer.{result_ok, after_answered}
use Rattle.entry.specs.declared.Entry.{Entry}
use Rattle.entry.specs.Entry.{rank_before, best_k}
use Rattle.entry.specs.Results.{Results, entries_of, holding, room_for}
use Rattle.entry.proofs.Rank.{rank_order}
use Rattle.entry.proofs.Results.{length_entries, last_distance_column, holding_self, entries_holding, room_holding, room_fewer}
use Rattle.entry.proofs.Below.{lengths_of, lengths_holding}
use Rattle.sweep.specs.Strip.{Placed, strip, pairs}
use Rattle.sweep.specs.Scan.{beyond}
use Rattle.sweep.proofs.ScanLaws.{beyond_under}
use Rattle.sweep.proofs.LeftOf.{strip_by_x}
use Rattle.sweep.proofs.Strip.{length_strip}
use Rattle.halves.specs.Gap.{squared_strip_gap}
use Rattle.halves.proofs.HalvesLaws.{pairs_far}
use Rattle.join.specs.declared.Join.{Join}
use Rattle.join.specs.declared.Joined.{Joined}
use Rattle.join.specs.Join.{Counts, no_counts, join}
use Rattle.join.proofs.Counted.{Few, join_few}
use Rattle.join.specs.Terms.{JoinedTo}
use Rattle.join.proofs.JoinLaws.{join_best}
use Rattle.customers.specs.declared.Campaign.{Campaign}
use Rattle.customers.specs.declared.Grid.{Grid}
use Rattle.customers.specs.Customers.{campaign_as, with_campaign}
use Rattle.campaign.specs.declared.Outcome.TheVariants as outcome
use Rattle.campaign.specs.declared.JobDone.{JobDone}
use Rattle.campaign.specs.declared.Strip.{Strip}
use Rattle.campaign.specs.Grid.{strip_at, Job, job_of, job_pairs}
use Rattle.campaign.specs.Soundness.{first_ends, second_ends}
use Rattle.campaign.specs.Calls.{job_refusal, skips, job_entries, after_job, JobValues, job_values, accepted_job, job_answer, swept_by, counts_by, job_done_values}
use Rattle.campaign.specs.Terms.{LawfulColumns, JobAsked, ReadyFor}
use Rattle.campaign.specs.Internal.{strip_from, strip_to, StripOf, job_done}
use Rattle.campaign.proofs.SoundPlan.{strips_are, first_strip_lem, second_strip_lem}
use Rattle.campaign.proofs.CustomerLaws.{job_own}

-- ---- the columns that a join is lent

module _ (c : Campaign) {s t : ℕ} {p q : Strip} (is : StripOf (take c.first_strips c.first_ends) s p)
    (js : StripOf (take c.second_strips c.second_ends) t q) where
  -- What a join of the strips' places promises, of the strips by number.
  pub by_number_lem : (way : Join) (k : ℕ) (a b : List Site) (l : List Entry) {r r' : Results} {d : Joined}
      → JoinedTo (join way k (strip p.from p.to a) (strip q.from q.to b) l) r r' d
      → JoinedTo (join way k (strip_at (first_ends c) a s) (strip_at (second_ends c) b t) l) r r' d
  by_number_lem way k a b l w = let e = strips_are c is js a b in rw (e.0, e.1) at w

  -- ---- the test of a skip

  pub gap_decides : (a b : List Site) (r : Results) → room_for c.k r ≡ true → 0 < c.k → c.entries ≡ c.k
      → {test : Bool}
      → test ≡ ltb (get_or r.distance (c.entries - 1) 0) (squared_strip_gap (strip p.from p.to a) (strip q.from q.to b))
      → test ≡ skips c a b (entries_of c.entries r) (job_of s t)
  unfolding skips beyond
  gap_decides a b r room some h e =
      let full = length_entries c.k c.entries r room (omega arith) in
      let last = last_distance_column c.k c.entries r room (omega arith) (omega arith) in
      rw (full, eq-eqb c.entries c.k h, last, e, (strips_are c is js a b).0, (strips_are c is js a b).1)

pub not_full : (c : Campaign) (a b : List Site) (r : Results) (s t : ℕ) → room_for c.k r ≡ true → c.entries ≤ c.k →
    (c.entries ≡ c.k → ⊥)
    → false ≡ skips c a b (entries_of c.entries r) (job_of s t)
unfolding skips beyond
not_full c a b r s t room most h = simp (length_entries c.k c.entries r room most, ne_eqb c.entries c.k h)

-- ---- what a job leaves

-- What a job asks, of the customer's campaign as it was made.
module _ {c d : Campaign} (is : d ≡ c) where
  pub asked_as : {n m : ℕ} {j : Job} → JobAsked c n m j → JobAsked d n m j
  asked_as h = rw is h

  pub ready_as : {r : Results} → ReadyFor c r → ReadyFor d r
  ready_as h = rw is h

-- The x of a lawful list, whatever the numbers of its sites, never falls.
pub x_sorted : {xs ys hs : List ℤ} (ns : List ℕ) → LawfulColumns xs ys hs → Level (raised xs ys ns hs)
    → Sorted lt_z (map (λ s. s.x) (sites (raised xs ys ns hs)))
x_sorted {xs} {ys} {hs} ns lawful level = rw (sites_x (raised xs ys ns hs) level) (coordinates_sorted lawful.plane)

module _ (way : Join) (customer : ℕ) (g : Grid) (a b : List Site) (r : Results) (j : Job)
    (ready : ReadyFor (campaign_as customer g) r) where
  abbrev c : Campaign
  c = campaign_as customer g

  abbrev entries : List Entry
  entries = entries_of c.entries r

  -- What the job leaves of them and its pairs.
  abbrev left : List Entry
  left = job_entries c a b entries j

  abbrev first_strip : List Placed
  first_strip = strip_at (first_ends c) a j.first

  abbrev second_strip : List Placed
  second_strip = strip_at (second_ends c) b j.second

  old_length : length entries ≡ c.entries
  old_length = length_entries c.k c.entries r ready.room ready.most

  -- The entries are the best of themselves.
  own_best : best_k c.k entries ≡ entries
  unfolding best_k
  own_best =
      best_sorted rank_order c.k entries ready.sorted ∙ take_all c.k entries (omega (arith, old_length, ready.most))

  -- A skip leaves out no pair that could enter.
  skipped_entries : skips c a b entries j ≡ true → left ≡ entries
  unfolding skips job_entries job_pairs
  skipped_entries h =
      beyond_under c.k (squared_strip_gap first_strip second_strip) entries (pairs first_strip second_strip)
      (rw own_best h)
      (pairs_far first_strip second_strip)
      ∙ own_best

  -- `d` is the campaign as it was made.
  pub job_skipped : {d : Campaign} → d ≡ c → skips d a b (entries_of d.entries r) j ≡ true
      → {g' : Grid} → g' ≡ after_job customer g c.entries j
      → job_done_values r (job_done g' outcome.Skipped) ≡ accepted_job way customer g a b r j
  unfolding job_done_values swept_by counts_by accepted_job
  job_skipped is w {g'} e =
      let h : skips c a b entries j ≡ true = rw is at w in
      let same : left ≡ entries = skipped_entries h in
      let count : length left ≡ c.entries = ap (λ (l : List Entry). length l) same ∙ old_length in
      let after : g' ≡ after_job customer g (length left) j = e ∙ ap (λ (n : ℕ). after_job customer g n j) (sym count) in
      let columns : r ≡ holding left r =
      sym (holding_self c.k c.entries r ready.room ready.most) ∙ ap (λ (l : List Entry). holding l r) (sym same) in
      rw h (ap₂ (λ (d : Grid) (l : Results). job_values d l 0 no_counts) after columns)

  -- A join of strips in the order of x leaves the best of the entries and all pairs.
  module _ (sorted : Sorted lt_z (map (λ s. s.x) a)) (sorted' : Sorted lt_z (map (λ s. s.x) b)) where
    swept_entries : (join way c.k first_strip second_strip entries).entries ≡ left
    unfolding job_entries job_pairs strip_at
    swept_entries =
        join_best way c.k first_strip second_strip entries entries (strip_by_x _ _ a sorted) (strip_by_x _ _ b sorted') (sym own_best)

    pub job_swept : {d : Campaign} → d ≡ c → skips d a b (entries_of d.entries r) j ≡ false
        → {r' : Results} {joined : Joined}
        → JoinedTo (join way d.k (strip_at (first_ends d) a j.first) (strip_at (second_ends d) b j.second)
        (entries_of d.entries r)) r r' joined
        → {g' : Grid} → g' ≡ after_job customer g joined.entries j
        → job_done_values r' (job_done g' (outcome.Swept joined.counters)) ≡ accepted_job way customer g a b r j
    unfolding job_done_values swept_by counts_by accepted_job
    job_swept is k {r'} {joined} v {g'} e =
        let h : skips c a b entries j ≡ false = rw is at k in
        let w : JoinedTo (join way c.k first_strip second_strip entries) r r' joined = rw is at v in
        let count : joined.entries ≡ length left = w.entries ∙ ap (λ (l : List Entry). length l) swept_entries in
        let after : g' ≡ after_job customer g (length left) j = e ∙ ap (λ (n : ℕ). after_job customer g n j) count in
        let columns : r' ≡ holding left r = w.columns ∙ ap (λ (l : List Entry). holding l r) swept_entries in
        rw (h, after, columns, w.counts) refl

  most_left : length left ≤ c.k
  unfolding job_entries best_k
  most_left = omega (arith, length_best rank_before c.k (entries ++ job_pairs (first_ends c) (second_ends c) a b j))

  -- The columns are as long as before, and ready for the next job.
  pub job_lengths : lengths_of (accepted_job way customer g a b r j).results ≡ lengths_of r
  unfolding accepted_job
  job_lengths = lengths_holding left r (room_fewer r most_left ready.room)

  pub job_ready : (let v = accepted_job way customer g a b r j in ReadyFor (campaign_as customer v.grid) v.results)
  unfolding accepted_job job_entries best_k
  job_ready =
      rw (job_own customer g (length left) j)
      (record {
        room = room_holding c.k left r ready.room most_left;
        most = most_left;
        sorted = rw (entries_holding left r) (sorted_best rank_order c.k _);
      })

-- The grid and the result columns of a job that was done.
pub done_grid : {v : JobValues} (r : Results) (d : JobDone) → job_done_values r d ≡ v → d.grid ≡ v.grid
unfolding job_done_values
done_grid r d w = ap (λ (v : JobValues). v.grid) w

pub done_results : {v : JobValues} (r : Results) (d : JobDone) → job_done_values r d ≡ v → r ≡ v.results
unfolding job_done_values
done_results r d w = ap (λ (v : JobValues). v.results) w

-- A job as its answer and the result columns tell it.
module _ (way : Join) (customer : ℕ) (g : Grid) (a b : Columns) (r : Results) (j : Job) where
  abbrev pub Done-as : Result JobDone Refusal → Results → Type 0
  Done-as d r' =
      let answer = job_answer way customer g a b r j in
      (answer_of (job_done_values r') d ≡ answer) × (r' ≡ afterwards (λ (v : JobValues). v.results) answer r)

  pub job_worked : job_refusal customer g a b r j ≡ 0 → (r' : Results) (d : JobDone)
      → job_done_values r' d ≡ accepted_job way customer g (sites a) (sites b) r j → Done-as (Ok d) r'
  unfolding job_answer
  job_worked ok r' d w = (
    result_ok (job_done_values r') d ok w,
    done_results r' d w ∙ after_answered (λ (v : JobValues). v.results) _ r ok,
  )

-- ---- how much a job counts

-- A strip of a job has a site, and no more than a list.
strip_some : (ends : List ℕ) (l : List Site) (s : ℕ) → length l ≤ 65_535
    → (strip_from ends s < strip_to ends s) × (strip_to ends s ≤ length l)
    → (0 < length (strip_at ends l s)) × (length (strip_at ends l s) ≤ 65_535)
unfolding strip_at strip_from strip_to
strip_some ends l s few h = let n = length_strip (strip_from ends s) (strip_to ends s) l in (omega (arith, n, h), omega (arith, n))

skipped_few : (skip : Bool) (c : Counts) → Few c → Few (cond skip no_counts c)
skipped_few true c h = record { looks = omega arith; distances = omega arith; range_pairs = omega arith }
skipped_few false c h = h

-- The slots of both lists' ends.
abbrev pub LongSlots : Grid → Type 0
LongSlots g = (length g.first_ends ≡ 32) × (length g.second_ends ≡ 32)

pub job_few_counts : (way : Join) (customer : ℕ) (g : Grid) (a b : List Site) (r : Results) (j : Job)
    → JobAsked (campaign_as customer g) (length a) (length b) j → length a ≤ 65_535 → length b ≤ 65_535 → LongSlots g
    → Few (accepted_job way customer g a b r j).counts
unfolding accepted_job campaign_as
job_few_counts way customer g a b r j asked few few' long =
    let c = campaign_as customer g in
    let old = entries_of c.entries r in
    let first = strip_at (first_ends c) a j.first in
    let second = strip_at (second_ends c) b j.second in
    let p = strip_some (first_ends c) a j.first few (first_strip_lem asked long.0) in
    let q = strip_some (second_ends c) b j.second few' (second_strip_lem asked long.1) in
    skipped_few (skips c a b old j) (join way c.k first second old).counts
    (join_few way c.k first second old p.0 q.0 p.1 q.1)

pub job_long : (way : Join) (customer : ℕ) (g : Grid) (a b : List Site) (r : Results) (j : Job) (r' : Results) (d : JobDone)
    → job_done_values r' d ≡ accepted_job way customer g a b r j → LongSlots g → LongSlots d.grid
unfolding accepted_job after_job with_campaign
job_long way customer g a b r j r' d w h = rw (done_grid r' d w) h
