-- A job that is not refused leaves a campaign with no fault, whatever the campaign was.
use mathlib.Core.Path.{◌≡◌, sym, ap, ◌∙◌}
use mathlib.Core.Logic.{⊎_elim}
use mathlib.Core.Bool.{true, false}
use mathlib.Core.List.Memᴰ
use mathlib.Core.List.{List, [], ◌∷◌, ◌++◌, Memᴰ, Permᴰ}
use Prim.Native.Nat.{ℕ, ◌+◌, ◌≤◌, ◌<◌, min}
use native.Mathlib.Omega.{arith}
use lib.Dec.{eqb}
use lib.ListN.{length, set, length-append}
use borrow.Author.Tests.{eqb-true, eqb-false, eq-eqb}
use Rattle.order.specs.Order.{ascending}
use Rattle.order.specs.Lists.{keep, All, Distinct}
use Rattle.order.proofs.Order.{by_test, never_both}
use Rattle.order.proofs.Lists.{mem_all, all_mem, all_append, all_weaken, all_holds, holds_all, all_keep, keep_mem, mem_keep, perm_length, distinct_append, distinct_snoc, distinct_keep}
use Rattle.order.proofs.Best.{length_best}
use Rattle.order.proofs.Sorted.{all_best, ascends_ascending, ascends_distinct, ascending_ascends, ascends_best}
use Rattle.site.specs.SiteList.{Columns, sites}
use Rattle.site.proofs.Accepted.{accepted_length}
use Rattle.entry.specs.declared.Entry.{Entry}
use Rattle.entry.specs.Entry.{rank_before, best_k}
use Rattle.entry.specs.Results.{Results, entries_of, holding}
use Rattle.entry.proofs.Rank.{rank_order}
use Rattle.entry.proofs.Results.{entries_holding, room_holding}
use Rattle.sweep.proofs.Strip.{strip_pairs_distinct}
use Rattle.join.specs.declared.Join.{Join}
use Rattle.customers.specs.declared.Campaign.{Campaign}
use Rattle.customers.specs.declared.Grid.{Grid}
use Rattle.customers.specs.Customers.{campaign_as}
use Rattle.customers.proofs.CustomerLaws.{own_size}
use Rattle.campaign.specs.Grid.{Job, strip_at, jobs, mark_of, settled, settled_jobs, job_pairs, jobs_pairs}
use Rattle.campaign.specs.Soundness.{first_ends, second_ends, sound_entry, campaign_refusal}
use Rattle.campaign.specs.Calls.{job_refusal, job_entries, accepted_job}
use Rattle.campaign.specs.Terms.{sound_plan}
use Rattle.campaign.proofs.LawfulEnds.{Cut, lawful_cut}
use Rattle.campaign.proofs.Grid.{InGrid, same_job, jobs_in_grid, in_grid_jobs, inside_more, jobs_distinct, kept_jobs, jobs_pairs_snoc, jobs_pairs_perm, job_entry}
use Rattle.campaign.proofs.MarkLaws.{mark_below, mark_apart, settled_same, settled_other, settled_stays}
use Rattle.campaign.proofs.CustomerLaws.{done_campaign, job_own, job_lawful}
use Rattle.campaign.proofs.SoundEntry.{sound_of_job, of_job_sound}
use Rattle.campaign.proofs.SoundPlan.{PlanParts}
use Rattle.campaign.proofs.EntryCount.{total, right_count}
use Rattle.campaign.proofs.SoundCampaign.{SoundCampaign, campaign_parts, campaign_length, sound_caller, sound_grid, not_refused}
use Rattle.campaign.proofs.JobRefusal.{job_campaign, job_sound, job_open}

-- ---- the settled jobs, and one more

module _ (rows cols : ℕ) (few : cols ≤ 32) (marks : List ℕ) (j : Job) (inside : InGrid rows cols j)
    (below : mark_of j < length marks) (new : settled marks j ≡ false) where
  abbrev before : List Job
  before = keep (settled marks) (jobs rows cols)

  -- A job settled then was settled before, or is this one, ..
  then_before : (x : Job) → InGrid rows cols x → settled (set marks (mark_of j) 1) x ≡ true → Memᴰ x (before ++ (j ∷ []))
  then_before x g h =
      by_test (eqb (mark_of x) (mark_of j))
      (λ t.
      let same = same_job x j (mark_apart rows cols few j inside x g (eqb-true (mark_of x) (mark_of j) t)) in
      Memᴰ.append_right before (Memᴰ.head same))
      (λ f.
      let old = sym (settled_other marks x j (eqb-false (mark_of x) (mark_of j) f)) ∙ h in
      Memᴰ.append_left (j ∷ []) (mem_keep (settled marks) (jobs rows cols) (in_grid_jobs rows cols x g) old))

  -- .. and each of these is settled then.
  before_then : (x : Job) → Memᴰ x (before ++ (j ∷ [])) → settled (set marks (mark_of j) 1) x ≡ true
  before_then x m =
      ⊎_elim
      (λ (n : Memᴰ x before).
      settled_stays marks x j below (keep_mem (settled marks) (jobs rows cols) n).1)
      (λ (n : Memᴰ x (j ∷ [])). rw (Memᴰ.eq_of_singleton n) (settled_same marks j below))
      (Memᴰ.append_cases before m)

  settled_more : Permᴰ (before ++ (j ∷ [])) (keep (settled (set marks (mark_of j) 1)) (jobs rows cols))
  settled_more =
      let grid = jobs rows cols in
      let once =
      distinct_snoc j before (distinct_keep (settled marks) grid (jobs_distinct rows cols))
      (λ m. never_both (keep_mem (settled marks) grid m).1 new) in
      let all =
      inside_more j before inside
      (all_keep (settled marks) (InGrid rows cols) grid (mem_all (InGrid rows cols) grid (jobs_in_grid rows cols))) in
      kept_jobs rows cols (settled (set marks (mark_of j) 1)) (before ++ (j ∷ [])) once all then_before before_then

-- ---- a job of a campaign with no fault

module _ {c : Campaign} {a b : Columns} {r : Results} (w : SoundCampaign c a b r) (size : length c.marks ≡ 1024) (j : Job)
    (inside : InGrid c.first_strips c.second_strips j) (new : settled c.marks j ≡ false) where
  abbrev ends : List ℕ
  ends = first_ends c

  abbrev ends' : List ℕ
  ends' = second_ends c

  parts : PlanParts c (length a.x) (length b.x)
  parts = campaign_parts c a b r w

  below : mark_of j < length c.marks
  below = omega (arith, mark_below c.first_strips c.second_strips parts.cols j inside parts.rows, size)

  cut : Cut (length (sites a)) ends
  cut = rw (accepted_length a w.lists.0) (lawful_cut (length a.x) ends parts.first)

  cut' : Cut (length (sites b)) ends'
  cut' = rw (accepted_length b w.lists.1) (lawful_cut (length b.x) ends' parts.second)

  -- The entries before the job, its pairs, the entries it leaves, and the campaign with these.
  abbrev old : List Entry
  old = entries_of c.entries r

  abbrev pairs : List Entry
  pairs = job_pairs ends ends' (sites a) (sites b) j

  abbrev left : List Entry
  left = job_entries c (sites a) (sites b) old j

  abbrev d : Campaign
  d = done_campaign c (length left) j

  -- By these marks an entry has no fault.
  abbrev Sound : List ℕ → Entry → Type 0
  Sound marks e = sound_entry marks ends ends' (sites a) (sites b) e ≡ true

  old_sound : All (Sound c.marks) old
  old_sound = all_holds _ old w.each

  -- The pair total grows by the job's pairs.
  total_more : total d (sites a) (sites b) ≡ total c (sites a) (sites b) + length pairs
  unfolding settled_jobs first_ends second_ends
  total_more =
      let more = settled_more c.first_strips c.second_strips parts.cols c.marks j inside below new in
      sym (perm_length (jobs_pairs_perm ends ends' (sites a) (sites b) more))
      ∙ ap (λ (l : List Entry). length l) (jobs_pairs_snoc ends ends' (sites a) (sites b) (settled_jobs c) j)
      ∙ length-append (jobs_pairs ends ends' (sites a) (sites b) (settled_jobs c)) pairs

  -- No entry is one of the job's pairs, as its job is settled.
  all_distinct : Distinct (old ++ pairs)
  unfolding job_pairs strip_at
  all_distinct =
      distinct_append old pairs (ascends_distinct rank_order old (ascending_ascends rank_order old w.order))
      (strip_pairs_distinct _ _ _ _ (sites a) (sites b))
      (λ e m n.
      let s = sound_of_job c.marks ends ends' (sites a) (sites b) e (all_mem (Sound c.marks) old_sound m) in
      let o = job_entry ends ends' (sites a) (sites b) cut cut' j e n in
      never_both (rw (o.holding, o.holding') at s.1) new)

  -- Each entry has no fault, be it an old one or one of the job's pairs.
  left_sound : All (Sound (set c.marks (mark_of j) 1)) left
  unfolding job_entries best_k
  left_sound =
      let marks = set c.marks (mark_of j) 1 in
      all_best rank_before (Sound marks) c.k (old ++ pairs)
      (all_append (Sound marks) old pairs
      (all_weaken (Sound c.marks) (Sound marks)
      (λ e h.
      let s = sound_of_job c.marks ends ends' (sites a) (sites b) e h in
      of_job_sound marks ends ends' (sites a) (sites b) _ e s.0 (settled_stays c.marks _ j below s.1))
      old old_sound)
      (mem_all (Sound marks) pairs
      (λ e m.
      of_job_sound marks ends ends' (sites a) (sites b) j e
      (job_entry ends ends' (sites a) (sites b) cut cut' j e m) (settled_same c.marks j below))))

  left_count : length left ≡ min c.k (length old + length pairs)
  unfolding job_entries best_k
  left_count = length_best rank_before c.k (old ++ pairs) ∙ ap (min c.k) (length-append old pairs)

  left_right : right_count d (sites a) (sites b) ≡ true
  unfolding right_count
  left_right =
      let count = eqb-true c.entries (min c.k (total c (sites a) (sites b))) w.count in
      eq-eqb (length left) (min c.k (total d (sites a) (sites b)))
      (omega (arith, left_count, total_more, campaign_length c a b r w))

  left_order : ascending rank_before left ≡ true
  unfolding job_entries best_k
  left_order = ascends_ascending rank_before left (ascends_best rank_order c.k (old ++ pairs) all_distinct)

  sound_after : SoundCampaign d a b (holding left r)
  unfolding first_ends second_ends sound_plan
  sound_after =
      let most : length left ≤ c.k = omega (arith, left_count) in
      record {
        lists = w.lists;
        plan = w.plan;
        room = room_holding c.k left r w.room most;
        most = most;
        order = rw (entries_holding left r) left_order;
        each = rw (entries_holding left r) (holds_all _ left left_sound);
        count = left_right;
      }

-- ---- the job

pub job_leaves_sound : (way : Join) (customer : ℕ) (g : Grid) (a b : Columns) (r : Results) (j : Job)
    → length g.marks ≡ 1024 → job_refusal customer g a b r j ≡ 0
    → let v = accepted_job way customer g (sites a) (sites b) r j in
    campaign_refusal customer v.grid a b v.results ≡ 0
unfolding accepted_job campaign_as
job_leaves_sound way customer g a b r j size ok =
    let ok' = job_campaign customer g a b r j.first j.second ok in
    let w = job_sound customer g a b r j.first j.second ok in
    let fresh = job_open customer g a b r j.first j.second ok in
    let few = (campaign_parts _ a b r w).cols in
    not_refused customer _ a b _ (sound_caller customer g a b r ok')
    (job_lawful customer g _ j few fresh.0 (sound_grid customer g a b r ok'))
    (rw (job_own customer g _ j) (sound_after w (own_size customer g ∙ size) j fresh.0 fresh.1))
