-- Refusal 7 whole: its tests in an order in which each may rest on those before.
use mathlib.Core.Path.{◌≡◌, refl, sym, ap, ◌∙◌}
use mathlib.Core.Bool.{Bool, true, false, not, cond, ◌&&◌, and_assoc, and-false}
use mathlib.Core.List.{List}
use Prim.Native.Nat.{ℕ, ◌≤◌, ◌<◌}
use native.Mathlib.Omega.{arith}
use lib.Dec.{eqb}
use lib.IntN.{ℤ}
use lib.ListN.{length, take}
use Rattle.order.specs.Order.{ascending}
use Rattle.order.specs.Lists.{all}
use Rattle.site.specs.Site.{Site}
use Rattle.site.specs.SiteList.{Columns, raised, sites}
use Rattle.site.specs.Terms.{Level, Numbered}
use Rattle.site.specs.Refusal.{list_refusal, lists_refusal}
use Rattle.site.proofs.Accepted.{both_accepted, accepted_level, accepted_coordinates, accepted_heights}
use Rattle.site.proofs.SiteList.{sites_length}
use Rattle.site.proofs.Tests.{and_first, and_second}
use Rattle.site.specs.Answer.{refuse_if}
use Rattle.site.proofs.Answer.{or_else_first, or_else_second, fault_none}
use Rattle.entry.specs.declared.Entry.{Entry}
use Rattle.entry.specs.Entry.{rank_before, lawful_k}
use Rattle.entry.specs.Results.{Results, entries_of, room_for}
use Rattle.entry.proofs.Results.{length_entries}
use Rattle.customers.specs.declared.Campaign.{Campaign}
use Rattle.customers.specs.declared.Grid.{Grid}
use Rattle.customers.specs.Customers.{is_customer, campaign_as}
use Rattle.campaign.specs.Soundness.{first_ends, second_ends, sound_entry, sound, lawful_grid, customer_refusal, caller_refusal, keeper_refusal}
use Rattle.campaign.specs.Terms.{LawfulColumns, lawful_slots, sound_plan}
use Rattle.campaign.specs.Internal.{sound_entries}
use Rattle.campaign.proofs.LawfulEnds.{lawful_cut}
use Rattle.campaign.proofs.SoundPlan.{plan_parts, settled_in_use}
use Rattle.campaign.proofs.EntryCount.{sound_few, total, right_count, count_above, count_full, count_decides}

-- ---- the tests

regroup : (k f s rest : Bool) → (k && (f && (s && rest))) ≡ ((k && (f && s)) && rest)
regroup true true s rest = refl
regroup true false s rest = refl
regroup false f s rest = refl

module _ (c : Campaign) (a b : List Site) (r : Results) where
  sound_is : sound c a b r ≡ (sound_plan c (length a) (length b) &&
      (room_for c.k r && (sound_entries c a b r && right_count c a b)))
  unfolding sound sound_plan lawful_slots first_ends second_ends right_count sound_entries
  sound_is =
      regroup (lawful_k c.k) (lawful_slots (length a) c.first_strips c.first_ends)
      (lawful_slots (length b) c.second_strips c.second_ends) _
      ∙ ap (λ (t : Bool). sound_plan c (length a) (length b) && (room_for c.k r && t))
      (sym (and_assoc (ascending rank_before (entries_of c.entries r))
      (all (sound_entry c.marks (first_ends c) (second_ends c) a b) (entries_of c.entries r)) (right_count c a b)))

  pub order_fails : ascending rank_before (entries_of c.entries r) ≡ false → false ≡ sound_entries c a b r
  unfolding sound_entries
  order_fails h = simp h

  -- `l` is the entries, as they were read.
  pub entries_decide : {l : List Entry} → l ≡ entries_of c.entries r → ascending rank_before (entries_of c.entries r) ≡ true → {t : Bool}
      → t ≡ all (sound_entry c.marks (take c.first_strips c.first_ends)
      (take c.second_strips c.second_ends) a b) l
      → t ≡ sound_entries c a b r
  unfolding sound_entries first_ends second_ends
  entries_decide read h e = e ∙ rw read (simp h)

-- The entries of a campaign, in order and with no fault, are not more than its pair total.
entries_low : (c : Campaign) (a b : List Site) (r : Results) → length c.first_ends ≡ 32 → length c.second_ends ≡ 32
    → sound_plan c (length a) (length b) ≡ true → sound_entries c a b r ≡ true → length (entries_of c.entries r) ≤ total c a b
unfolding sound_entries
entries_low c a b r long long' plan h =
    let p = plan_parts c (length a) (length b) plan in
    let l = entries_of c.entries r in
    let up = ascending rank_before l in
    let each = all (sound_entry c.marks (first_ends c) (second_ends c) a b) l in
    rw (settled_in_use c long long' p)
    (sound_few c.marks (first_ends c) (second_ends c) a b (lawful_cut (length a) (first_ends c) p.first)
    (lawful_cut (length b) (second_ends c) p.second) l (and_first up each h) (and_second up each h))

module _ (c : Campaign) (a b : Columns) (r : Results) (la : Level a) (lb : Level b) where
  pub steps : sound c (sites a) (sites b) r
      ≡ (sound_plan c (length a.x) (length b.x) &&
      (room_for c.k r && (sound_entries c (sites a) (sites b) r && right_count c (sites a) (sites b))))
  steps = sound_is c (sites a) (sites b) r ∙ rw (sites_length a la, sites_length b lb)

  pub plan_fails : sound_plan c (length a.x) (length b.x) ≡ false → false ≡ sound c (sites a) (sites b) r
  plan_fails h = sym (steps ∙ simp h)

  module _ (plan : sound_plan c (length a.x) (length b.x) ≡ true) where
    pub room_fails : room_for c.k r ≡ false → false ≡ sound c (sites a) (sites b) r
    room_fails h = sym (steps ∙ simp (plan, h))

    module _ (room : room_for c.k r ≡ true) where
      pub too_many : c.k < c.entries → false ≡ sound c (sites a) (sites b) r
      too_many h =
          let above = count_above c (sites a) (sites b) h in
          sym (steps ∙ simp (plan, room, above, and-false (sound_entries c (sites a) (sites b) r)))

      module _ {q : Bool} (told : q ≡ sound_entries c (sites a) (sites b) r) where
        pub entries_fail : q ≡ false → false ≡ sound c (sites a) (sites b) r
        entries_fail h = sym (steps ∙ simp (plan, room, ← told, h))

        module _ (h : q ≡ true) where
          past_entries : sound c (sites a) (sites b) r ≡ right_count c (sites a) (sites b)
          past_entries = steps ∙ simp (plan, room, ← told, h)

          -- K entries: there are at least K pairs.
          pub full_sound : length c.first_ends ≡ 32 → length c.second_ends ≡ 32 → c.entries ≡ c.k
              → true ≡ sound c (sites a) (sites b) r
          full_sound long long' full =
              let many = length_entries c.k c.entries r room (omega arith) in
              let low = entries_low c (sites a) (sites b) r long long' (rw (sites_length a la, sites_length b lb) plan) (sym told ∙ h) in
              sym (past_entries ∙ count_full c (sites a) (sites b) full (omega arith))

          -- Fewer: the total decides.
          pub total_decides : c.entries ≤ c.k → (c.entries ≡ c.k → ⊥) → {n : ℕ} → n ≡ total c (sites a) (sites b)
              → eqb c.entries n ≡ sound c (sites a) (sites b) r
          total_decides most below is = count_decides c (sites a) (sites b) most below is ∙ sym past_entries

-- ---- the refusal

-- The coordinate columns of an accepted list.
pub accepted_columns : (xs ys : List ℤ) (ns : List ℕ) (hs : List ℤ) → list_refusal (raised xs ys ns hs) ≡ 0 → LawfulColumns xs ys hs
accepted_columns xs ys ns hs ok =
    record { plane = accepted_coordinates (raised xs ys ns hs) ok; heights = accepted_heights xs ys ns hs ok }

-- Who calls, and with which lists.
module _ (customer : ℕ) (a b : Columns) where
  -- A caller who is not refused: a customer, with lists that have no fault.
  pub accepted_caller : caller_refusal customer a b ≡ 0 → (is_customer customer ≡ true) × (lists_refusal a b ≡ 0)
  unfolding caller_refusal customer_refusal
  accepted_caller ok =
      let other = refuse_if (not (is_customer customer)) 15 in
      (fault_none (is_customer customer) 14 (or_else_first other _ ok), or_else_second other _ ok)

  pub caller_lists : caller_refusal customer a b ≡ 0 → (list_refusal a ≡ 0) × (list_refusal b ≡ 0)
  caller_lists ok = both_accepted a b (accepted_caller ok).1

-- Lists of a caller who was not refused: their columns, and what holds of them whatever their sites' numbers.
module _ (customer : ℕ) (ax ay : List ℤ) (an : List ℕ) (ah bx by : List ℤ) (bn : List ℕ) (bh : List ℤ)
    (ok : caller_refusal customer (raised ax ay an ah) (raised bx by bn bh) ≡ 0) where
  lists : (list_refusal (raised ax ay an ah) ≡ 0) × (list_refusal (raised bx by bn bh) ≡ 0)
  lists = caller_lists customer (raised ax ay an ah) (raised bx by bn bh) ok

  pub caller_columns : LawfulColumns ax ay ah × LawfulColumns bx by bh
  caller_columns = (accepted_columns ax ay an ah lists.0, accepted_columns bx by bn bh lists.1)

  pub caller_numbered : {holds : List Site → List Site → Type 0} → Numbered ax ay ah bx by bh holds
      → holds (sites (raised ax ay an ah)) (sites (raised bx by bn bh))
  caller_numbered told = told.numbered an bn (accepted_level _ lists.0) (accepted_level _ lists.1)

-- The keeper's faults.
module _ (customer : ℕ) (g : Grid) (a b : List Site) (r : Results) where
  pub sound_decides : lawful_grid g ≡ true → {c : Campaign} → c ≡ campaign_as customer g → {t : Bool} → sound c a b r ≡ t
      → cond (not t) 7 0 ≡ keeper_refusal customer g a b r
  unfolding keeper_refusal
  sound_decides h e w = simp (h, ← e, w)
