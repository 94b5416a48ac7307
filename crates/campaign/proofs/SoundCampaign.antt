-- What a campaign that is not refused is.
use mathlib.Core.Path.{◌≡◌, refl, sym, ◌∙◌}
use mathlib.Core.Bool.{true, ◌&&◌}
use Prim.Native.Nat.{ℕ, ◌≤◌}
use lib.ListN.{length}
use Rattle.order.specs.Order.{ascending}
use Rattle.order.specs.Lists.{all}
use Rattle.order.specs.Terms.{Sorted}
use Rattle.order.proofs.Sorted.{ascending_ascends, ascends_sorted}
use Rattle.site.specs.SiteList.{Columns, sites}
use Rattle.site.specs.Refusal.{list_refusal}
use Rattle.site.proofs.Tests.{and_first, and_second}
use Rattle.site.proofs.Answer.{or_none, or_else_first, or_else_second, fault_none}
use Rattle.entry.specs.Entry.{rank_before}
use Rattle.entry.specs.Results.{Results, entries_of, room_for}
use Rattle.entry.specs.Terms.{Ready}
use Rattle.entry.proofs.Rank.{rank_order}
use Rattle.entry.proofs.Results.{length_entries}
use Rattle.customers.specs.declared.Campaign.{Campaign}
use Rattle.customers.specs.declared.Grid.{Grid}
use Rattle.customers.specs.Customers.{campaign_as}
use Rattle.campaign.specs.Soundness.{first_ends, second_ends, sound_entry, sound, lawful_grid, caller_refusal, keeper_refusal, campaign_refusal}
use Rattle.campaign.specs.Terms.{sound_plan}
use Rattle.campaign.specs.Internal.{sound_entries}
use Rattle.site.proofs.Accepted.{accepted_level}
use Rattle.campaign.proofs.SoundPlan.{PlanParts, plan_parts}
use Rattle.campaign.proofs.EntryCount.{right_count, count_few}
use Rattle.campaign.proofs.Sound.{steps, caller_lists, sound_decides}

-- The lists, the plan, room for the entries, and the entries in rank order, with no fault, as many as the pair total says.
pub record SoundCampaign (c : Campaign) (a b : Columns) (r : Results) : Type 0 where
  pub lists : (list_refusal a ≡ 0) × (list_refusal b ≡ 0)
  pub plan : sound_plan c (length a.x) (length b.x) ≡ true
  pub room : room_for c.k r ≡ true
  pub most : c.entries ≤ c.k
  pub order : ascending rank_before (entries_of c.entries r) ≡ true
  pub each : all (sound_entry c.marks (first_ends c) (second_ends c) (sites a) (sites b)) (entries_of c.entries r) ≡ true
  pub count : right_count c (sites a) (sites b) ≡ true

module _ (c : Campaign) (a b : Columns) (r : Results) where
  sound_by_tests : (list_refusal a ≡ 0) × (list_refusal b ≡ 0) → sound c (sites a) (sites b) r ≡ true → SoundCampaign c a b r
  unfolding sound_entries
  sound_by_tests ok h =
      let p = sound_plan c (length a.x) (length b.x) in
      let q = room_for c.k r in
      let o = ascending rank_before (entries_of c.entries r) in
      let e = all (sound_entry c.marks (first_ends c) (second_ends c) (sites a) (sites b)) (entries_of c.entries r) in
      let n = right_count c (sites a) (sites b) in
      let t : (p && (q && (o && e && n))) ≡ true =
      sym (steps c a b r (accepted_level a ok.0) (accepted_level b ok.1)) ∙ h in
      let u = and_second p (q && (o && e && n)) t in
      let v = and_second q (o && e && n) u in
      record {
        lists = ok;
        plan = and_first p (q && (o && e && n)) t;
        room = and_first q (o && e && n) u;
        most = count_few c (sites a) (sites b) (and_second (o && e) n v);
        order = and_first o e (and_first (o && e) n v);
        each = and_second o e (and_first (o && e) n v);
        count = and_second (o && e) n v;
      }

  module _ (w : SoundCampaign c a b r) where
    pub tests_sound : sound c (sites a) (sites b) r ≡ true
    unfolding sound_entries
    tests_sound =
        steps c a b r (accepted_level a w.lists.0) (accepted_level b w.lists.1)
        ∙ simp (w.plan, w.room, w.order, w.each, w.count)

    pub campaign_parts : PlanParts c (length a.x) (length b.x)
    campaign_parts = plan_parts c (length a.x) (length b.x) w.plan

    pub campaign_sorted : Sorted rank_before (entries_of c.entries r)
    campaign_sorted = ascends_sorted rank_order (entries_of c.entries r) (ascending_ascends rank_order (entries_of c.entries r) w.order)

    pub campaign_ready : Ready c.k c.entries r
    campaign_ready = record { room = w.room; most = w.most; sorted = campaign_sorted }

    pub campaign_length : length (entries_of c.entries r) ≡ c.entries
    campaign_length = length_entries c.k c.entries r w.room w.most

-- The lists are accepted, the grid's marks are lawful, and so is the customer's campaign.
module _ (customer : ℕ) (g : Grid) (a b : Columns) (r : Results) where
  abbrev c : Campaign
  c = campaign_as customer g

  kept : campaign_refusal customer g a b r ≡ 0 → (lawful_grid g && sound c (sites a) (sites b) r) ≡ true
  unfolding campaign_refusal keeper_refusal
  kept ok = fault_none _ 6 (or_else_second (caller_refusal customer a b) _ ok)

  pub sound_caller : campaign_refusal customer g a b r ≡ 0 → caller_refusal customer a b ≡ 0
  unfolding campaign_refusal
  sound_caller ok = or_else_first (caller_refusal customer a b) _ ok

  pub sound_grid : campaign_refusal customer g a b r ≡ 0 → lawful_grid g ≡ true
  sound_grid ok = and_first (lawful_grid g) (sound c (sites a) (sites b) r) (kept ok)

  pub sound_campaign : {q : ℕ} → q ≡ campaign_refusal customer g a b r → q ≡ 0 → SoundCampaign c a b r
  sound_campaign is z =
      let ok = sym is ∙ z in
      sound_by_tests c a b r (caller_lists customer a b (sound_caller ok))
      (and_second (lawful_grid g) (sound c (sites a) (sites b) r) (kept ok))

  -- Where all of that holds the campaign is not refused.
  pub not_refused : caller_refusal customer a b ≡ 0 → lawful_grid g ≡ true → SoundCampaign c a b r
      → campaign_refusal customer g a b r ≡ 0
  unfolding campaign_refusal
  not_refused caller lawful w =
      or_none (caller_refusal customer a b) _ caller
      ∙ sym (sound_decides customer g (sites a) (sites b) r lawful refl (tests_sound c a b r w))
