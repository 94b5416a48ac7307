-- What an accepted call says of its customer, its lists and the grid.
use mathlib.Core.Path.{◌≡◌, refl, ap₂}
use mathlib.Core.Bool.{true, not, ◌&&◌, and-eq-true_iff}
use mathlib.Core.List.{List, [], ◌∷◌}
use Prim.Native.Nat.{ℕ, ◌≤◌}
use lib.Dec.{eqb}
use lib.ListN.{length, take}
use borrow.Author.Tests.{eqb-true}
use Rattle.order.proofs.Order.{never_both}
use Rattle.site.specs.Answer.{refuse_if}
use Rattle.site.specs.SiteList.{Columns}
use Rattle.site.specs.Refusal.{lists_refusal}
use Rattle.site.proofs.Answer.{or_else_first, or_else_second, fault_none}
use Rattle.entry.specs.Entry.{lawful_k}
use Rattle.entry.specs.Results.{Results, room_for}
use Rattle.customers.specs.declared.Grid.{Grid}
use Rattle.customers.specs.Customers.{is_customer, campaign_as}
use Rattle.campaign.specs.Grid.{lawful_ends, same_numbers, same_ends}
use Rattle.campaign.specs.Soundness.{lawful_grid, caller_refusal, campaign_refusal}
use Rattle.campaign.specs.Calls.{lawful_cuts, grid_cuts, open_refusal, lower_refusal}
use Rattle.campaign.proofs.Sound.{accepted_caller}
use Rattle.campaign.proofs.SoundCampaign.{sound_caller, sound_grid, sound_campaign, campaign_parts}

-- ---- the ends of a grid

same_numbers_lem : (l m : List ℕ) → same_numbers l m ≡ true → l ≡ m
unfolding same_numbers
same_numbers_lem [] [] h = refl
same_numbers_lem [] (y ∷ m) h = never_both h refl
same_numbers_lem (x ∷ l) [] h = never_both h refl
same_numbers_lem (x ∷ l) (y ∷ m) h =
    let w = (and-eq-true_iff (eqb x y) (same_numbers l m)).0 h in
    ap₂ (λ (n : ℕ) (r : List ℕ). n ∷ r) (eqb-true x y w.0) (same_numbers_lem l m w.1)

same_ends_lem : (strips : ℕ) (slots ends : List ℕ) → same_ends strips slots ends ≡ true
    → (strips ≡ length ends) × (take strips slots ≡ ends)
unfolding same_ends
same_ends_lem strips slots ends h =
    let w = (and-eq-true_iff (eqb strips (length ends)) (same_numbers (take strips slots) ends)).0 h in
    (eqb-true strips (length ends) w.0, same_numbers_lem (take strips slots) ends w.1)

-- ---- an accepted opening

pub record OpeningAccepted (customer : ℕ) (g : Grid) (a b : Columns) (k : ℕ) (ends ends' : List ℕ) (r : Results) : Type 0 where
  pub number : is_customer customer ≡ true
  pub lists : lists_refusal a b ≡ 0
  pub lawful_k : lawful_k k ≡ true
  pub cut : lawful_ends (length a.x) ends ≡ true
  pub cut' : lawful_ends (length b.x) ends' ≡ true
  pub grid_ends : (g.first_strips ≡ length ends) × (take g.first_strips g.first_ends ≡ ends)
  pub grid_ends' : (g.second_strips ≡ length ends') × (take g.second_strips g.second_ends ≡ ends')
  pub room : room_for k r ≡ true
  pub lawful : lawful_grid g ≡ true

pub accepted_opening : (customer : ℕ) (g : Grid) (a b : Columns) (k : ℕ) (ends ends' : List ℕ) (r : Results)
    → open_refusal customer g a b k ends ends' r ≡ 0 → OpeningAccepted customer g a b k ends ends' r
unfolding open_refusal lawful_cuts grid_cuts
accepted_opening customer g a b k ends ends' r ok =
    let first = lawful_ends (length a.x) ends in
    let second = lawful_ends (length b.x) ends' in
    let same = same_ends g.first_strips g.first_ends ends in
    let same' = same_ends g.second_strips g.second_ends ends' in
    let caller = caller_refusal customer a b in
    let badK = refuse_if (not (lawful_k k)) 4 in
    let badEnds = refuse_if (not ((first && second) && (same && same'))) 5 in
    let short = refuse_if (not (room_for k r)) 6 in
    let who = accepted_caller customer a b (or_else_first caller _ ok) in
    let ok1 = or_else_second caller _ ok in
    let ok2 = or_else_second badK _ ok1 in
    let ok3 = or_else_second badEnds _ ok2 in
    let cuts = (and-eq-true_iff (first && second) (same && same')).0 (fault_none _ 4 (or_else_first badEnds _ ok2)) in
    let lawful = (and-eq-true_iff first second).0 cuts.0 in
    let own = (and-eq-true_iff same same').0 cuts.1 in
    record {
      number = who.0;
      lists = who.1;
      lawful_k = fault_none (lawful_k k) 3 (or_else_first badK _ ok1);
      cut = lawful.0;
      cut' = lawful.1;
      grid_ends = same_ends_lem _ _ ends own.0;
      grid_ends' = same_ends_lem _ _ ends' own.1;
      room = fault_none (room_for k r) 5 (or_else_first short _ ok3);
      lawful = fault_none (lawful_grid g) 6 (or_else_second short _ ok3);
    }

-- ---- an accepted lowering

-- It is a customer's.
pub accepted_lowering : (customer : ℕ) (g : Grid) (a b : Columns) (k : ℕ) (r : Results)
    → lower_refusal customer g a b k r ≡ 0 → is_customer customer ≡ true
unfolding lower_refusal
accepted_lowering customer g a b k r ok =
    (accepted_caller customer a b (or_else_first (caller_refusal customer a b) _ ok)).0

-- ---- accepted jobs

-- What is tested before the jobs, one or several.
pub record CampaignAccepted (customer : ℕ) (g : Grid) : Type 0 where
  pub number : is_customer customer ≡ true
  pub lawful : lawful_grid g ≡ true
  pub few : g.second_strips ≤ 32

pub accepted_campaign : (customer : ℕ) (g : Grid) (a b : Columns) (r : Results) → campaign_refusal customer g a b r ≡ 0
    → CampaignAccepted customer g
unfolding campaign_as
accepted_campaign customer g a b r ok =
    record {
      number = (accepted_caller customer a b (sound_caller customer g a b r ok)).0;
      lawful = sound_grid customer g a b r ok;
      few = (campaign_parts (campaign_as customer g) a b r (sound_campaign customer g a b r refl ok)).cols;
    }
