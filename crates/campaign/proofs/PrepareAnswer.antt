-- The ends of a preparing that is not refused are few enough for the slots of a grid.
use mathlib.Core.Path.{◌≡◌}
use mathlib.Core.Bool.{true}
use mathlib.Core.List.{List}
use Prim.Native.Nat.{ℕ, ◌≤◌}
use lib.ListN.{length}
use Rattle.site.specs.SiteList.{Columns}
use Rattle.site.specs.Refusal.{lists_refusal}
use Rattle.site.proofs.Tests.{and_first, and_second}
use Rattle.site.proofs.Answer.{or_else_second, fault_none}
use Rattle.campaign.specs.Grid.{lawful_ends}
use Rattle.campaign.specs.Calls.{lawful_cuts, prepare_refusal}
use Rattle.campaign.proofs.LawfulEnds.{lawful_cut}

module _ (a b : Columns) (ends ends' : List ℕ) where
  -- Both lists' ends are few enough for the slots.
  pub cuts_few : lawful_cuts a b ends ends' ≡ true → (length ends ≤ 32) × (length ends' ≤ 32)
  unfolding lawful_cuts
  cuts_few h =
      let first = lawful_ends (length a.x) ends in
      let second = lawful_ends (length b.x) ends' in (
        (lawful_cut (length a.x) ends (and_first first second h)).few,
        (lawful_cut (length b.x) ends' (and_second first second h)).few,
      )

  pub prepared_few : prepare_refusal a b ends ends' ≡ 0 → (length ends ≤ 32) × (length ends' ≤ 32)
  unfolding prepare_refusal
  prepared_few ok = cuts_few (fault_none _ 4 (or_else_second (lists_refusal a b) _ ok))
