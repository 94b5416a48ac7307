-- The entry count of a campaign. Entries with no fault are pairs of settled jobs: where there are K, none need be counted.
use mathlib.Core.Path.{◌≡◌, sym, ◌∙◌}
use mathlib.Core.Bool.{Bool, true, false}
use mathlib.Core.List.Permᴰ
use mathlib.Core.List.{List}
use Prim.Native.Nat.{ℕ, min, ◌≤◌, ◌<◌}
use native.Mathlib.Omega.{arith}
use lib.Dec.{eqb}
use lib.ListN.{length}
use borrow.Author.Tests.{eqb-true, eqb-false, eq-eqb, ne_eqb}
use Rattle.order.specs.Order.{ascending}
use Rattle.order.specs.Lists.{all, keep}
use Rattle.order.proofs.Order.{by_test}
use Rattle.order.proofs.Sorted.{ascending_ascends, ascends_distinct}
use Rattle.order.proofs.Lists.{all_holds, all_mem}
use Rattle.order.proofs.Choice.{choice_length}
use Rattle.site.specs.Site.{Site}
use Rattle.entry.specs.declared.Entry.{Entry}
use Rattle.entry.specs.Entry.{rank_before}
use Rattle.entry.proofs.Rank.{rank_order}
use Rattle.customers.specs.declared.Campaign.{Campaign}
use Rattle.campaign.specs.Grid.{jobs, settled, settled_jobs, jobs_pairs}
use Rattle.campaign.specs.Soundness.{first_ends, second_ends, sound_entry}
use Rattle.campaign.proofs.LawfulEnds.{Cut}
use Rattle.campaign.proofs.Grid.{jobs_pairs_distinct, kept_entry}
use Rattle.campaign.proofs.SoundEntry.{sound_of_job}

-- Entries in order and with no fault are not more than the settled jobs' pairs.
pub sound_few : (marks ends ends' : List ℕ) (a b : List Site) → Cut (length a) ends → Cut (length b) ends' → (l : List Entry)
    → ascending rank_before l ≡ true → all (sound_entry marks ends ends' a b) l ≡ true
    → length l ≤ length (jobs_pairs ends ends' a b (keep (settled marks) (jobs (length ends) (length ends'))))
sound_few marks ends ends' a b cut cut' l up sound =
    let kept = keep (settled marks) (jobs (length ends) (length ends')) in
    let each = all_holds (sound_entry marks ends ends' a b) l sound in
    choice_length rank_order (jobs_pairs ends ends' a b kept) l
    (jobs_pairs_distinct ends ends' a b cut cut' (settled marks) kept (Permᴰ.refl kept))
    (ascends_distinct rank_order l (ascending_ascends rank_order l up))
    (λ e m.
    let w = sound_of_job marks ends ends' a b e (all_mem (λ x. sound_entry marks ends ends' a b x ≡ true) each m) in
    kept_entry ends ends' a b cut cut' (settled marks) _ e w.0 w.1)

-- The settled jobs' pair total.
abbrev pub total : Campaign → List Site → List Site → ℕ
total c a b = length (jobs_pairs (first_ends c) (second_ends c) a b (settled_jobs c))

-- The entry count is the lesser of K and the total.
unfoldable pub right_count : Campaign → List Site → List Site → Bool
right_count c a b = eqb c.entries (min c.k (total c a b))

module _ (c : Campaign) (a b : List Site) where
  pub count_few : right_count c a b ≡ true → c.entries ≤ c.k
  unfolding right_count
  count_few h = omega (arith, eqb-true c.entries (min c.k (total c a b)) h)

  pub count_above : c.k < c.entries → right_count c a b ≡ false
  unfolding right_count
  count_above h = ne_eqb c.entries (min c.k (total c a b)) (λ e. omega arith)

  pub count_full : c.entries ≡ c.k → c.k ≤ total c a b → right_count c a b ≡ true
  unfolding right_count
  count_full h g = eq-eqb c.entries (min c.k (total c a b)) (omega arith)

  pub count_decides : c.entries ≤ c.k → (c.entries ≡ c.k → ⊥) → {n : ℕ} → n ≡ total c a b
      → eqb c.entries n ≡ right_count c a b
  unfolding right_count
  count_decides most below {n} is =
      by_test (eqb c.entries n)
      (λ h. h ∙ sym (eq-eqb c.entries (min c.k (total c a b)) (omega (arith, eqb-true c.entries n h))))
      (λ h. h ∙ sym (ne_eqb c.entries (min c.k (total c a b)) (λ e. eqb-false c.entries n h (omega arith))))
