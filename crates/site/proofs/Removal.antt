-- The refusal of a removal, by the tests in their order, and what an accepted one has.
use mathlib.Core.Path.{◌≡◌}
use mathlib.Core.Bool.{true, false}
use Prim.Native.Nat.{ℕ}
use Rattle.site.specs.Answer.{or_else}
use Rattle.site.specs.Site.{Site}
use Rattle.site.specs.SiteList.{Columns, sites, in_use}
use Rattle.site.specs.InUse.{used_refusal, present}
use Rattle.site.specs.Removal.{remove_refusal}
use Rattle.site.proofs.Answer.{first_refused, or_else_first, or_else_second, fault_none}

module _ (c : Columns) (n : ℕ) (s : Site) where
  pub remove_used : {r : ℕ} → r ≡ used_refusal c n → (r ≡ 0 → ⊥) → r ≡ remove_refusal c n s
  unfolding remove_refusal
  remove_used e h = first_refused _ e h

  module _ (ok : used_refusal c n ≡ 0) where
    pub remove_absent : present s (sites (in_use n c)) ≡ false → 16 ≡ remove_refusal c n s
    unfolding remove_refusal or_else
    remove_absent h = simp (ok, h)

    pub remove_ok : present s (sites (in_use n c)) ≡ true → 0 ≡ remove_refusal c n s
    unfolding remove_refusal or_else
    remove_ok h = simp (ok, h)

  -- What an accepted removal has.
  module _ (ok : remove_refusal c n s ≡ 0) where
    pub removed_used : used_refusal c n ≡ 0
    unfolding remove_refusal
    removed_used = or_else_first (used_refusal c n) _ ok

    pub removed_present : present s (sites (in_use n c)) ≡ true
    unfolding remove_refusal
    removed_present = fault_none (present s (sites (in_use n c))) 15 (or_else_second (used_refusal c n) _ ok)
