-- The place of a site, for a loop that counts, and whether it is there.
use mathlib.Core.Path.{◌≡◌, refl, ap}
use mathlib.Core.Logic.{◌↔◌}
use mathlib.Core.Bool.{Bool, true, false, not, cond, ◌&&◌, ◌||◌}
use mathlib.Core.List.{List, [], ◌∷◌, map}
use Prim.Native.Nat.{ℕ, suc, ◌+◌, ◌≤◌, ◌<◌}
use native.Mathlib.Numerals.{add-one}
use native.Mathlib.Omega.{arith}
use borrow.Author.Tests.{not-false}
use lib.Dec.{leb}
use lib.ListN.{length, drop, get_or, drop_of_length-le}
use lib.Seq.{drop-cons}
use Rattle.order.specs.Lists.{all, keep, All}
use Rattle.order.specs.Order.{lex}
use Rattle.site.specs.Site.{Site, site_before}
use Rattle.site.specs.SiteList.{site_at}
use Rattle.site.specs.InUse.{place_of, present}
use Rattle.order.proofs.Order.{by_test, never_both, irrefl}
use Rattle.order.proofs.Sorted.{Ascends}
use Rattle.order.proofs.Places.{new_at_place}
use Rattle.order.proofs.Lists.{all_holds, holds_all, all_weaken}
use Rattle.site.proofs.SiteBefore.{SameSite, site_order}
use Rattle.site.proofs.SiteList.{nowhere, flat_site}

module _ (s : Site) where
  -- The place by the first site.
  pub place_cons : (t : Site) (l : List Site) → place_of s (t ∷ l) ≡ cond (site_before t s) 1 0 + place_of s l
  unfolding place_of keep
  place_cons t l = by_test (site_before t s) (λ h. rw h (omega arith)) (λ h. rw h (omega arith))

  pub place_step : (l : List Site) (i : ℕ) (d : Site) → i < length l
      → place_of s (drop i l) ≡ cond (site_before (get_or l i d) s) 1 0 + place_of s (drop (i + 1) l)
  place_step l i d h = rw (add-one, drop-cons l i d) (place_cons (get_or l i d) (drop (suc i) l))

  pub place_end : (l : List Site) (i : ℕ) → length l ≤ i → place_of s (drop i l) ≡ 0
  unfolding place_of keep
  place_end l i h = rw (drop_of_length-le l h)

  pub place_le : (l : List Site) → place_of s l ≤ length l
  unfolding place_of keep
  place_le [] = omega arith
  place_le (t ∷ l) = by_test (site_before t s) (λ h. rw h (omega (arith, place_le l))) (λ h. rw h (omega (arith, place_le l)))

-- In a list that ascends a site is there where it stands at its place.
pub present_at : (s : Site) (l : List Site) → Ascends site_before l
    → present s l ≡ not (leb (length l) (place_of s l) || site_before s (site_at l (place_of s l)))
unfolding present place_of site_at
present_at s l up = ap not (new_at_place site_order s nowhere l up)

-- A site is not there exactly where none of the list has its x, y and number.
module _ (s : Site) where
  -- One that comes before or after it.
  apart : Site → Bool
  apart t = site_before t s || site_before s t

  same_not_apart : (t : Site) → SameSite t s → apart t ≡ false
  unfolding apart site_before lex
  same_not_apart t e = rw (e.0, e.1, e.2) (rw (irrefl site_order s) refl)

  absent_none : (l : List Site) → all apart l ≡ true → All (λ t. SameSite t s → ⊥) l
  absent_none l h =
      all_weaken (λ t. apart t ≡ true) (λ t. SameSite t s → ⊥) (λ t p e. never_both p (same_not_apart t e)) l (all_holds apart l h)

  none_absent : (l : List Site) → All (λ t. SameSite t s → ⊥) l → all apart l ≡ true
  unfolding apart
  none_absent l h =
      holds_all apart l (all_weaken (λ t. SameSite t s → ⊥) (λ t. apart t ≡ true)
      (λ t other. by_test (site_before t s) (λ p. rw p) (λ p.
      rw p (by_test (site_before s t) (λ q. q) (λ q. absurd (other (site_order.total t s p q)))))) l h)

  pub absent_iff : (l : List Site) → (present s l ≡ false) ↔ All (λ t. SameSite t s → ⊥) l
  unfolding present apart
  absent_iff l =
      (λ h. absent_none l (not-false (all apart l) h), λ h. ap not (none_absent l h))

-- Neither looks at what is beside x, y and number.
module _ (s : Site) where
  pub place_flat : (l : List Site) → place_of (flat_site s) (map flat_site l) ≡ place_of s l
  unfolding place_of keep site_before lex
  place_flat [] = refl
  place_flat (t ∷ l) = by_test (site_before t s) (λ h. rw h (ap suc (place_flat l))) (λ h. rw h (place_flat l))

  all_flat : (l : List Site)
      → all (λ t. site_before t (flat_site s) || site_before (flat_site s) t) (map flat_site l) ≡ all (λ t. site_before t s || site_before s t) l
  unfolding all site_before lex
  all_flat [] = refl
  all_flat (t ∷ l) = ap (λ (b : Bool). (site_before t s || site_before s t) && b) (all_flat l)

  pub present_flat : (l : List Site) → present (flat_site s) (map flat_site l) ≡ present s l
  unfolding present
  present_flat l = ap not (all_flat l)
