-- Strips of a list of sites in order, by place and by x.
use mathlib.Core.Path.{◌≡◌}
use mathlib.Core.Bool.{Bool, true, false}
use mathlib.Core.List.{List, [], ◌∷◌, map}
use Prim.Native.Nat.{ℕ, suc, ◌-◌}
use lib.Signed.{lt_z}
use lib.ListN.{drop}
use Rattle.order.specs.Order.{on, ascending}
use Rattle.order.specs.Terms.{Sorted}
use Rattle.order.proofs.Sorted.{Ascends, ascending_ascends, sorted_take, sorted_drop}
use Rattle.order.proofs.Order.{by_test, never_both, lt_z_order, lex_more}
use Rattle.order.specs.Lists.{All}
use Rattle.order.proofs.Lists.{all_weaken, all_map, map_all}
use Rattle.site.specs.Site.{Site, site_before}
use Rattle.site.proofs.SiteBefore.{site_order}
use Rattle.sweep.specs.Strip.{Placed, placed_from, whole, strip}

-- By x alone.
abbrev pub left_of : Placed → Placed → Bool
left_of = on lt_z (λ p. p.site.x)

-- A site that comes before another is not right of it.
before_x : (s t : Site) → site_before s t ≡ true → lt_z t.x s.x ≡ false
unfolding site_before
before_x s t h =
    by_test (lt_z t.x s.x) (λ l. never_both h (lex_more _ _ s t (lt_z_order.asym t.x s.x l) l)) (λ f. f)

-- What holds of each site holds of each with its place.
pub all_placed : (P : Site → Type 0) (n : ℕ) (l : List Site) → All P l → All (λ p. P p.site) (placed_from n l)
unfolding placed_from All
all_placed P n [] h = tt
all_placed P n (s ∷ l) h = (h.0, all_placed P (suc n) l h.1)

-- The x of a list in order never falls.
rises : (l : List Site) → Ascends site_before l → Sorted lt_z (map (λ s. s.x) l)
unfolding Ascends Sorted
rises [] h = tt
rises (s ∷ l) h = (
  all_map (λ x. lt_z x s.x ≡ false) (λ t. t.x) l
      (all_weaken (λ t. site_before s t ≡ true) (λ t. lt_z t.x s.x ≡ false) (before_x s) l h.0),
  rises l h.1,
)

x_sorted : (l : List Site) → ascending site_before l ≡ true → Sorted lt_z (map (λ s. s.x) l)
x_sorted l h = rises l (ascending_ascends site_order l h)

placed_sorted : (n : ℕ) (l : List Site) → Sorted lt_z (map (λ s. s.x) l) → Sorted left_of (placed_from n l)
unfolding placed_from Sorted
placed_sorted n [] h = tt
placed_sorted n (s ∷ l) h = (
  all_placed (λ t. lt_z t.x s.x ≡ false) (suc n) l (map_all (λ x. lt_z x s.x ≡ false) (λ t. t.x) l h.0),
  placed_sorted (suc n) l h.1,
)

-- The sites of a strip stand in the order of x where the x of the list never falls, ..
pub strip_by_x : (from to : ℕ) (l : List Site) → Sorted lt_z (map (λ s. s.x) l) → Sorted left_of (strip from to l)
unfolding strip whole
strip_by_x from to l h =
    sorted_take left_of (to - from) (drop from (placed_from 0 l)) (sorted_drop left_of from (placed_from 0 l) (placed_sorted 0 l h))

-- .. and so where it is in order, those of the whole list too.
pub strip_sorted : (from to : ℕ) (l : List Site) → ascending site_before l ≡ true → Sorted left_of (strip from to l)
strip_sorted from to l h = strip_by_x from to l (x_sorted l h)

pub whole_sorted : (l : List Site) → ascending site_before l ≡ true → Sorted left_of (whole l)
unfolding whole
whole_sorted l h = placed_sorted 0 l (x_sorted l h)
