-- The order of positions: it is that of sites with the numbers left out, and tells which sites are apart.
use mathlib.Core.Path.{◌≡◌, sym, ap, ◌∙◌}
use mathlib.Core.Bool.{true, false, not}
use mathlib.Core.List.{List}
use Prim.Native.Nat.{ℕ, ◌≤◌, ◌<◌}
use native.Mathlib.Omega.{arith}
use lib.IntN.{ℤ, pos}
use lib.ListN.{length, get_or}
use lib.Signed.{lt_z, le_z}
use Rattle.order.specs.Terms.{Sorted}
use Rattle.order.proofs.Sorted.{at_sorted}
use Rattle.order.proofs.Order.{by_test, never_both, irrefl, before_weak}
use Rattle.site.specs.SiteList.{site}
use Rattle.site.specs.Site.{Site, squared_distance, site_before}
use Rattle.site.specs.Terms.{position_at, Coordinates}
use Rattle.site.proofs.Answer.{by_number}
use Rattle.site.proofs.Distance.{squared_distance_none}
use Rattle.site.proofs.Integers.{le_not_lt, le_lt_not}
use Rattle.site.proofs.SiteBefore.{site_order, first_below, first_above, second_below, second_above, number_decides}

-- The position of a site, as a site that needs no number.
abbrev pub position : Site → Site
position s = site s.x s.y 0

module _ (s t : Site) where
  -- Where one position comes before another, so does the site, whatever the numbers.
  pub position_first : site_before (position s) (position t) ≡ true → site_before s t ≡ true
  position_first h =
      by_test (lt_z s.x t.x) (λ p. sym (first_below s t p))
      (λ p. by_test (lt_z t.x s.x) (λ q. never_both h (sym (first_above (position s) (position t) p q)))
      (λ q. by_test (lt_z s.y t.y) (λ r. sym (second_below s t p q r))
      (λ r. by_test (lt_z t.y s.y) (λ u. never_both h (sym (second_above (position s) (position t) p q r u)))
      (λ u. never_both h (sym (number_decides (position s) (position t) p q r u))))))

  pub position_not_first : site_before s t ≡ false → site_before (position s) (position t) ≡ false
  position_not_first h = by_test (site_before (position s) (position t)) (λ p. never_both (position_first p) h) (λ f. f)

  -- What comes not before another is not left of it.
  pub not_before_x : site_before s t ≡ false → le_z t.x s.x ≡ true
  not_before_x h =
      le_not_lt t.x s.x ∙ ap not (by_test (lt_z s.x t.x) (λ p. never_both (sym (first_below s t p)) h) (λ f. f))

  -- Where one position comes before another the sites are apart.
  pub position_apart : site_before (position s) (position t) ≡ true → 1 ≤ squared_distance s t
  position_apart h =
      by_number (squared_distance s t)
      (λ n.
      let w = squared_distance_none s t n in
      let e : position s ≡ position t = λ i. site (w.0 i) (w.1 i) 0 in
      never_both (rw e at h) (irrefl site_order (position t)))
      (λ n. omega arith)

-- The x of a lawful list never falls.
pub coordinates_sorted : {xs ys : List ℤ} → Coordinates xs ys → Sorted lt_z xs
coordinates_sorted {xs} {ys} c =
    at_sorted lt_z xs (pos 0)
    (λ k m h g.
    le_lt_not (get_or xs k (pos 0)) (get_or xs m (pos 0))
    (not_before_x (position_at xs ys m) (position_at xs ys k) (c.rising k m (omega arith) g)))

-- What comes before a position of a lawful list comes before all later ones.
pub before_later : {xs ys : List ℤ} → Coordinates xs ys → (s : Site) (i j : ℕ) → i ≤ j → j < length xs
    → site_before s (position_at xs ys i) ≡ true → site_before s (position_at xs ys j) ≡ true
before_later {xs} {ys} c s i j h k b = before_weak site_order s (position_at xs ys i) (position_at xs ys j) b (c.rising i j h k)

-- Positions of which neither comes first are the same.
pub same_position : (s t : Site) → site_before (position s) (position t) ≡ false → site_before (position t) (position s) ≡ false
    → position s ≡ position t
same_position s t p q = let e = site_order.total (position s) (position t) p q in λ i. site (e.0 i) (e.1 i) (e.2 i)
