-- A list of the plane with every height 0: its sites, their distances, and its refusal.
use mathlib.Core.Path.{◌≡◌, refl, sym, ap, ◌∙◌}
use mathlib.Core.Bool.{true, ◌&&◌, and-true}
use mathlib.Core.List.{List, [], ◌∷◌, map, zip_with}
use Prim.Native.Nat.{ℕ, zero, suc, ◌≤◌, ◌+◌}
use native.Mathlib.Omega.{arith}
use lib.IntN.{ℤ, pos}
use lib.ListN.{length, length-map}
use Rattle.order.specs.Lists.{all, sum}
use Rattle.order.proofs.Order.{by_test}
use Rattle.order.proofs.Lists.{length_zip}
use Rattle.site.specs.Site.{Site, between, height_within, gap, square, squared_distance, within}
use Rattle.site.specs.SiteList.{Columns, columns, Plane, on_ground, with_coordinate, with_columns, sites, site_at}
use Rattle.site.specs.Refusal.{size_fault, list_refusal, lists_refusal}
use Rattle.site.proofs.Distance.{squared_over, gap_same, squared_distance_is, squared_distance_sym}
use Rattle.site.proofs.SiteList.{nowhere, plane_flattened}
use Rattle.site.proofs.ListRefusal.{sized_level, sizes_refused, plane_content, raised_refused, raised_content}

-- A site with the height 0.
abbrev pub ground : Site → Site
ground s = with_coordinate (pos 0) s

-- ---- the sites

zip_zeros : (xs : List ℤ) (l : List Site) → length l ≤ length xs → zip_with with_coordinate (map (λ x. pos 0) xs) l ≡ map ground l
unfolding zip_with
zip_zeros [] [] h = refl
zip_zeros [] (s ∷ l) h = absurd (omega arith)
zip_zeros (x ∷ xs) [] h = refl
zip_zeros (x ∷ xs) (s ∷ l) h = ap (λ (r : List Site). ground s ∷ r) (zip_zeros xs l (omega arith))

plane_few : (xs ys : List ℤ) (ns : List ℕ) → length (sites (columns xs ys ns)) ≤ length xs
unfolding sites with_columns
plane_few xs ys ns = simp length_zip (omega arith)

pub ground_sites : (c : Columns) → Plane c → sites (on_ground c) ≡ map ground (sites c)
unfolding sites with_columns
ground_sites c plane = rw plane (zip_zeros c.x (sites (columns c.x c.y c.number)) (plane_few c.x c.y c.number))

-- ---- distances

pub ground_distance : (s t : Site) → squared_distance (ground s) (ground t) ≡ squared_distance s t
unfolding sum square zip_with
ground_distance s t =
    squared_distance_is (ground s) (ground t)
    ∙ ap (λ (n : ℕ). square (gap s.x t.x) + (square (gap s.y t.y) + n)) still
    ∙ sym (squared_distance_is s t)
  where
    still : squared_over (pos 0 ∷ s.further) (pos 0 ∷ t.further) ≡ squared_over s.further t.further
    still = rw (gap_same (pos 0)) (omega arith)

-- A site of the list at a place, or where it has none.
by_place : {P : Type 0} (l : List Site) (i : ℕ) → (site_at (map ground l) i ≡ ground (site_at l i) → P)
    → (site_at (map ground l) i ≡ nowhere → site_at l i ≡ nowhere → P) → P
unfolding site_at
by_place [] i here none = none refl refl
by_place (s ∷ l) zero here none = here refl
by_place (s ∷ l) (suc i) here none = by_place l i here none

nowhere_ground : (t : Site) → squared_distance nowhere (ground t) ≡ squared_distance nowhere t
unfolding squared_distance zip_with
nowhere_ground t = refl

pub ground_at : (l m : List Site) (i j : ℕ)
    → squared_distance (site_at (map ground l) i) (site_at (map ground m) j) ≡ squared_distance (site_at l i) (site_at m j)
ground_at l m i j =
    by_place l i
    (λ e. by_place m j (λ f. rw (e, f) (ground_distance (site_at l i) (site_at m j)))
    (λ f g.
    rw (e, f, g)
    (squared_distance_sym (ground (site_at l i)) nowhere ∙ nowhere_ground (site_at l i) ∙ squared_distance_sym nowhere (site_at l i))))
    (λ e h. by_place m j (λ f. rw (e, f, h) (nowhere_ground (site_at m j))) (λ f g. rw (e, f, h, g)))

-- ---- refusals

zeros_within : (xs : List ℤ) → all height_within (map (λ x. pos 0) xs) ≡ true
unfolding all height_within between
zeros_within [] = refl
zeros_within (x ∷ xs) = zeros_within xs

pub ground_refusal : (c : Columns) → Plane c → list_refusal (on_ground c) ≡ list_refusal c
ground_refusal c plane =
    let zeros = map (λ x. pos 0) c.x in
    by_test (size_fault (columns c.x c.y c.number) (length c.x))
    (λ t. sym (raised_refused c.x c.y c.number zeros t) ∙ sizes_refused c.x c.y c.number t)
    (λ f.
    let sized = sized_level c.x c.y c.number f in
    rw (zeros_within c.x, and-true (all within c.x && all within c.y))
    at (raised_content c.x c.y c.number zeros sized.0 sized.1 (sym (length-map c.x (λ x. pos 0))))
    ∙ sym (plane_content c.x c.y c.number sized.0 sized.1))
    ∙ ap list_refusal (sym (plane_flattened c plane))

pub ground_lists : (a b : Columns) → Plane a → Plane b → lists_refusal (on_ground a) (on_ground b) ≡ lists_refusal a b
unfolding lists_refusal
ground_lists a b p q = rw (ground_refusal a p, ground_refusal b q)
