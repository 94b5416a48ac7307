-- The sites of columns of one length.
use mathlib.Core.Path.{◌≡◌, refl, sym, ap, ap₂, ◌∙◌}
use mathlib.Core.List.{List, [], ◌∷◌, map, map-map, zip_with}
use Prim.Native.Nat.{ℕ, ◌<◌}
use native.Mathlib.Omega.{arith}
use lib.IntN.{ℤ, pos}
use lib.ListN.{length, take, get_or, length-map}
use lib.Seq.{get_or-take}
use Rattle.order.specs.Lists.{All}
use Rattle.order.proofs.Lists.{length_zip, zip_at, zip_take}
use Rattle.site.specs.Site.{Site}
use Rattle.site.specs.SiteList.{Columns, columns, Plane, site, with_coordinate, with_columns, sites, site_at, columns_of, in_use}
use Rattle.site.specs.Terms.{Level}

-- The site that stands where a list has none.
abbrev pub nowhere : Site
nowhere = site (pos 0) (pos 0) 0

-- What some columns hold at a place.
abbrev pub row : List (List ℤ) → ℕ → List ℤ
row further i = map (λ column. get_or column i (pos 0)) further

-- The site that columns hold at a place.
abbrev pub columns_at : Columns → ℕ → Site
columns_at c i =
    record {
      x = get_or c.x i (pos 0);
      y = get_or c.y i (pos 0);
      number = get_or c.number i 0;
      further = row c.further i;
    }

-- The columns of x, y and number alone: the list in the plane.
abbrev pub flattened : Columns → Columns
flattened c = columns c.x c.y c.number

-- A list of the plane has no others.
pub plane_flattened : (c : Columns) → Plane c → c ≡ flattened c
plane_flattened c e = λ i. record { x = c.x; y = c.y; number = c.number; further = e i }

pub flat_level : (c : Columns) → Level c → Level (flattened c)
unfolding All
flat_level c level = record { y = level.y; number = level.number; further = tt }

-- Further columns lengthen no list of their length, and add what they hold to each site.
pub columns_keep_length : (further : List (List ℤ)) (l : List Site) → All (λ column. length column ≡ length l) further
    → length (with_columns further l) ≡ length l
unfolding with_columns All
columns_keep_length [] l h = refl
columns_keep_length (column ∷ further) l h = simp length_zip (omega (arith, h.0, columns_keep_length further l h.1))

columns_add : (further : List (List ℤ)) (l : List Site) (i : ℕ) (d : Site) → All (λ column. length column ≡ length l) further
    → i < length l → (get_or l i d).further ≡ []
    → get_or (with_columns further l) i d ≡ record { x = (get_or l i d).x; y = (get_or l i d).y; number = (get_or l i d).number; further = row further i }
unfolding with_columns All
columns_add [] l i d h g e = λ j. record { x = (get_or l i d).x; y = (get_or l i d).y; number = (get_or l i d).number; further = e j }
columns_add (column ∷ further) l i d h g e =
    zip_at with_coordinate column (with_columns further l) i (pos 0) d d (omega (arith, h.0))
    (omega (arith, columns_keep_length further l h.1))
    ∙ ap (with_coordinate (get_or column i (pos 0))) (columns_add further l i d h.1 g e)

module _ (c : Columns) (level : Level c) where
  abbrev pub flat : List Site
  flat = zip_with (λ make n. make n) (zip_with site c.x c.y) c.number

  pub flat_length : length flat ≡ length c.x
  flat_length = simp length_zip (omega (arith, level.y, level.number))

  flat_at : (i : ℕ) (d : Site) → i < length c.x
      → get_or flat i d ≡ site (get_or c.x i (pos 0)) (get_or c.y i (pos 0)) (get_or c.number i 0)
  flat_at i d h =
      let make = site (pos 0) (pos 0) in
      zip_at (λ make n. make n) (zip_with site c.x c.y) c.number i make 0 d (simp length_zip (omega (arith, level.y)))
      (omega (arith, level.number))
      ∙ ap (λ (make : ℕ → Site). make (get_or c.number i 0)) (zip_at site c.x c.y i (pos 0) (pos 0) make h (omega (arith, level.y)))

  pub further_level : All (λ column. length column ≡ length flat) c.further
  further_level = rw flat_length level.further

  pub sites_length : length (sites c) ≡ length c.x
  unfolding sites
  sites_length = columns_keep_length c.further flat further_level ∙ flat_length

  pub sites_at : (i : ℕ) (d : Site) → i < length c.x → get_or (sites c) i d ≡ columns_at c i
  unfolding sites
  sites_at i d h =
      let e = flat_at i d h in
      columns_add c.further flat i d further_level (omega (arith, flat_length)) (ap (λ (s : Site). s.further) e)
      ∙ ap (λ (s : Site). record { x = s.x; y = s.y; number = s.number; further = row c.further i }) e

  pub site_at_lem : (i : ℕ) → i < length c.x → site_at (sites c) i ≡ columns_at c i
  unfolding site_at
  site_at_lem i h = sites_at i nowhere h

-- ---- the sites in use

columns_take : (n : ℕ) (further : List (List ℤ)) (l : List Site)
    → with_columns (map (take n) further) (take n l) ≡ take n (with_columns further l)
unfolding with_columns
columns_take n [] l = refl
columns_take n (column ∷ further) l =
    ap (zip_with with_coordinate (take n column)) (columns_take n further l) ∙ zip_take with_coordinate n column (with_columns further l)

pub sites_take : (n : ℕ) (c : Columns) → sites (in_use n c) ≡ take n (sites c)
unfolding sites in_use
sites_take n c =
    ap (with_columns (map (take n) c.further))
    (ap (λ (makes : List (ℕ → Site)). zip_with (λ make k. make k) makes (take n c.number)) (zip_take site n c.x c.y)
    ∙ zip_take (λ make k. make k) n (zip_with site c.x c.y) c.number)
    ∙ columns_take n c.further (zip_with (λ make k. make k) (zip_with site c.x c.y) c.number)

-- The site at a place of those in use.
pub in_use_at : (n : ℕ) (c : Columns) (i : ℕ) → i < n → site_at (sites (in_use n c)) i ≡ site_at (sites c) i
unfolding site_at
in_use_at n c i h = ap (λ (l : List Site). get_or l i nowhere) (sites_take n c) ∙ get_or-take n (sites c) i nowhere h

-- ---- the site list in the plane

-- A site in the plane.
abbrev pub flat_site : Site → Site
flat_site s = site s.x s.y s.number

flat_zip : (column : List ℤ) (l : List Site) → length column ≡ length l → map flat_site (zip_with with_coordinate column l) ≡ map flat_site l
unfolding zip_with
flat_zip [] [] h = refl
flat_zip [] (s ∷ l) h = absurd (omega arith)
flat_zip (a ∷ column) [] h = absurd (omega arith)
flat_zip (a ∷ column) (s ∷ l) h = ap (λ (r : List Site). flat_site s ∷ r) (flat_zip column l (omega arith))

flat_columns : (further : List (List ℤ)) (l : List Site) → All (λ column. length column ≡ length l) further
    → map flat_site (with_columns further l) ≡ map flat_site l
unfolding with_columns All
flat_columns [] l h = refl
flat_columns (column ∷ further) l h =
    flat_zip column (with_columns further l) (omega (arith, h.0, columns_keep_length further l h.1)) ∙ flat_columns further l h.1

zip_flat : (xs ys : List ℤ) (ns : List ℕ)
    → map flat_site (zip_with (λ make n. make n) (zip_with site xs ys) ns) ≡ zip_with (λ make n. make n) (zip_with site xs ys) ns
unfolding zip_with
zip_flat [] ys ns = refl
zip_flat (x ∷ xs) [] ns = refl
zip_flat (x ∷ xs) (y ∷ ys) [] = refl
zip_flat (x ∷ xs) (y ∷ ys) (n ∷ ns) = ap (λ (r : List Site). site x y n ∷ r) (zip_flat xs ys ns)

-- The sites in the plane are those of the columns of x, y and number.
pub flat_sites : (c : Columns) → Level c → map flat_site (sites c) ≡ sites (flattened c)
unfolding sites with_columns
flat_sites c level = flat_columns c.further (flat c level) (further_level c level) ∙ zip_flat c.x c.y c.number

-- What holds of each number of the column holds of the sites' numbers.
pub sites_numbered : (P : ℕ → Type 0) (xs ys : List ℤ) (ns : List ℕ) → All P ns → All (λ s. P s.number) (sites (columns xs ys ns))
unfolding sites with_columns zip_with All
sites_numbered P [] ys ns h = tt
sites_numbered P (x ∷ xs) [] ns h = tt
sites_numbered P (x ∷ xs) (y ∷ ys) [] h = tt
sites_numbered P (x ∷ xs) (y ∷ ys) (n ∷ ns) h = (h.0, sites_numbered P xs ys ns h.1)

-- ---- the columns that some sites of the plane fill

-- A site that has no other coordinate.
abbrev pub Flat : Site → Type 0
Flat s = s.further ≡ []

pub columns_sites : (l : List Site) → All Flat l → sites (columns_of l) ≡ l
unfolding columns_of sites with_columns zip_with All
columns_sites [] h = refl
columns_sites (s ∷ l) h =
    ap₂ (λ (f : List ℤ) (r : List Site). record { x = s.x; y = s.y; number = s.number; further = f } ∷ r) (sym h.0) (columns_sites l h.1)

pub sites_columns : (xs ys : List ℤ) (ns : List ℕ) → length ys ≡ length xs → length ns ≡ length xs
    → columns_of (sites (columns xs ys ns)) ≡ columns xs ys ns
unfolding columns_of sites with_columns zip_with
sites_columns [] [] [] p q = refl
sites_columns [] (y ∷ ys) ns p q = absurd (omega arith)
sites_columns [] [] (n ∷ ns) p q = absurd (omega arith)
sites_columns (x ∷ xs) [] ns p q = absurd (omega arith)
sites_columns (x ∷ xs) (y ∷ ys) [] p q = absurd (omega arith)
sites_columns (x ∷ xs) (y ∷ ys) (n ∷ ns) p q =
    ap (λ (c : Columns). columns (x ∷ c.x) (y ∷ c.y) (n ∷ c.number)) (sites_columns xs ys ns (omega arith) (omega arith))

-- The x of the sites are the column of x.
pub sites_x : (c : Columns) → Level c → map (λ s. s.x) (sites c) ≡ c.x
unfolding columns_of
sites_x c level =
    sym (map-map (λ s. s.x) flat_site (sites c))
    ∙ ap (map (λ s. s.x)) (flat_sites c level)
    ∙ ap (λ (d : Columns). d.x) (sites_columns c.x c.y c.number level.y level.number)

pub columns_length : (l : List Site) → length (columns_of l).x ≡ length l
unfolding columns_of
columns_length l = length-map l (λ s. s.x)

pub columns_level : (l : List Site) → Level (columns_of l)
unfolding columns_of All
columns_level l = record { y = simp length-map; number = simp length-map; further = tt }
