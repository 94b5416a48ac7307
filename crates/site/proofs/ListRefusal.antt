-- The refusal of a list, by the tests in their order.
use mathlib.Core.Path.{◌≡◌, refl, sym, ap, ap₂, ◌∙◌}
use mathlib.Core.Bool.{Bool, true, false, ◌&&◌, not, and-true, and-false}
use mathlib.Core.List.{List, [], ◌∷◌, map, zip_with}
use Prim.Native.Nat.{ℕ, ◌≤◌}
use native.Mathlib.Omega.{arith}
use borrow.Author.Tests.{not-false, ne_eqb, eq-eqb, le-leb, eqb-true, leb-true}
use lib.Dec.{eqb, leb}
use lib.IntN.{ℤ}
use lib.ListN.{length}
use Rattle.order.specs.Order.{lex, ascending}
use Rattle.order.specs.Lists.{all, All}
use Rattle.order.proofs.Lists.{all_holds, holds_all, all_weaken}
use Rattle.site.specs.Site.{Site, within, height_within, further_limits, all_within, lawful_site, site_before}
use Rattle.site.specs.Answer.{refuse_if, or_else}
use Rattle.site.specs.SiteList.{Columns, columns, raised, site, with_coordinate, with_columns, sites}
use Rattle.site.specs.Terms.{Level}
use Rattle.site.specs.Refusal.{equal_lengths, size_fault, content_refusal, list_refusal}
use Rattle.site.proofs.Tests.{and_first, and_second}
use Rattle.site.proofs.SiteList.{Flat, sites_length, flat_site, flat_sites, flattened}

-- ---- lawful sites

-- A site is lawful where its coordinates are inside the limits, those beside x and y too.
pub lawful_is : (s : Site) → lawful_site s ≡ (within s.x && (within s.y && all_within further_limits s.further))
unfolding lawful_site all_within all zip_with
lawful_is s = refl

-- With a height.
pub lawful_up : (s : Site) (h : ℤ) → s.further ≡ h ∷ [] → lawful_site s ≡ (within s.x && (within s.y && height_within h))
unfolding all_within all zip_with
lawful_up s h e =
    lawful_is s
    ∙ ap (λ (l : List ℤ). within s.x && (within s.y && all_within further_limits l)) e
    ∙ ap (λ (b : Bool). within s.x && (within s.y && b)) (and-true (height_within h))

-- Two tests at the head, two on the rest.
pair_up : (a b p q : Bool) → (a && b && (p && q)) ≡ (a && p && (b && q))
pair_up true true p q = refl
pair_up true false p q = sym (and-false p)
pair_up false b p q = refl

zip_lawful : (xs ys : List ℤ) (ns : List ℕ) → length ys ≡ length xs → length ns ≡ length xs
    → all lawful_site (sites (columns xs ys ns)) ≡ (all within xs && all within ys)
unfolding sites with_columns zip_with all all_within
zip_lawful [] [] ns p q = refl
zip_lawful [] (y ∷ ys) ns p q = absurd (omega arith)
zip_lawful (x ∷ xs) [] ns p q = absurd (omega arith)
zip_lawful (x ∷ xs) (y ∷ ys) [] p q = absurd (omega arith)
zip_lawful (x ∷ xs) (y ∷ ys) (n ∷ ns) p q =
    ap₂ ◌&&◌ (lawful_is (site x y n) ∙ ap (λ (b : Bool). within x && b) (and-true (within y))) (zip_lawful xs ys ns (omega arith) (omega arith))
    ∙ pair_up (within x) (within y) (all within xs) (all within ys)

three_up : (a b h p k : Bool) → (a && (b && h) && (p && k)) ≡ (a && (b && true) && p && (h && k))
three_up true true h p k = and_swap h p k
  where
    and_swap : (h p k : Bool) → (h && (p && k)) ≡ (p && (h && k))
    and_swap true true k = refl
    and_swap true false k = refl
    and_swap false true k = refl
    and_swap false false k = refl
three_up true false h p k = refl
three_up false b h p k = refl

-- A column of heights put on: the sites are lawful where they were and the heights are inside the limits.
zip_raised : (hs : List ℤ) (l : List Site) → length hs ≡ length l → All Flat l
    → all lawful_site (zip_with with_coordinate hs l) ≡ (all lawful_site l && all height_within hs)
unfolding zip_with all All all_within
zip_raised [] [] p f = refl
zip_raised [] (s ∷ l) p f = absurd (omega arith)
zip_raised (h ∷ hs) [] p f = absurd (omega arith)
zip_raised (h ∷ hs) (s ∷ l) p f =
    let e : (with_coordinate h s).further ≡ h ∷ [] = ap (λ (r : List ℤ). h ∷ r) f.0 in
    let low : lawful_site s ≡ (within s.x && (within s.y && true)) =
    lawful_is s ∙ ap (λ (r : List ℤ). within s.x && (within s.y && all_within further_limits r)) f.0 in
    ap₂ ◌&&◌ (lawful_up (with_coordinate h s) h e) (zip_raised hs l (omega arith) f.1)
    ∙ three_up (within s.x) (within s.y) (height_within h) (all lawful_site l) (all height_within hs)
    ∙ ap (λ (b : Bool). b && all lawful_site l && (height_within h && all height_within hs)) (sym low)

pub plane_flat : (xs ys : List ℤ) (ns : List ℕ) → All Flat (sites (columns xs ys ns))
unfolding sites with_columns zip_with All
plane_flat [] ys ns = tt
plane_flat (x ∷ xs) [] ns = tt
plane_flat (x ∷ xs) (y ∷ ys) [] = tt
plane_flat (x ∷ xs) (y ∷ ys) (n ∷ ns) = (refl, plane_flat xs ys ns)

-- ---- columns of one length, and not too long

-- Columns that pass the test of their lengths are of one length.
pub equal_level : (c : Columns) → equal_lengths c ≡ true → Level c
unfolding equal_lengths
equal_level c h =
    let p = eqb (length c.x) (length c.y) in
    let q = eqb (length c.x) (length c.number) in
    let r = all (λ column. eqb (length c.x) (length column)) c.further in
    let both = and_first (p && q) r h in
    record {
      y = sym (eqb-true (length c.x) (length c.y) (and_first p q both));
      number = sym (eqb-true (length c.x) (length c.number) (and_second p q both));
      further =
          all_weaken (λ column. eqb (length c.x) (length column) ≡ true) (λ column. length column ≡ length c.x)
          (λ column e. sym (eqb-true (length c.x) (length column) e)) c.further
          (all_holds (λ column. eqb (length c.x) (length column)) c.further (and_second (p && q) r h));
    }

-- The order of sites does not look at what is beside x, y and number.
ascending_flat : (l : List Site) → ascending site_before (map flat_site l) ≡ ascending site_before l
unfolding ascending site_before lex
ascending_flat [] = refl
ascending_flat (s ∷ []) = refl
ascending_flat (s ∷ (t ∷ l)) = ap (λ (b : Bool). site_before s t && b) (ascending_flat (t ∷ l))

module _ (c : Columns) where
  module _ (level : Level c) where
    pub level_equal : equal_lengths c ≡ true
    unfolding equal_lengths
    level_equal =
        simp (eq-eqb (length c.x) (length c.y) (sym level.y), eq-eqb (length c.x) (length c.number) (sym level.number))
        (holds_all (λ column. eqb (length c.x) (length column)) c.further
        (all_weaken (λ column. length column ≡ length c.x) (λ column. eqb (length c.x) (length column) ≡ true)
        (λ column e. eq-eqb (length c.x) (length column) (sym e)) c.further level.further))

    -- What is left to test of columns of one length that are not too long.
    pub content_left : length c.x ≤ 65_535 → list_refusal c ≡ content_refusal (sites c)
    unfolding list_refusal size_fault or_else
    content_left few = let n = length c.x in simp (level_equal, le-leb n 65_535 few, le-leb n n (omega arith))

    -- The order is that in the plane.
    pub flat_ascending : ascending site_before (sites (flattened c)) ≡ ascending site_before (sites c)
    flat_ascending = ap (ascending site_before) (sym (flat_sites c level)) ∙ ascending_flat (sites c)

-- ---- a list of the plane

not_not : (b : Bool) → not (not b) ≡ b
not_not true = refl
not_not false = refl

module _ (xs ys : List ℤ) (ns : List ℕ) where
  abbrev plane : Columns
  plane = columns xs ys ns

  -- The test of the sizes.
  pub sizes_unequal_y : (length xs ≡ length ys → ⊥) → false ≡ not (size_fault plane (length xs))
  unfolding size_fault equal_lengths
  sizes_unequal_y h = simp (ne_eqb (length xs) (length ys) h)

  pub sizes_unequal_number : (length xs ≡ length ns → ⊥) → false ≡ not (size_fault plane (length xs))
  unfolding size_fault equal_lengths
  sizes_unequal_number h = simp (ne_eqb (length xs) (length ns) h, and-false)

  pub sizes_equal : length xs ≡ length ys → length xs ≡ length ns → leb (length xs) 65_535 ≡ not (size_fault plane (length xs))
  unfolding size_fault equal_lengths all
  sizes_equal p q =
      let n = length xs in
      simp (eq-eqb n (length ys) p, eq-eqb n (length ns) q, le-leb n n (omega arith), and-true, not_not)

  -- Columns whose sizes have no fault.
  pub sized_level : size_fault plane (length xs) ≡ false → Level plane × (length xs ≤ 65_535)
  unfolding size_fault
  sized_level h =
      let n = length xs in
      let rest = leb n 65_535 && leb n n in
      let both = not-false (equal_lengths plane && rest) h in (
        equal_level plane (and_first (equal_lengths plane) rest both),
        leb-true n 65_535 (and_first (leb n 65_535) (leb n n) (and_second (equal_lengths plane) rest both)),
      )

  pub sizes_refused : size_fault plane (length xs) ≡ true → 1 ≡ list_refusal plane
  unfolding list_refusal or_else
  sizes_refused h = simp h

  module _ (level : Level plane) (few : length xs ≤ 65_535) where
    -- Its refusal, by the tests of its columns.
    pub plane_content : list_refusal plane
        ≡ or_else (refuse_if (not (all within xs && all within ys)) 2) (refuse_if (not (ascending site_before (sites plane))) 3)
    unfolding content_refusal
    plane_content = content_left plane level few ∙ ap (λ (b : Bool). or_else (refuse_if (not b) 2) (refuse_if (not (ascending site_before (sites plane))) 3)) (zip_lawful xs ys ns level.y level.number)

-- ---- a list with heights, by the list in the plane

-- What does not hold holds no more with a test put in.
never_more : (p h q : Bool) → not (p && true && q) ≡ true → not (p && (h && true) && q) ≡ true
never_more true true q e = e
never_more true false q e = refl
never_more false h q e = refl

module _ (xs ys : List ℤ) (ns : List ℕ) (hs : List ℤ) where
  abbrev c : Columns
  c = raised xs ys ns hs

  abbrev flat : Columns
  flat = columns xs ys ns

  pub level_up : length xs ≡ length ys → length xs ≡ length ns → length xs ≡ length hs → Level c
  unfolding All
  level_up p q r = record { y = sym p; number = sym q; further = (sym r, tt) }

  -- A fault of the sizes in the plane is one of the list's.
  pub raised_refused : size_fault flat (length xs) ≡ true → 1 ≡ list_refusal c
  unfolding list_refusal size_fault equal_lengths or_else all
  raised_refused h =
      let n = length xs in
      simp (never_more (eqb n (length ys) && eqb n (length ns)) (eqb n (length hs)) (leb n 65_535 && leb n n) h)

  pub unequal_height : (length xs ≡ length hs → ⊥) → 1 ≡ list_refusal c
  unfolding list_refusal size_fault equal_lengths or_else all
  unequal_height h = simp (ne_eqb (length xs) (length hs) h, and-false)

  module _ (level : Level flat) (few : length xs ≤ 65_535) (same : length xs ≡ length hs) where
    raised_level : Level c
    raised_level = level_up (sym level.y) (sym level.number) same

    lawful_raised : all lawful_site (sites c) ≡ (all within xs && all within ys && all height_within hs)
    unfolding sites with_columns
    lawful_raised =
        zip_raised hs (sites flat) (omega (arith, sites_length flat level)) (plane_flat xs ys ns)
        ∙ ap (λ (b : Bool). b && all height_within hs) (zip_lawful xs ys ns level.y level.number)

    -- Its refusal, by the tests of its columns.
    pub raised_content : list_refusal c
        ≡ or_else (refuse_if (not (all within xs && all within ys && all height_within hs)) 2)
        (refuse_if (not (ascending site_before (sites flat))) 3)
    unfolding content_refusal
    raised_content =
        content_left c raised_level few
        ∙ ap₂ (λ (b o : Bool). or_else (refuse_if (not b) 2) (refuse_if (not o) 3)) lawful_raised (sym (flat_ascending c raised_level))
