-- What an accepted list is: a lawful one, and the other way round.
use mathlib.Core.Path.{◌≡◌, refl, sym, ◌∙◌}
use mathlib.Core.Logic.{◌↔◌}
use mathlib.Core.Bool.{true, false, not, cond, ◌&&◌}
use mathlib.Core.List.{List}
use Prim.Native.Nat.{ℕ, ◌≤◌, ◌<◌}
use native.Mathlib.Omega.{arith}
use borrow.Author.Tests.{leb-true, ltb-true, ltb-false}
use lib.Dec.{leb, ltb}
use lib.IntN.{ℤ, pos}
use lib.ListN.{length, get_or}
use lib.Signed.{lt_z}
use Rattle.order.specs.Order.{ascending}
use Rattle.order.specs.Lists.{all, All}
use Rattle.order.specs.Terms.{Sorted}
use Rattle.order.proofs.Order.{by_test, irrefl}
use Rattle.order.proofs.Sorted.{Ascends, ascending_ascends, ascends_ascending, ascends_sorted, sorted_at, at_sorted}
use Rattle.order.proofs.Lists.{all_holds, holds_all, all_at, at_all}
use Rattle.site.specs.Answer.{or_else}
use Rattle.site.specs.Site.{Site, within, height_within, further_limits, all_within, lawful_site, site_before}
use Rattle.site.specs.SiteList.{Columns, raised, sites, site_at}
use Rattle.site.specs.Terms.{Level, position_at, Coordinates, Heights}
use Rattle.site.specs.Refusal.{equal_lengths, size_fault, content_refusal, list_refusal, lists_refusal}
use Rattle.site.proofs.Tests.{and_first, and_second}
use Rattle.site.proofs.Answer.{or_else_first, or_else_second, fault_none}
use Rattle.site.proofs.SiteBefore.{site_order}
use Rattle.site.proofs.SiteList.{nowhere, columns_at, sites_length, sites_at, site_at_lem}
use Rattle.site.proofs.PositionOrder.{position_not_first, not_before_x}
use Rattle.site.proofs.Integers.{le_lt_not}
use Rattle.site.proofs.ListRefusal.{lawful_is, lawful_up, equal_level, content_left}

-- Sites that no test refuses, by the tests and one by one.
module _ (l : List Site) (ok : content_refusal l ≡ 0) where
  pub content_within : all lawful_site l ≡ true
  unfolding content_refusal
  content_within = fault_none (all lawful_site l) 1 (or_else_first _ (cond (not (ascending site_before l)) 3 0) ok)

  pub content_order : ascending site_before l ≡ true
  unfolding content_refusal
  content_order = fault_none (ascending site_before l) 2 (or_else_second (cond (not (all lawful_site l)) 2 0) _ ok)

  pub content_inside : All (λ s. lawful_site s ≡ true) l
  content_inside = all_holds lawful_site l content_within

  pub content_ascends : Ascends site_before l
  content_ascends = ascending_ascends site_order l content_order

pub content_lawful : (l : List Site) → All (λ s. lawful_site s ≡ true) l → Ascends site_before l → content_refusal l ≡ 0
unfolding content_refusal or_else
content_lawful l h k = simp (holds_all lawful_site l h, ascends_ascending site_before l k)

-- The x of a list in order never fall.
pub ascending_sorted : (c : Columns) → Level c → ascending site_before (sites c) ≡ true → Sorted lt_z c.x
ascending_sorted c level up =
    let order = ascends_sorted site_order (sites c) (ascending_ascends site_order (sites c) up) in
    at_sorted lt_z c.x (pos 0) (λ k m h g.
    let s = sorted_at site_before (sites c) nowhere k m order h (omega (arith, sites_length c level)) in
    le_lt_not (get_or c.x k (pos 0)) (get_or c.x m (pos 0))
    (not_before_x (columns_at c m) (columns_at c k) (rw (sites_at c level k nowhere (omega arith), sites_at c level m nowhere g) at s)))

-- A height at a place of columns inside the limits.
pub height_at : {n : ℕ} {hs : List ℤ} → Heights n hs → (i : ℕ) → i < n → height_within (get_or hs i (pos 0)) ≡ true
height_at {n} {hs} h i inside =
    all_at (λ z. height_within z ≡ true) hs i (pos 0) (omega (arith, h.equal)) (all_holds height_within hs h.within)

-- A coordinate at a place of columns inside the limits.
module _ {xs ys : List ℤ} (h : Coordinates xs ys) (i : ℕ) (inside : i < length xs) where
  pub coordinate_x : within (get_or xs i (pos 0)) ≡ true
  coordinate_x = all_at (λ z. within z ≡ true) xs i (pos 0) inside (all_holds within xs h.xs_within)

  pub coordinate_y : within (get_or ys i (pos 0)) ≡ true
  coordinate_y = all_at (λ z. within z ≡ true) ys i (pos 0) (omega (arith, h.equal)) (all_holds within ys h.ys_within)

module _ (c : Columns) (ok : list_refusal c ≡ 0) where
  -- How many it has, and its tests.
  abbrev n : ℕ
  n = length c.x

  accepted_size : (equal_lengths c && (leb n 65_535 && leb n n)) ≡ true
  unfolding list_refusal size_fault
  accepted_size = fault_none (equal_lengths c && (leb n 65_535 && leb n n)) 0 (or_else_first _ (content_refusal (sites c)) ok)

  pub accepted_content : content_refusal (sites c) ≡ 0
  unfolding list_refusal
  accepted_content = or_else_second (cond (size_fault c n) 1 0) (content_refusal (sites c)) ok

  pub accepted_level : Level c
  accepted_level = equal_level c (and_first (equal_lengths c) (leb n 65_535 && leb n n) accepted_size)

  pub accepted_few : length c.x ≤ 65_535
  accepted_few =
      leb-true n 65_535 (and_first (leb n 65_535) (leb n n) (and_second (equal_lengths c) (leb n 65_535 && leb n n) accepted_size))

  pub accepted_inside : all lawful_site (sites c) ≡ true
  accepted_inside = content_within (sites c) accepted_content

  pub accepted_order : ascending site_before (sites c) ≡ true
  accepted_order = content_order (sites c) accepted_content

  pub accepted_length : length (sites c) ≡ length c.x
  accepted_length = sites_length c accepted_level

  -- Its coordinate columns, in the order of the sites.
  accepted_rising : (i j : ℕ) → i ≤ j → j < length c.x → site_before (position_at c.x c.y j) (position_at c.x c.y i) ≡ false
  accepted_rising i j h k =
      by_test (ltb i j)
      (λ t.
      let order = ascends_sorted site_order (sites c) (content_ascends (sites c) accepted_content) in
      let s = sorted_at site_before (sites c) nowhere i j order (ltb-true i j t) (omega (arith, accepted_length)) in
      position_not_first (columns_at c j) (columns_at c i)
      (rw (sites_at c accepted_level i nowhere (omega arith), sites_at c accepted_level j nowhere k) at s))
      (λ f. let e : i ≡ j = omega (arith, ltb-false i j f) in rw e (irrefl site_order (position_at c.x c.y j)))

  -- The site at each place is lawful.
  lawful_at : (i : ℕ) → i < length c.x → lawful_site (columns_at c i) ≡ true
  lawful_at i h =
      let s = all_at (λ s. lawful_site s ≡ true) (sites c) i nowhere (omega (arith, accepted_length)) (content_inside (sites c) accepted_content) in
      rw (sites_at c accepted_level i nowhere h) at s

  x_at : (i : ℕ) → i < length c.x → within (get_or c.x i (pos 0)) ≡ true
  x_at i h = let s = columns_at c i in and_first (within s.x) _ (sym (lawful_is s) ∙ lawful_at i h)

  y_at : (i : ℕ) → i < length c.x → within (get_or c.y i (pos 0)) ≡ true
  y_at i h =
      let s = columns_at c i in
      let rest = within s.y && all_within further_limits s.further in
      and_first (within s.y) (all_within further_limits s.further) (and_second (within s.x) rest (sym (lawful_is s) ∙ lawful_at i h))

  pub accepted_coordinates : Coordinates c.x c.y
  accepted_coordinates = record {
    equal = sym accepted_level.y;
    few = accepted_few;
    xs_within = holds_all within c.x (at_all (λ z. within z ≡ true) c.x (pos 0) x_at);
    ys_within =
        holds_all within c.y (at_all (λ z. within z ≡ true) c.y (pos 0) (λ i h. y_at i (omega (arith, accepted_level.y))));
    rising = accepted_rising;
  }

  -- The site at a place, and its coordinates.
  module _ (i : ℕ) (h : i < length c.x) where
    pub accepted_at : site_at (sites c) i ≡ columns_at c i
    accepted_at = site_at_lem c accepted_level i h

    pub inside_x : within (get_or c.x i (pos 0)) ≡ true
    inside_x = coordinate_x accepted_coordinates i h

    pub inside_y : within (get_or c.y i (pos 0)) ≡ true
    inside_y = coordinate_y accepted_coordinates i h

-- The heights of an accepted list.
pub accepted_heights : (xs ys : List ℤ) (ns : List ℕ) (hs : List ℤ) → list_refusal (raised xs ys ns hs) ≡ 0 → Heights (length xs) hs
unfolding All
accepted_heights xs ys ns hs ok =
    let c = raised xs ys ns hs in
    let same : length hs ≡ length xs = (accepted_level c ok).further.0 in
    record {
      equal = sym same;
      within =
          holds_all height_within hs (at_all (λ z. height_within z ≡ true) hs (pos 0) (λ i h.
          let s = columns_at c i in
          let height = get_or hs i (pos 0) in
          and_second (within s.y) (height_within height)
          (and_second (within s.x) (within s.y && height_within height)
          (sym (lawful_up s height refl) ∙ lawful_at c ok i (omega arith)))));
    }

-- Two accepted lists.
pub both_accepted : (a b : Columns) → lists_refusal a b ≡ 0 → (list_refusal a ≡ 0) × (list_refusal b ≡ 0)
unfolding lists_refusal
both_accepted a b h = (or_else_first (list_refusal a) (list_refusal b) h, or_else_second (list_refusal a) (list_refusal b) h)

-- Columns "of equal length, 0 to 65,535 sites, strictly ascending", each site inside the limits.
pub record LawfulList (c : Columns) : Type 0 where
  pub level : Level c
  pub few : length c.x ≤ 65_535
  pub inside : All (λ s. lawful_site s ≡ true) (sites c)
  pub ascends : Ascends site_before (sites c)

pub accepted_lawful : (c : Columns) → list_refusal c ≡ 0 → LawfulList c
accepted_lawful c ok = record {
  level = accepted_level c ok;
  few = accepted_few c ok;
  inside = content_inside (sites c) (accepted_content c ok);
  ascends = content_ascends (sites c) (accepted_content c ok);
}

pub lawful_accepted : (c : Columns) → LawfulList c → list_refusal c ≡ 0
lawful_accepted c h = content_left c h.level h.few ∙ content_lawful (sites c) h.inside h.ascends

-- No refusal is given exactly where the list is lawful.
pub accepted_iff : (c : Columns) → (list_refusal c ≡ 0) ↔ LawfulList c
accepted_iff c = (accepted_lawful c, lawful_accepted c)
