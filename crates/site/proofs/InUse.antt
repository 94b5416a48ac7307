-- The refusal of the sites in use, by the tests in their order, what accepted ones are, and what a change of them answers.
use mathlib.Core.Path.{◌≡◌, sym, ap, ◌∙◌}
use mathlib.Core.Bool.{Bool, true, cond, ◌&&◌, and-false}
use mathlib.Core.List.{List}
use Prim.Native.Nat.{ℕ, ◌≤◌, ◌<◌}
use native.Mathlib.Omega.{arith}
use borrow.Author.Tests.{ne_eqb, eq-eqb, lt-leb, le-leb, leb-true}
use lib.Dec.{leb}
use lib.IntN.{ℤ}
use lib.ListN.{length, take, length-take}
use lib.Seq.{length-take-le}
use Rattle.order.specs.Lists.{all}
use Rattle.order.specs.Order.{ascending}
use Rattle.order.proofs.Lists.{all_map, all_weaken}
use Rattle.site.specs.declared.Changed.{Changed}
use Rattle.site.specs.declared.refusals.Refusal.{Refusal}
use Rattle.std.specs.Prelude.{Ok, Err}
use Rattle.site.specs.Answer.{answer_unless, afterwards, or_else, number, answer_of}
use Rattle.site.specs.Site.{Site, site_before}
use Rattle.site.specs.SiteList.{Columns, raised, sites, in_use}
use Rattle.site.specs.Terms.{Level}
use Rattle.site.specs.Refusal.{equal_lengths, size_fault, content_refusal, list_refusal}
use Rattle.site.specs.InUse.{used_refusal, place_of, present, ChangeValues, changed}
use Rattle.site.proofs.Tests.{and_first, and_second}
use Rattle.site.proofs.Answer.{result_ok, result_err, after_err, after_answered, or_else_first, or_else_second, fault_none}
use Rattle.site.proofs.SiteList.{sites_length, flattened, flat_level, flat_site, flat_sites}
use Rattle.site.proofs.PlaceOf.{place_flat, present_flat}
use Rattle.site.proofs.ListRefusal.{level_equal, equal_level, content_left, flat_ascending}
use Rattle.site.proofs.Accepted.{LawfulList, content_inside, content_order, content_ascends, lawful_accepted}

-- ---- the refusal

module _ (c : Columns) (n : ℕ) where
  pub used_unequal_y : (length c.x ≡ length c.y → ⊥) → 1 ≡ used_refusal c n
  unfolding used_refusal size_fault equal_lengths or_else
  used_unequal_y h = simp (ne_eqb (length c.x) (length c.y) h)

  pub used_unequal_number : length c.x ≡ length c.y → (length c.x ≡ length c.number → ⊥) → 1 ≡ used_refusal c n
  unfolding used_refusal size_fault equal_lengths or_else
  used_unequal_number p h = simp (eq-eqb (length c.x) (length c.y) p, ne_eqb (length c.x) (length c.number) h)

  module _ (level : Level c) where
    pub used_many : 65_535 < n → 1 ≡ used_refusal c n
    unfolding used_refusal size_fault or_else
    used_many h = simp (level_equal c level, lt-leb n 65_535 h)

    pub used_beyond : n ≤ 65_535 → length c.x < n → 1 ≡ used_refusal c n
    unfolding used_refusal size_fault or_else
    used_beyond few h = simp (level_equal c level, le-leb n 65_535 few, lt-leb n (length c.x) h)

    module _ (inside : n ≤ length c.x) where
      pub in_use_level : Level (in_use n c)
      unfolding in_use
      in_use_level = record {
        y = simp length-take (omega (arith, level.y));
        number = simp length-take (omega (arith, level.number));
        further =
            all_map (λ column. length column ≡ length (take n c.x)) (take n) c.further
            (all_weaken (λ column. length column ≡ length c.x) (λ column. length (take n column) ≡ length (take n c.x))
            (λ column e. simp length-take (omega arith)) c.further level.further);
      }

      pub in_use_length : length (sites (in_use n c)) ≡ n
      unfolding in_use
      in_use_length = sites_length (in_use n c) in_use_level ∙ length-take-le n c.x inside

      -- The place of a site, and whether it is there, by the sites in the plane.
      pub in_use_place : (s : Site) → place_of (flat_site s) (sites (in_use n (flattened c))) ≡ place_of s (sites (in_use n c))
      unfolding in_use
      in_use_place s = ap (place_of (flat_site s)) (sym (flat_sites (in_use n c) in_use_level)) ∙ place_flat s (sites (in_use n c))

      pub in_use_present : (s : Site) → present (flat_site s) (sites (in_use n (flattened c))) ≡ present s (sites (in_use n c))
      unfolding in_use
      in_use_present s = ap (present (flat_site s)) (sym (flat_sites (in_use n c) in_use_level)) ∙ present_flat s (sites (in_use n c))

      -- They ascend where those in the plane do.
      pub in_use_ascending : ascending site_before (sites (in_use n (flattened c))) ≡ ascending site_before (sites (in_use n c))
      unfolding in_use
      in_use_ascending = flat_ascending (in_use n c) in_use_level

      pub used_list : n ≤ 65_535 → list_refusal (in_use n c) ≡ used_refusal c n
      unfolding used_refusal size_fault or_else in_use
      used_list few =
          simp (level_equal c level, le-leb n 65_535 few, le-leb n (length c.x) inside)
          (content_left (in_use n c) in_use_level (simp length-take (omega arith)))

-- With heights: a column of theirs that is not as long as the others.
pub used_unequal_height : (xs ys : List ℤ) (ns : List ℕ) (hs : List ℤ) (n : ℕ) → (length xs ≡ length hs → ⊥)
    → 1 ≡ used_refusal (raised xs ys ns hs) n
unfolding used_refusal size_fault equal_lengths or_else all
used_unequal_height xs ys ns hs n h = simp (ne_eqb (length xs) (length hs) h, and-false)

-- ---- accepted sites

module _ (c : Columns) (n : ℕ) (ok : used_refusal c n ≡ 0) where
  -- What the count in use must be.
  abbrev small : Bool
  small = leb n 65_535 && leb n (length c.x)

  sizes : (equal_lengths c && small) ≡ true
  unfolding used_refusal size_fault
  sizes = fault_none (equal_lengths c && small) 0 (or_else_first _ (content_refusal (sites (in_use n c))) ok)

  pub used_level : Level c
  used_level = equal_level c (and_first (equal_lengths c) small sizes)

  pub used_few : n ≤ 65_535
  used_few = leb-true n 65_535 (and_first (leb n 65_535) _ (and_second (equal_lengths c) small sizes))

  pub used_inside : n ≤ length c.x
  used_inside = leb-true n (length c.x) (and_second (leb n 65_535) _ (and_second (equal_lengths c) small sizes))

  pub used_content : content_refusal (sites (in_use n c)) ≡ 0
  unfolding used_refusal
  used_content = or_else_second (cond (size_fault c n) 1 0) (content_refusal (sites (in_use n c))) ok

  -- What a look for a site among them asks.
  pub used_asked : ((Level (flattened c)) × (n ≤ length c.x) × (n ≤ 65_535))
      × (ascending site_before (sites (in_use n (flattened c))) ≡ true)
  used_asked = (
    (flat_level c used_level, used_inside, used_few),
    in_use_ascending c n used_level used_inside ∙ content_order (sites (in_use n c)) used_content,
  )

  pub used_lawful : LawfulList (in_use n c)
  unfolding in_use
  used_lawful = record {
    level = in_use_level c n used_level used_inside;
    few = omega (arith, used_few, length-take-le n c.x used_inside);
    inside = content_inside (sites (in_use n c)) used_content;
    ascends = content_ascends (sites (in_use n c)) used_content;
  }

pub used_accepted : (c : Columns) (n : ℕ) → Level c → n ≤ length c.x → LawfulList (in_use n c) → used_refusal c n ≡ 0
unfolding in_use
used_accepted c n level inside lawful =
    sym (used_list c n level inside (omega (arith, lawful.few, length-take-le n c.x inside))) ∙ lawful_accepted (in_use n c) lawful

-- ---- the answer of a change

module _ {n : ℕ} (values : ChangeValues) (c : Columns) where
  -- It is made.
  pub change_made : {d : Columns} {told : Changed} → n ≡ 0 → changed d told ≡ values
      → (answer_of (changed d) (Ok told) ≡ answer_unless n values) × (d ≡ afterwards (λ v. v.columns) (answer_unless n values) c)
  change_made {d} {told} ok e = (
    result_ok (changed d) told ok e,
    ap (λ (v : ChangeValues). v.columns) e ∙ after_answered (λ v. v.columns) values c ok,
  )

  -- It is refused, and changes nothing.
  pub change_refused : (r : Refusal) → number r ≡ n
      → (answer_of (changed c) (Err r) ≡ answer_unless n values) × (c ≡ afterwards (λ v. v.columns) (answer_unless n values) c)
  change_refused r e = (result_err (changed c) values r e, after_err (changed c) (λ v. v.columns) values c r e)
