-- The refusals of a file, one test after another.
use mathlib.Core.Path.{◌≡◌, refl, sym}
use mathlib.Core.Bool.{Bool, true, false, not, ◌&&◌, ◌||◌}
use mathlib.Core.List.{List}
use Prim.Native.Nat.{ℕ, ◌+◌, ◌*◌, ◌≤◌, ◌<◌}
use native.Mathlib.Omega.{arith}
use borrow.Author.Tests.{lt-ltb, le-ltb, lt-leb, ltb-false, eq-eqb, ne_eqb, eqb-true}
use lib.Dec.{ltb, eqb}
use lib.ListN.{length}
use Rattle.order.specs.Order.{ascending}
use Rattle.order.specs.Lists.{all}
use Rattle.site.specs.Site.{Site, lawful_site, site_before}
use Rattle.std.specs.Prelude.{Ok, Err}
use Rattle.site.specs.declared.refusals.Refusal.{Refusal}
use Rattle.site.specs.Answer.{answered, answer_unless, refuse_if, or_else, number, answer_of}
use Rattle.site.specs.SiteList.{site_at}
use Rattle.site.specs.Refusal.{content_refusal}
use Rattle.site.proofs.Tests.{by_test, and_first, and_second, or_first, or_second}
use Rattle.site.proofs.Answer.{
  result_ok,
  result_err,
  first_refused,
  next_decides,
  or_else_first,
  or_else_second,
  no_fault,
  fault_none,
}
use Rattle.site_file.specs.Bytes.{word}
use Rattle.site_file.specs.declared.Which.{Which}
use Rattle.site_file.specs.declared.Which.TheVariants.{First, Second}
use Rattle.site_file.specs.File.{start_in, count_in, site_in, sites_from, sites_in}
use Rattle.site_file.specs.Calls.{contents_refusal, read_refusal, counts, read_answer, site_refusal, site_answer}
use Rattle.site_file.proofs.File.{from_at}

-- The tests of a file's contents, in their order.
module _ (file : List ℕ) where
  pub short_file : length file < 16 → 10 ≡ contents_refusal file
  unfolding contents_refusal or_else
  short_file h = rw (lt-ltb (length file) 16 h)

  pub first_long : 16 ≤ length file → 65_535 < word file 4 → 1 ≡ contents_refusal file
  unfolding contents_refusal or_else count_in
  first_long h k = rw (le-ltb (length file) 16 h, lt-ltb 65_535 (word file 4) k)

  pub second_long : 16 ≤ length file → 65_535 < word file 12 → 1 ≡ contents_refusal file
  unfolding contents_refusal or_else count_in
  second_long h k =
      by_test (ltb 65_535 (word file 4)) (λ t. rw (le-ltb (length file) 16 h, t))
      (λ t. rw (le-ltb (length file) 16 h, t, lt-ltb 65_535 (word file 12) k))

  -- What is left to test where the counts are lawful.
  module _ (h : 16 ≤ length file) (k : word file 4 ≤ 65_535) (j : word file 12 ≤ 65_535) where
    abbrev layout : Bool
    layout =
        eqb (word file 0) 16 && eqb (word file 8) (16 + 12 * word file 4)
        && eqb (length file) (16 + 12 * word file 4 + 12 * word file 12)

    counts_lawful : contents_refusal file ≡ refuse_if (not layout) 10
    unfolding contents_refusal or_else start_in count_in
    counts_lawful = rw (le-ltb (length file) 16 h, le-ltb 65_535 (word file 4) k, le-ltb 65_535 (word file 12) j)

    pub first_start_wrong : (word file 0 ≡ 16 → ⊥) → 10 ≡ contents_refusal file
    first_start_wrong ne = rw (counts_lawful, ne_eqb (word file 0) 16 ne)

    pub second_start_wrong : word file 0 ≡ 16 → (word file 8 ≡ 16 + 12 * word file 4 → ⊥) → 10 ≡ contents_refusal file
    second_start_wrong e ne =
        rw (counts_lawful, eq-eqb (word file 0) 16 e, ne_eqb (word file 8) (16 + 12 * word file 4) ne)

    pub length_wrong : word file 0 ≡ 16 → word file 8 ≡ 16 + 12 * word file 4
        → (length file ≡ 16 + 12 * word file 4 + 12 * word file 12 → ⊥) → 10 ≡ contents_refusal file
    length_wrong e g ne =
        rw (
          counts_lawful,
          eq-eqb (word file 0) 16 e,
          eq-eqb (word file 8) (16 + 12 * word file 4) g,
          ne_eqb (length file) (16 + 12 * word file 4 + 12 * word file 12) ne,
        )

    pub contents_right : word file 0 ≡ 16 → word file 8 ≡ 16 + 12 * word file 4
        → length file ≡ 16 + 12 * word file 4 + 12 * word file 12 → 0 ≡ contents_refusal file
    contents_right e g l =
        rw (
          counts_lawful,
          eq-eqb (word file 0) 16 e,
          eq-eqb (word file 8) (16 + 12 * word file 4) g,
          eq-eqb (length file) (16 + 12 * word file 4 + 12 * word file 12) l,
        )

-- What lawful contents say.
pub record Laid (file : List ℕ) : Type 0 where
  pub room : 16 ≤ length file
  pub n : word file 4 ≤ 65_535
  pub m : word file 12 ≤ 65_535
  pub first : word file 0 ≡ 16
  pub second : word file 8 ≡ 16 + 12 * word file 4
  pub size : length file ≡ 16 + 12 * word file 4 + 12 * word file 12

pub laid : (file : List ℕ) → contents_refusal file ≡ 0 → Laid file
unfolding contents_refusal start_in count_in
laid file e =
    let later = or_else_second (refuse_if (ltb (length file) 16) 10) _ e in
    let many = refuse_if (ltb 65_535 (word file 4) || ltb 65_535 (word file 12)) 1 in
    let few = no_fault _ 0 (or_else_first many _ later) in
    let right = fault_none _ 9 (or_else_second many _ later) in
    let second = eqb (word file 8) (16 + 12 * word file 4) in
    let starts = and_first (eqb (word file 0) 16 && second) _ right in
    record {
      room = ltb-false _ _ (no_fault (ltb (length file) 16) 9 (or_else_first _ _ e));
      n = ltb-false _ _ (or_first (ltb 65_535 (word file 4)) (ltb 65_535 (word file 12)) few);
      m = ltb-false _ _ (or_second (ltb 65_535 (word file 4)) (ltb 65_535 (word file 12)) few);
      first = eqb-true _ _ (and_first (eqb (word file 0) 16) second starts);
      second = eqb-true _ _ (and_second (eqb (word file 0) 16) second starts);
      size = eqb-true _ _ (and_second (eqb (word file 0) 16 && second) _ right);
    }

-- The tests of a list's sites.
module _ (l : List Site) {b : Bool} (p : b ≡ all lawful_site l) where
  pub unlawful_site : b ≡ false → 2 ≡ content_refusal l
  unfolding content_refusal or_else
  unlawful_site t = rw (← p, t)

  pub unordered_sites : {d : Bool} → b ≡ true → d ≡ ascending site_before l → d ≡ false → 3 ≡ content_refusal l
  unfolding content_refusal or_else
  unordered_sites t q f = rw (← p, t, ← q, f)

  pub lawful_sites : {d : Bool} → b ≡ true → d ≡ ascending site_before l → d ≡ true → 0 ≡ content_refusal l
  unfolding content_refusal or_else
  lawful_sites t q f = rw (← p, t, ← q, f)

-- What the parts of a reading answer.
module _ (file : List ℕ) where
  pub read_stops : {r : ℕ} → r ≡ contents_refusal file → (r ≡ 0 → ⊥) → r ≡ read_refusal file
  unfolding read_refusal
  read_stops p h = first_refused _ p h

  module _ (p : 0 ≡ contents_refusal file) {n s : ℕ} (pn : n ≡ word file 4) (ps : s ≡ content_refusal (sites_from file 16 n)) where
    first_content : s ≡ content_refusal (sites_in file First)
    unfolding sites_in start_in count_in
    first_content = rw ((laid file (sym p)).first, ← pn) ps

    pub read_first : (s ≡ 0 → ⊥) → s ≡ read_refusal file
    unfolding read_refusal
    read_first h = next_decides p refl (first_refused _ first_content h)

    pub read_second : s ≡ 0 → {m k t : ℕ} → k ≡ word file 8 → m ≡ word file 12 → t ≡ content_refusal (sites_from file k m)
        → t ≡ read_refusal file
    unfolding read_refusal sites_in start_in count_in
    read_second h pk pm pt = next_decides p refl (next_decides first_content h (rw (← pk, ← pm) pt))

-- What a file that is not refused says.
module _ (file : List ℕ) (h : read_refusal file ≡ 0) where
  pub read_contents : contents_refusal file ≡ 0
  unfolding read_refusal
  read_contents = or_else_first _ _ h

  pub read_laid : Laid file
  read_laid = laid file read_contents

  pub read_content : (w : Which) → content_refusal (sites_in file w) ≡ 0
  unfolding read_refusal
  read_content First = or_else_first _ _ (or_else_second _ _ h)
  read_content Second = or_else_second _ _ (or_else_second _ _ h)

-- The answers of a reading.
module _ (file : List ℕ) where
  pub read_refused : (r : Refusal) → number r ≡ read_refusal file → answer_of counts (Err r) ≡ read_answer file
  unfolding read_answer
  read_refused r p = result_err counts _ r p

  pub read_answered : 0 ≡ read_refusal file → {a b : ℕ} → a ≡ word file 4 → b ≡ word file 12
      → answer_of counts (Ok (record { first = a; second = b })) ≡ read_answer file
  unfolding read_answer count_in
  read_answered p pa pb = rw (← pa, ← pb) (result_ok counts _ (sym p) refl)

-- Where a list of a lawful file lies.
pub record Inside (file : List ℕ) (w : Which) : Type 0 where
  pub start : 16 ≤ start_in file w
  pub count : count_in file w ≤ 65_535
  pub body : start_in file w + 12 * count_in file w ≤ length file
  pub small : length file ≤ 1_572_856

pub inside : (file : List ℕ) (w : Which) → Laid file → Inside file w
unfolding count_in start_in
inside file First g = record { start = omega arith; count = omega arith; body = omega arith; small = omega arith }
inside file Second g = record { start = omega arith; count = omega arith; body = omega arith; small = omega arith }

-- Consulting an accepted file finds the site of its list.
pub site_found : (file : List ℕ) (w : Which) (place : ℕ) → contents_refusal file ≡ 0 → place < count_in file w
    → site_answer file w place ≡ answered (site_at (sites_in file w) place)
unfolding site_answer site_refusal answer_unless or_else
site_found file w place none h = rw (none, lt-leb (count_in file w) place h)

-- That site, by its position.
pub site_position : (file : List ℕ) (w : Which) (place : ℕ) → place < count_in file w
    → site_at (sites_in file w) place ≡ site_in file (start_in file w + 12 * place)
unfolding sites_in site_at
site_position file w place h = from_at file (start_in file w) (count_in file w) place _ h
