-- Small laws of lists: statements and tests of each element, members, permutations, distinct lists, parts, the last, sums, joined lists.
use mathlib.Core.Path.{◌≡◌, refl, sym, ap, ◌∙◌, subst, subst⁻¹}
use mathlib.Core.Logic.{◌⊎◌, ⊎_elim, ◌↔◌}
use mathlib.Core.Bool.{Bool, true, false, not, ◌&&◌}
use mathlib.Core.List.Permᴰ
use mathlib.Core.List.{List, [], ◌∷◌, ◌++◌, map, zip_with, append_assoc, Memᴰ, Permᴰ}
use Prim.Native.Nat.{ℕ, zero, suc, ◌+◌, ◌-◌, ◌≤◌, ◌<◌, min}
use native.Mathlib.Nat.{add-zero, sub-zero, zero-sub, suc-sub-suc}
use native.Mathlib.Omega.{arith}
use lib.Dec.{eqb, eqb-suc-suc}
use borrow.Author.Tests.{ne_eqb}
use lib.ListN.{length, take, drop, get_or, set, length-map, length-take, take-append-drop, drop_of_length-le}
use lib.Seq.{get_or-drop, drop-cons, take-append_seam}
use Rattle.order.specs.Lists.{all, keep, All, Distinct, last, sum}
use Rattle.order.proofs.Order.{by_test, never_both}

-- ---- a statement of each element

module _ {A : Type 0} (P : A → Type 0) where
  -- Of each element, so of a member.
  pub all_mem : {x : A} {l : List A} → All P l → Memᴰ x l → P x
  unfolding All
  all_mem h (mathlib.Core.List.Memᴰ.head e) = subst⁻¹ P e h.0
  all_mem h (mathlib.Core.List.Memᴰ.tail m) = all_mem h.1 m

  -- Of each member, so of each element.
  pub mem_all : (l : List A) → ((x : A) → Memᴰ x l → P x) → All P l
  unfolding All
  mem_all [] h = tt
  mem_all (a ∷ l) h = (h a (mathlib.Core.List.Memᴰ.head refl), mem_all l (λ x m. h x (mathlib.Core.List.Memᴰ.tail m)))

  pub all_nil : All P []
  unfolding All
  all_nil = tt

  pub all_cons : (a : A) (l : List A) → P a → All P l → All P (a ∷ l)
  unfolding All
  all_cons a l p h = (p, h)

  pub all_head : (a : A) (l : List A) → All P (a ∷ l) → P a
  unfolding All
  all_head a l h = h.0

  pub all_tail : (a : A) (l : List A) → All P (a ∷ l) → All P l
  unfolding All
  all_tail a l h = h.1

  pub all_append : (l m : List A) → All P l → All P m → All P (l ++ m)
  unfolding All
  all_append [] m h g = g
  all_append (a ∷ l) m h g = (h.0, all_append l m h.1 g)

  pub all_append_left : (l m : List A) → All P (l ++ m) → All P l
  unfolding All
  all_append_left [] m h = tt
  all_append_left (a ∷ l) m h = (h.0, all_append_left l m h.1)

  pub all_append_right : (l m : List A) → All P (l ++ m) → All P m
  unfolding All
  all_append_right [] m h = h
  all_append_right (a ∷ l) m h = all_append_right l m h.1

  pub all_take : (k : ℕ) (l : List A) → All P l → All P (take k l)
  all_take k l h = all_append_left (take k l) (drop k l) (rw take-append-drop h)

  pub all_drop : (k : ℕ) (l : List A) → All P l → All P (drop k l)
  all_drop k l h = all_append_right (take k l) (drop k l) (rw take-append-drop h)

  pub all_at : (l : List A) (i : ℕ) (d : A) → i < length l → All P l → P (get_or l i d)
  unfolding All
  all_at [] i d lt h = absurd (omega arith)
  all_at (a ∷ l) zero d lt h = h.0
  all_at (a ∷ l) (suc i) d lt h = all_at l i d (omega arith) h.1

  pub at_all : (l : List A) (d : A) → ((i : ℕ) → i < length l → P (get_or l i d)) → All P l
  unfolding All
  at_all [] d h = tt
  at_all (a ∷ l) d h = (h 0 (omega arith), at_all l d (λ i lt. h (suc i) (omega arith)))

pub all_weaken : {A : Type 0} (P Q : A → Type 0) → ((a : A) → P a → Q a) → (l : List A) → All P l → All Q l
unfolding All
all_weaken P Q f [] h = tt
all_weaken P Q f (a ∷ l) h = (f a h.0, all_weaken P Q f l h.1)

pub all_map : {A B : Type 0} (P : B → Type 0) (f : A → B) (l : List A) → All (λ a. P (f a)) l → All P (map f l)
unfolding All
all_map P f [] h = tt
all_map P f (a ∷ l) h = (h.0, all_map P f l h.1)

pub map_all : {A B : Type 0} (P : B → Type 0) (f : A → B) (l : List A) → All P (map f l) → All (λ a. P (f a)) l
unfolding All
map_all P f [] h = tt
map_all P f (a ∷ l) h = (h.0, map_all P f l h.1)

-- ---- a test of each element

module _ {A : Type 0} (test : A → Bool) where
  pub all_holds : (l : List A) → all test l ≡ true → All (λ a. test a ≡ true) l
  unfolding all All
  all_holds [] h = tt
  all_holds (a ∷ l) h =
      by_test (test a) (λ t. (t, all_holds l (rw t at h))) (λ f. let g : false ≡ true = rw f at h in never_both g refl)

  pub holds_all : (l : List A) → All (λ a. test a ≡ true) l → all test l ≡ true
  unfolding all All
  holds_all [] h = refl
  holds_all (a ∷ l) h = rw h.0 (holds_all l h.1)

  pub all_iff : (l : List A) → (all test l ≡ true) ↔ All (λ a. test a ≡ true) l
  all_iff l = (all_holds l, holds_all l)

  pub all_part : (n k : ℕ) (l : List A) → all test l ≡ true → all test (take n (drop k l)) ≡ true
  all_part n k l h =
      holds_all (take n (drop k l)) (all_take (λ a. test a ≡ true) n (drop k l) (all_drop (λ a. test a ≡ true) k l (all_holds l h)))

  pub keep_yes : (a : A) (l : List A) → test a ≡ true → keep test (a ∷ l) ≡ a ∷ keep test l
  unfolding keep
  keep_yes a l p = rw p

  pub keep_no : (a : A) (l : List A) → test a ≡ false → keep test (a ∷ l) ≡ keep test l
  unfolding keep
  keep_no a l p = rw p

  pub keep_nil : keep test [] ≡ []
  unfolding keep
  keep_nil = refl

  pub keep_append : (l m : List A) → keep test (l ++ m) ≡ keep test l ++ keep test m
  keep_append [] m = rw keep_nil
  keep_append (a ∷ l) m =
      by_test (test a)
      (λ p. rw (keep_yes a l p, keep_yes a (l ++ m) p) (ap (λ (r : List A). a ∷ r) (keep_append l m)))
      (λ p. rw (keep_no a l p, keep_no a (l ++ m) p) (keep_append l m))

  -- What is kept of one list and then of another, behind a third.
  pub keep_after : (p l m : List A) → (p ++ keep test l) ++ keep test m ≡ p ++ keep test (l ++ m)
  keep_after p l m = append_assoc p (keep test l) (keep test m) ∙ ap (λ (r : List A). p ++ r) (sym (keep_append l m))

  -- A kept element is one of the list, of which the test holds.
  pub keep_mem : {x : A} (l : List A) → Memᴰ x (keep test l) → Memᴰ x l × (test x ≡ true)
  keep_mem {x} [] m = absurd (mathlib.Core.List.Memᴰ.not-nil (rw keep_nil at m))
  keep_mem {x} (a ∷ l) m =
      by_test (test a)
      (λ p.
      let n : Memᴰ x (a ∷ keep test l) = rw (keep_yes a l p) at m in
      ⊎_elim (λ (e : x ≡ a). (mathlib.Core.List.Memᴰ.head e, rw e p))
      (λ (r : Memᴰ x (keep test l)). let w = keep_mem l r in (mathlib.Core.List.Memᴰ.tail w.0, w.1))
      (mathlib.Core.List.Memᴰ.cases_cons n))
      (λ p.
      let n : Memᴰ x (keep test l) = rw (keep_no a l p) at m in
      let w = keep_mem l n in
      (mathlib.Core.List.Memᴰ.tail w.0, w.1))

  -- An element of which the test holds is kept.
  pub mem_keep : {x : A} (l : List A) → Memᴰ x l → test x ≡ true → Memᴰ x (keep test l)
  mem_keep [] m h = absurd (mathlib.Core.List.Memᴰ.not-nil m)
  mem_keep {x} (a ∷ l) m h =
      by_test (test a)
      (λ p. rw (keep_yes a l p)
      (⊎_elim (λ (e : x ≡ a). mathlib.Core.List.Memᴰ.head e) (λ (r : Memᴰ x l). mathlib.Core.List.Memᴰ.tail (mem_keep l r h)) (mathlib.Core.List.Memᴰ.cases_cons m)))
      (λ p. rw (keep_no a l p)
      (⊎_elim (λ (e : x ≡ a). never_both h (rw e p)) (λ (r : Memᴰ x l). mem_keep l r h) (mathlib.Core.List.Memᴰ.cases_cons m)))

  pub keep_whole : (l : List A) → All (λ a. test a ≡ true) l → keep test l ≡ l
  unfolding All
  keep_whole [] h = keep_nil
  keep_whole (a ∷ l) h = rw (keep_yes a l h.0) (ap (λ (r : List A). a ∷ r) (keep_whole l h.1))

  pub keep_none : (l : List A) → All (λ a. test a ≡ false) l → keep test l ≡ []
  unfolding All
  keep_none [] h = keep_nil
  keep_none (a ∷ l) h = rw (keep_no a l h.0) (keep_none l h.1)

  pub all_keep : (P : A → Type 0) (l : List A) → All P l → All P (keep test l)
  all_keep P l h = mem_all P (keep test l) (λ x m. all_mem P h (keep_mem l m).0)

  pub length_keep : (l : List A) → length (keep test l) ≤ length l
  length_keep [] = rw keep_nil (omega arith)
  length_keep (a ∷ l) =
      by_test (test a)
      (λ p. rw (keep_yes a l p) (omega (arith, length_keep l)))
      (λ p. rw (keep_no a l p) (omega (arith, length_keep l)))

  -- How many are kept where the test holds of exactly the elements from place `f` up to place `t`.
  pub length_keep_run : (l : List A) (d : A) (f t : ℕ) → f ≤ t → t ≤ length l
      → ((k : ℕ) → k < f → test (get_or l k d) ≡ false)
      → ((k : ℕ) → f ≤ k → k < t → test (get_or l k d) ≡ true)
      → ((k : ℕ) → t ≤ k → k < length l → test (get_or l k d) ≡ false)
      → length (keep test l) ≡ t - f
  length_keep_run [] d f t u h before inside after = rw keep_nil (omega arith)
  length_keep_run (a ∷ l) d zero zero u h before inside after =
      rw (keep_no a l (after 0 (omega arith) (omega arith)))
      (length_keep_run l d 0 0 u (omega arith) (λ k p. absurd (omega arith)) (λ k p q. absurd (omega arith))
      (λ k p q. after (suc k) (omega arith) (omega arith)))
  length_keep_run (a ∷ l) d (suc f) zero u h before inside after = absurd (omega arith)
  length_keep_run (a ∷ l) d zero (suc t) u h before inside after =
      rw (keep_yes a l (inside 0 (omega arith) (omega arith)))
      (omega (
        arith,
        length_keep_run l d 0 t (omega arith) (omega arith) (λ k p. absurd (omega arith))
            (λ k p q. inside (suc k) (omega arith) (omega arith))
            (λ k p q. after (suc k) (omega arith) (omega arith)),
      ))
  length_keep_run (a ∷ l) d (suc f) (suc t) u h before inside after =
      rw (keep_no a l (before 0 (omega arith)))
      (omega (
        arith,
        length_keep_run l d f t (omega arith) (omega arith) (λ k p. before (suc k) (omega arith))
            (λ k p q. inside (suc k) (omega arith) (omega arith))
            (λ k p q. after (suc k) (omega arith) (omega arith)),
      ))

  -- One fewer is kept once an element of which the test holds gives way to one of which it does not.
  pub length_keep_set : (l : List A) (i : ℕ) (v d : A) → i < length l → test (get_or l i d) ≡ true → test v ≡ false
      → length (keep test l) ≡ suc (length (keep test (set l i v)))
  length_keep_set [] i v d lt h g = absurd (omega arith)
  length_keep_set (a ∷ l) zero v d lt h g = rw (keep_yes a l h, keep_no v l g)
  length_keep_set (a ∷ l) (suc i) v d lt h g =
      let less = length_keep_set l i v d (omega arith) h g in
      by_test (test a)
      (λ p. rw (keep_yes a l p, keep_yes a (set l i v) p) (ap suc less))
      (λ p. rw (keep_no a l p, keep_no a (set l i v) p) less)

  -- As many are kept as there are exactly where the test holds of each.
  pub kept_all : (l : List A) → eqb (length (keep test l)) (length l) ≡ all test l
  unfolding all
  kept_all [] = rw keep_nil
  kept_all (a ∷ l) =
      by_test (test a)
      (λ p. rw (keep_yes a l p, p) (eqb-suc-suc (length (keep test l)) (length l) ∙ kept_all l))
      (λ p. rw (keep_no a l p, p) (ne_eqb (length (keep test l)) (suc (length l)) (λ e. omega (arith, length_keep l))))

  -- A test that implies another keeps no more.
  pub keep_fewer : (other : A → Bool) → ((a : A) → test a ≡ true → other a ≡ true) → (l : List A)
      → length (keep test l) ≤ length (keep other l)
  unfolding keep
  keep_fewer other h [] = omega arith
  keep_fewer other h (a ∷ l) =
      let m = keep_fewer other h l in
      by_test (test a)
      (λ p. rw (p, h a p) (omega arith))
      (λ p. by_test (other a) (λ q. rw (p, q) (omega arith)) (λ q. rw (p, q) (omega arith)))

pub keep_map : {A B : Type 0} (test : B → Bool) (f : A → B) (l : List A) → keep test (map f l) ≡ map f (keep (λ a. test (f a)) l)
keep_map test f [] = simp keep_nil
keep_map {A} {B} test f (a ∷ l) =
    by_test (test (f a))
    (λ p. rw (keep_yes test (f a) (map f l) p, keep_yes (λ (x : A). test (f x)) a l p) (ap (λ (r : List B). f a ∷ r) (keep_map test f l)))
    (λ p. rw (keep_no test (f a) (map f l) p, keep_no (λ (x : A). test (f x)) a l p) (keep_map test f l))

pub length_keep_map : {A B : Type 0} (test : B → Bool) (f : A → B) (l : List A)
    → length (keep test (map f l)) ≡ length (keep (λ a. test (f a)) l)
length_keep_map {A} test f l = ap length (keep_map test f l) ∙ length-map (keep (λ (a : A). test (f a)) l) f

-- ---- permutations

module _ {A : Type 0} where
  pub perm_mem : {x : A} {l m : List A} → Permᴰ l m → Memᴰ x l → Memᴰ x m
  perm_mem Permᴰ.nil h = h
  perm_mem {x} (Permᴰ.cons {a = a} {l₁ = l} e p) h =
      ⊎_elim (λ (f : x ≡ a). mathlib.Core.List.Memᴰ.head (f ∙ e)) (λ (r : Memᴰ x l). mathlib.Core.List.Memᴰ.tail (perm_mem p r)) (mathlib.Core.List.Memᴰ.cases_cons h)
  perm_mem {x} (Permᴰ.swap {a = a} {b = b} {l = l} e f) h =
      ⊎_elim (λ (g : x ≡ a). mathlib.Core.List.Memᴰ.tail (mathlib.Core.List.Memᴰ.head (g ∙ e)))
      (λ (r : Memᴰ x (b ∷ l)).
      ⊎_elim (λ (g : x ≡ b). mathlib.Core.List.Memᴰ.head (g ∙ f)) (λ (q : Memᴰ x l). mathlib.Core.List.Memᴰ.tail (mathlib.Core.List.Memᴰ.tail q)) (mathlib.Core.List.Memᴰ.cases_cons r))
      (mathlib.Core.List.Memᴰ.cases_cons h)
  perm_mem (Permᴰ.trans p q) h = perm_mem q (perm_mem p h)

  pub perm_all : (P : A → Type 0) {l m : List A} → Permᴰ l m → All P l → All P m
  perm_all P {l} {m} p h = mem_all P m (λ x r. all_mem P h (perm_mem (Permᴰ.symm p) r))

  pub perm_length : {l m : List A} → Permᴰ l m → length l ≡ length m
  perm_length Permᴰ.nil = refl
  perm_length (Permᴰ.cons e p) = ap suc (perm_length p)
  perm_length (Permᴰ.swap e f) = refl
  perm_length (Permᴰ.trans p q) = perm_length p ∙ perm_length q

  -- ---- distinct lists

  pub perm_distinct : {l m : List A} → Permᴰ l m → Distinct l → Distinct m
  unfolding Distinct All
  perm_distinct Permᴰ.nil d = d
  perm_distinct (Permᴰ.cons {a = a} {b = b} {l₁ = l} {l₂ = m} e p) d =
      (perm_all (λ y. b ≡ y → ⊥) p (subst (λ x. All (λ y. x ≡ y → ⊥) l) e d.0), perm_distinct p d.1)
  perm_distinct (Permᴰ.swap {a = a} {b = b} {a' = c} {b' = g} {l = l} e f) d = (
    (λ h. d.0.0 (e ∙ sym h ∙ sym f), subst (λ x. All (λ y. x ≡ y → ⊥) l) f d.1.0),
    (subst (λ x. All (λ y. x ≡ y → ⊥) l) e d.0.1, d.1.1),
  )
  perm_distinct (Permᴰ.trans p q) d = perm_distinct q (perm_distinct p d)

  pub distinct_left : (l m : List A) → Distinct (l ++ m) → Distinct l
  unfolding Distinct
  distinct_left [] m d = tt
  distinct_left (a ∷ l) m d = (all_append_left (λ b. a ≡ b → ⊥) l m d.0, distinct_left l m d.1)

  pub distinct_right : (l m : List A) → Distinct (l ++ m) → Distinct m
  unfolding Distinct
  distinct_right [] m d = d
  distinct_right (a ∷ l) m d = distinct_right l m d.1

  -- Nothing stands in both parts of a distinct list.
  pub distinct_apart : {x : A} (l m : List A) → Distinct (l ++ m) → Memᴰ x l → Memᴰ x m → ⊥
  unfolding Distinct
  distinct_apart [] m d p q = mathlib.Core.List.Memᴰ.not-nil p
  distinct_apart {x} (a ∷ l) m d p q =
      ⊎_elim (λ (e : x ≡ a). all_mem (λ b. a ≡ b → ⊥) (all_append_right (λ b. a ≡ b → ⊥) l m d.0) q (sym e))
      (λ (r : Memᴰ x l). distinct_apart l m d.1 r q)
      (mathlib.Core.List.Memᴰ.cases_cons p)

  pub distinct_append : (l m : List A) → Distinct l → Distinct m → ((x : A) → Memᴰ x l → Memᴰ x m → ⊥) → Distinct (l ++ m)
  unfolding Distinct
  distinct_append [] m d g h = g
  distinct_append (a ∷ l) m d g h = (
    all_append (λ b. a ≡ b → ⊥) l m d.0 (mem_all (λ b. a ≡ b → ⊥) m (λ x r e. h a (mathlib.Core.List.Memᴰ.head refl) (mathlib.Core.List.Memᴰ.cast e r))),
    distinct_append l m d.1 g (λ x r. h x (mathlib.Core.List.Memᴰ.tail r)),
  )

  -- One element more.
  pub distinct_snoc : (a : A) (l : List A) → Distinct l → (Memᴰ a l → ⊥) → Distinct (l ++ (a ∷ []))
  unfolding Distinct All
  distinct_snoc a l d new =
      distinct_append l (a ∷ []) d (tt, tt) (λ x m n. new (mathlib.Core.List.Memᴰ.cast (sym (mathlib.Core.List.Memᴰ.eq_of_singleton n)) m))

  pub distinct_take : (k : ℕ) (l : List A) → Distinct l → Distinct (take k l)
  distinct_take k l d = distinct_left (take k l) (drop k l) (rw take-append-drop d)

  pub distinct_drop : (k : ℕ) (l : List A) → Distinct l → Distinct (drop k l)
  distinct_drop k l d = distinct_right (take k l) (drop k l) (rw take-append-drop d)

  pub distinct_keep : (test : A → Bool) (l : List A) → Distinct l → Distinct (keep test l)
  unfolding Distinct
  distinct_keep test [] d = rw (keep_nil test) tt
  distinct_keep test (a ∷ l) d =
      by_test (test a)
      (λ p. rw (keep_yes test a l p) (all_keep test (λ b. a ≡ b → ⊥) l d.0, distinct_keep test l d.1))
      (λ p. rw (keep_no test a l p) (distinct_keep test l d.1))

  -- ---- parts

  pub mem_take : {x : A} (k : ℕ) (l : List A) → Memᴰ x (take k l) → Memᴰ x l
  mem_take {x} k l m = rw take-append-drop at (mathlib.Core.List.Memᴰ.append_left (drop k l) m)

  pub mem_drop : {x : A} (k : ℕ) (l : List A) → Memᴰ x (drop k l) → Memᴰ x l
  mem_drop {x} k l m = rw take-append-drop at (mathlib.Core.List.Memᴰ.append_right (take k l) m)

  -- A member is among the first `k` or past them.
  pub mem_parts : {x : A} (k : ℕ) (l : List A) → Memᴰ x l → Memᴰ x (take k l) ⊎ Memᴰ x (drop k l)
  mem_parts {x} k l m = mathlib.Core.List.Memᴰ.append_cases (take k l) (rw take-append-drop m)

  -- A list with a member is not empty.
  pub mem_length : {x : A} {l : List A} → Memᴰ x l → 0 < length l
  mem_length (mathlib.Core.List.Memᴰ.head e) = omega arith
  mem_length (mathlib.Core.List.Memᴰ.tail m) = omega arith

  pub mem_at : (l : List A) (i : ℕ) (d : A) → i < length l → Memᴰ (get_or l i d) l
  mem_at [] i d lt = absurd (omega arith)
  mem_at (a ∷ l) zero d lt = mathlib.Core.List.Memᴰ.head refl
  mem_at (a ∷ l) (suc i) d lt = mathlib.Core.List.Memᴰ.tail (mem_at l i d (omega arith))

pub perm_map : {A B : Type 0} (f : A → B) {l m : List A} → Permᴰ l m → Permᴰ (map f l) (map f m)
perm_map f Permᴰ.nil = Permᴰ.nil
perm_map f (Permᴰ.cons e p) = Permᴰ.cons (ap f e) (perm_map f p)
perm_map f (Permᴰ.swap e g) = Permᴰ.swap (ap f e) (ap f g)
perm_map f (Permᴰ.trans p q) = Permᴰ.trans (perm_map f p) (perm_map f q)

-- What is distinct stays so under a map that keeps apart.
pub distinct_map : {A B : Type 0} (f : A → B) → ((a b : A) → f a ≡ f b → a ≡ b) → (l : List A) → Distinct l → Distinct (map f l)
unfolding Distinct
distinct_map f inj [] d = tt
distinct_map f inj (a ∷ l) d = (
  all_map (λ b. f a ≡ b → ⊥) f l (all_weaken (λ b. a ≡ b → ⊥) (λ b. f a ≡ f b → ⊥) (λ b n e. n (inj a b e)) l d.0),
  distinct_map f inj l d.1,
)

-- ---- parts of a mapped list, and the last of one

pub map_take : {A B : Type 0} (f : A → B) (n : ℕ) (l : List A) → map f (take n l) ≡ take n (map f l)
map_take f zero l = refl
map_take f (suc n) [] = refl
map_take {A} {B} f (suc n) (a ∷ l) = ap (λ (r : List B). f a ∷ r) (map_take f n l)

pub map_at : {A B : Type 0} (f : A → B) (l : List A) (i : ℕ) (d : A) (e : B) → i < length l → get_or (map f l) i e ≡ f (get_or l i d)
map_at f [] i d e h = absurd (omega arith)
map_at f (a ∷ l) zero d e h = refl
map_at f (a ∷ l) (suc i) d e h = map_at f l i d e (omega arith)

-- Two functions that agree on each element.
pub map_same : {A B : Type 0} (f g : A → B) (l : List A) → All (λ a. f a ≡ g a) l → map f l ≡ map g l
unfolding All
map_same f g [] h = refl
map_same f g (a ∷ l) h = rw (h.0, map_same f g l h.1)

pub map_drop : {A B : Type 0} (f : A → B) (n : ℕ) (l : List A) → map f (drop n l) ≡ drop n (map f l)
map_drop f zero l = refl
map_drop f (suc n) [] = refl
map_drop f (suc n) (a ∷ l) = map_drop f n l

take_nil : {A : Type 0} (n : ℕ) → ◌≡◌ {A = List A} (take n []) []
take_nil zero = refl
take_nil (suc n) = refl

pub take_min : {A : Type 0} (n : ℕ) (l : List A) → take (min n (length l)) l ≡ take n l
take_min {A} n l =
    rw (← length-take n l)
    (ap (λ (m : List A). take (length (take n l)) m) (sym (take-append-drop n l))
    ∙ take-append_seam (take n l) (drop n l))

pub drop_take : {A : Type 0} (n m : ℕ) (l : List A) → drop n (take m l) ≡ take (m - n) (drop n l)
drop_take zero m l = rw (sub-zero m)
drop_take (suc n) zero l = rw (zero-sub (suc n))
drop_take (suc n) (suc m) [] = sym (take_nil (suc m - suc n))
drop_take (suc n) (suc m) (a ∷ l) = rw (suc-sub-suc m n) (drop_take n m l)

-- Lists that are the same from a place on are the same there.
pub at_drop : {A : Type 0} (n : ℕ) (d : A) (l m : List A) → drop n l ≡ drop n m → get_or l n d ≡ get_or m n d
at_drop {A} n d l m h =
    let first : (k : List A) → get_or (drop n k) 0 d ≡ get_or k n d = λ k. rw add-zero at (get_or-drop n k 0 d) in
    sym (first l) ∙ ap (λ (k : List A). get_or k 0 d) h ∙ first m

pub last_map : {A B : Type 0} (f : A → B) (d : A) (l : List A) → last (f d) (map f l) ≡ f (last d l)
unfolding last
last_map f d [] = refl
last_map f d (a ∷ l) = last_map f a l

-- The last by its place.
pub last_at : {A : Type 0} (d e : A) (l : List A) (j : ℕ) → length l ≡ suc j → last d l ≡ get_or l j e
unfolding last
last_at d e [] j h = absurd (omega arith)
last_at d e (a ∷ []) zero h = refl
last_at d e (a ∷ []) (suc j) h = absurd (omega arith)
last_at d e (a ∷ (b ∷ l)) zero h = absurd (omega arith)
last_at d e (a ∷ (b ∷ l)) (suc j) h = last_at a e (b ∷ l) j (omega arith)

-- A list by its places, `n` of them from place `i` on.
unfoldable pub from_place : {A : Type 0} → List A → A → ℕ → ℕ → List A
from_place l d i zero = []
from_place l d i (suc n) = get_or l i d ∷ from_place l d (suc i) n

drop_by_places : {A : Type 0} (l : List A) (d : A) (i n : ℕ) → length l ≡ i + n → drop i l ≡ from_place l d i n
unfolding from_place
drop_by_places l d i zero h = let all : length l ≤ i = omega arith in drop_of_length-le l all
drop_by_places {A} l d i (suc n) h =
    drop-cons l i d (omega arith) ∙ ap (λ (r : List A). get_or l i d ∷ r) (drop_by_places l d (suc i) n (omega arith))

pub by_places_lem : {A : Type 0} (l : List A) (d : A) (n : ℕ) → length l ≡ n → l ≡ from_place l d 0 n
by_places_lem l d n h = drop_by_places l d 0 n (omega arith)

-- ---- sums

pub sum_append : (l m : List ℕ) → sum (l ++ m) ≡ sum l + sum m
unfolding sum
sum_append [] m = omega arith
sum_append (a ∷ l) m = omega (arith, sum_append l m)

pub sum_perm : {l m : List ℕ} → Permᴰ l m → sum l ≡ sum m
unfolding sum
sum_perm Permᴰ.nil = refl
sum_perm (Permᴰ.cons e p) = omega (arith, sum_perm p)
sum_perm (Permᴰ.swap e f) = omega arith
sum_perm (Permᴰ.trans p q) = sum_perm p ∙ sum_perm q

-- ---- two lists joined place by place

module _ {A B C : Type 0} (f : A → B → C) where
  pub length_zip : (l : List A) (m : List B) → length (zip_with f l m) ≡ min (length l) (length m)
  unfolding zip_with
  length_zip [] m = omega arith
  length_zip (a ∷ l) [] = omega arith
  length_zip (a ∷ l) (b ∷ m) = omega (arith, length_zip l m)

  zip_nil : (l : List A) → zip_with f l [] ≡ []
  unfolding zip_with
  zip_nil [] = refl
  zip_nil (a ∷ l) = refl

  pub zip_at : (l : List A) (m : List B) (i : ℕ) (a : A) (b : B) (c : C) → i < length l → i < length m
      → get_or (zip_with f l m) i c ≡ f (get_or l i a) (get_or m i b)
  unfolding zip_with
  zip_at [] m i a b c p q = absurd (omega arith)
  zip_at (x ∷ l) [] i a b c p q = absurd (omega arith)
  zip_at (x ∷ l) (y ∷ m) zero a b c p q = refl
  zip_at (x ∷ l) (y ∷ m) (suc i) a b c p q = zip_at l m i a b c (omega arith) (omega arith)

  pub zip_take : (n : ℕ) (l : List A) (m : List B) → zip_with f (take n l) (take n m) ≡ take n (zip_with f l m)
  unfolding zip_with
  zip_take zero l m = refl
  zip_take (suc n) [] m = refl
  zip_take (suc n) (a ∷ l) [] = refl
  zip_take (suc n) (a ∷ l) (b ∷ m) = ap (λ (r : List C). f a b ∷ r) (zip_take n l m)

  pub zip_drop : (n : ℕ) (l : List A) (m : List B) → zip_with f (drop n l) (drop n m) ≡ drop n (zip_with f l m)
  unfolding zip_with
  zip_drop zero l m = refl
  zip_drop (suc n) [] m = refl
  zip_drop (suc n) (a ∷ l) [] = zip_nil (drop n l)
  zip_drop (suc n) (a ∷ l) (b ∷ m) = zip_drop n l m

  pub zip_set : (l : List A) (m : List B) (i : ℕ) (a : A) (b : B)
      → zip_with f (set l i a) (set m i b) ≡ set (zip_with f l m) i (f a b)
  unfolding zip_with
  zip_set [] m i a b = refl
  zip_set (x ∷ l) [] zero a b = refl
  zip_set (x ∷ l) [] (suc i) a b = refl
  zip_set (x ∷ l) (y ∷ m) zero a b = refl
  zip_set (x ∷ l) (y ∷ m) (suc i) a b = ap (λ (r : List C). f x y ∷ r) (zip_set l m i a b)

-- ---- permutations of what a test keeps

pub perm_eq : {A : Type 0} {l m : List A} → l ≡ m → Permᴰ l m
perm_eq {A} {l} {m} e = rw e (Permᴰ.refl m)

-- What a test keeps and what it does not are the whole.
pub keep_split : {A : Type 0} (test : A → Bool) (l : List A) → Permᴰ l (keep test l ++ keep (λ a. not (test a)) l)
keep_split test [] = rw (keep_nil test) (rw (keep_nil (λ a. not (test a))) Permᴰ.nil)
keep_split {A} test (a ∷ l) =
    by_test (test a)
    (λ p.
    let q : not (test a) ≡ false = ap not p in
    rw (keep_yes test a l p, keep_no (λ (x : A). not (test x)) a l q) (Permᴰ.cons refl (keep_split test l)))
    (λ p.
    let q : not (test a) ≡ true = ap not p in
    rw (keep_no test a l p, keep_yes (λ (x : A). not (test x)) a l q)
    (Permᴰ.trans (Permᴰ.cons refl (keep_split test l)) (Permᴰ.symm (Permᴰ.middle a (keep test l) (keep (λ x. not (test x)) l)))))

-- A test keeps of the elements in another order the same, in another order.
pub perm_keep : {A : Type 0} (test : A → Bool) {l m : List A} → Permᴰ l m → Permᴰ (keep test l) (keep test m)
unfolding keep
perm_keep test Permᴰ.nil = Permᴰ.nil
perm_keep test (Permᴰ.cons {b = b} e p) =
    rw e (by_test (test b) (λ h. rw h (Permᴰ.cons refl (perm_keep test p))) (λ h. rw h (perm_keep test p)))
perm_keep test (Permᴰ.swap {a' = a} {b' = b} {l = l} e f) =
    rw (e, f)
    (by_test (test a)
    (λ p. by_test (test b) (λ q. rw (p, q) (Permᴰ.swap refl refl)) (λ q. rw (p, q) (Permᴰ.refl (a ∷ keep test l))))
    (λ p. by_test (test b) (λ q. rw (p, q) (Permᴰ.refl (b ∷ keep test l))) (λ q. rw (p, q) (Permᴰ.refl (keep test l)))))
perm_keep test (Permᴰ.trans p q) = Permᴰ.trans (perm_keep test p) (perm_keep test q)

-- One test after another keeps what both keep.
pub keep_both : {A : Type 0} (test test' : A → Bool) (l : List A) → keep test (keep test' l) ≡ keep (λ a. test a && test' a) l
unfolding keep
keep_both test test' [] = refl
keep_both {A} test test' (a ∷ l) =
    by_test (test' a)
    (λ p. by_test (test a) (λ q. rw (p, q) (ap (λ (r : List A). a ∷ r) (keep_both test test' l))) (λ q. rw (p, q) (keep_both test test' l)))
    (λ p. by_test (test a) (λ q. rw (p, q) (keep_both test test' l)) (λ q. rw (p, q) (keep_both test test' l)))

-- Two tests that agree on the list keep the same.
pub keep_same : {A : Type 0} (test test' : A → Bool) (l : List A) → ((a : A) → Memᴰ a l → test a ≡ test' a) → keep test l ≡ keep test' l
unfolding keep
keep_same test test' [] h = refl
keep_same test test' (a ∷ l) h = rw (h a (mathlib.Core.List.Memᴰ.head refl), keep_same test test' l (λ x m. h x (mathlib.Core.List.Memᴰ.tail m)))
