-- Laws of a grid's marks.
use mathlib.Core.Path.{◌≡◌, refl}
use mathlib.Core.Bool.{true, false, ◌&&◌, ◌||◌, or-true, and-eq-true_iff}
use mathlib.Core.List.{List, [], ◌∷◌, map}
use Prim.Native.Nat.{ℕ, zero, suc, ◌+◌, ◌/◌, ◌%◌, ◌≤◌, ◌<◌}
use native.Mathlib.Omega.{arith}
use lib.Dec.{leb, ltb, eqb}
use lib.ListN.{length, get_or, set, replicate}
use lib.Seq.{get_or-set_same, get_or-set_other}
use borrow.Author.Tests.{eqb-true, eqb-false, leb-true, lt-ltb, le-leb}
use Rattle.order.proofs.Order.{by_test}
use Rattle.campaign.specs.Grid.{Job, mark_of, settled, lawful_mark, lawful_marks}
use Rattle.campaign.proofs.Grid.{InGrid}

zeros_at : (n i : ℕ) → get_or {A = ℕ} (replicate n 0) i 0 ≡ 0
zeros_at zero i = refl
zeros_at (suc n) zero = refl
zeros_at (suc n) (suc i) = zeros_at n i

-- No job is settled where all marks are 0.
pub none_settled : (n : ℕ) (j : Job) → settled (replicate n 0) j ≡ false
unfolding settled
none_settled n j = rw (zeros_at n (mark_of j))

-- ---- marks within 0 to 3 and inside the jobs

module _ (rows cols : ℕ) where
  pub mark_most : (i m : ℕ) → lawful_mark rows cols i m ≡ true → m ≤ 3
  unfolding lawful_mark
  mark_most i m h =
      leb-true m 3 ((and-eq-true_iff (leb m 3) (eqb m 0 || (ltb (i / 32) rows && ltb (i % 32) cols))).0 h).0

  -- Any number from 0 to 3 at a mark inside the jobs.
  pub mark_inside : (i m : ℕ) → m ≤ 3 → i / 32 < rows → i % 32 < cols → lawful_mark rows cols i m ≡ true
  unfolding lawful_mark
  mark_inside i m h r c = simp (le-leb m 3 h, lt-ltb (i / 32) rows r, lt-ltb (i % 32) cols c, or-true)

  -- A number from 0 to 3 that is 0 where a lawful mark is.
  pub mark_instead : (i m v : ℕ) → lawful_mark rows cols i m ≡ true → v ≤ 3 → (m ≡ 0 → v ≡ 0) → lawful_mark rows cols i v ≡ true
  unfolding lawful_mark
  mark_instead i m v h most none =
      let inside = ltb (i / 32) rows && ltb (i % 32) cols in
      let p = (and-eq-true_iff (leb m 3) (eqb m 0 || inside)).0 h in
      by_test (eqb m 0) (λ t. rw (none (eqb-true m 0 t)))
      (λ f. let in-jobs : inside ≡ true = rw f at p.1 in simp (le-leb v 3 most, in-jobs, or-true))

  pub lawful_zeros : (i n : ℕ) → lawful_marks rows cols i (replicate n 0) ≡ true
  unfolding lawful_marks lawful_mark
  lawful_zeros i zero = refl
  lawful_zeros i (suc n) = lawful_zeros (suc i) n

  parts : (i m : ℕ) (l : List ℕ) → lawful_marks rows cols i (m ∷ l) ≡ true
      → (lawful_mark rows cols i m ≡ true) × (lawful_marks rows cols (suc i) l ≡ true)
  unfolding lawful_marks
  parts i m l h = (and-eq-true_iff (lawful_mark rows cols i m) (lawful_marks rows cols (suc i) l)).0 h

  -- Mark number `p`, where the marks begin with number `i`.
  pub mark_at : (i n p : ℕ) → p ≡ i + n → (marks : List ℕ) → lawful_marks rows cols i marks ≡ true
      → lawful_mark rows cols p (get_or marks n 0) ≡ true
  unfolding lawful_mark
  mark_at i n p e [] h = refl
  mark_at i zero p e (m ∷ l) h = let here : p ≡ i = omega arith in rw here (parts i m l h).0
  mark_at i (suc n) p e (m ∷ l) h = mark_at (suc i) n p (omega arith) l (parts i m l h).1

  pub lawful_at : (i n : ℕ) (marks : List ℕ) → lawful_marks rows cols i marks ≡ true → get_or marks n 0 ≤ 3
  lawful_at i n marks h = mark_most (i + n) _ (mark_at i n (i + n) refl marks h)

  -- Each mark for another one.
  pub lawful_map : (f : ℕ → ℕ) → ((i m : ℕ) → lawful_mark rows cols i m ≡ true → lawful_mark rows cols i (f m) ≡ true)
      → (i : ℕ) (marks : List ℕ) → lawful_marks rows cols i marks ≡ true → lawful_marks rows cols i (map f marks) ≡ true
  unfolding lawful_marks
  lawful_map f each i [] h = refl
  lawful_map f each i (m ∷ l) h =
      let p = parts i m l h in
      simp (each i m p.0, lawful_map f each (suc i) l p.1)

  -- One mark for another.
  pub lawful_set : (i n v : ℕ) (marks : List ℕ) → lawful_marks rows cols i marks ≡ true → lawful_mark rows cols (i + n) v ≡ true
      → lawful_marks rows cols i (set marks n v) ≡ true
  unfolding lawful_marks
  lawful_set i n v [] h m = refl
  lawful_set i zero v (x ∷ l) h m =
      let e : i + 0 ≡ i = omega arith in
      simp (rw e at m, (parts i x l h).1)
  lawful_set i (suc n) v (x ∷ l) h m =
      let e : i + suc n ≡ suc i + n = omega arith in
      let p = parts i x l h in
      simp (p.0, lawful_set (suc i) n v l p.1 (rw e at m))

  -- ---- the mark of a job

  module _ (few : cols ≤ 32) (j : Job) (g : InGrid rows cols j) where
    -- Any number from 0 to 3 at the mark of a job.
    pub lawful_job : (v : ℕ) (marks : List ℕ) → v ≤ 3 → lawful_marks rows cols 0 marks ≡ true
        → lawful_marks rows cols 0 (set marks (mark_of j) v) ≡ true
    unfolding mark_of
    lawful_job v marks most h =
        lawful_set 0 (mark_of j) v marks h
        (mark_inside (0 + mark_of j) v most (omega (arith, g.row, g.column)) (omega (arith, g.row, g.column)))

    -- A mark for each job.
    pub mark_below : rows ≤ 32 → mark_of j < 1024
    unfolding mark_of
    mark_below r = omega (arith, g.row, g.column)

    -- No two jobs share a mark.
    pub mark_apart : (i : Job) → InGrid rows cols i → mark_of i ≡ mark_of j → (i.first ≡ j.first) × (i.second ≡ j.second)
    unfolding mark_of
    mark_apart i h e = (omega (arith, g.column, h.column), omega (arith, g.column, h.column))

-- ---- a customer's own marks with a job settled

-- The job is settled.
pub settled_same : (marks : List ℕ) (j : Job) → mark_of j < length marks → settled (set marks (mark_of j) 1) j ≡ true
unfolding settled
settled_same marks j h = rw (get_or-set_same marks (mark_of j) 1 0 h)

-- Any other job is as before.
pub settled_other : (marks : List ℕ) (i j : Job) → (mark_of i ≡ mark_of j → ⊥) → settled (set marks (mark_of j) 1) i
    ≡ settled marks i
unfolding settled
settled_other marks i j h = rw (get_or-set_other marks (mark_of j) (mark_of i) 1 0 h)

-- Any job settled before stays so.
pub settled_stays : (marks : List ℕ) (i j : Job) → mark_of j < length marks → settled marks i ≡ true
    → settled (set marks (mark_of j) 1) i ≡ true
unfolding settled
settled_stays marks i j h s =
    by_test (eqb (mark_of i) (mark_of j))
    (λ t. rw (eqb-true (mark_of i) (mark_of j) t, get_or-set_same marks (mark_of j) 1 0 h))
    (λ f. rw (get_or-set_other marks (mark_of j) (mark_of i) 1 0 (eqb-false (mark_of i) (mark_of j) f)) s)
