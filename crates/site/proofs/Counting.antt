-- How many elements fail a test, and how many neighbours are out of order, for loops that count them.
use mathlib.Core.Path.{◌≡◌, refl, sym}
use mathlib.Core.Bool.{Bool, true, false, cond, not}
use mathlib.Core.List.{List, [], ◌∷◌}
use Prim.Native.Nat.{ℕ, suc, ◌+◌, ◌≤◌, ◌<◌}
use native.Mathlib.Nat.{zero-add}
use native.Mathlib.Numerals.{add-one}
use native.Mathlib.Omega.{arith}
use borrow.Author.Tests.{ne_eqb}
use lib.Dec.{eqb}
use lib.ListN.{length, drop, get_or, length-drop, drop_of_length-le}
use lib.Seq.{drop-cons}
use mir.Val.{bool_byte}
use Rattle.order.specs.Order.{ascending}
use Rattle.order.specs.Lists.{all}
use Rattle.order.proofs.Order.{by_test}

-- One step of a count adds at most one.
pub yes_le : {n : ℕ} (b : Bool) → n ≡ cond b 1 0 → n ≤ 1
yes_le true e = omega arith
yes_le false e = omega arith

pub no_le : {n : ℕ} (b : Bool) → n ≡ cond b 0 1 → n ≤ 1
no_le true e = omega arith
no_le false e = omega arith

-- A test as a number.
pub yes_byte : (b : Bool) → bool_byte b ≡ cond b 1 0
yes_byte true = refl
yes_byte false = refl

pub no_byte : (b : Bool) → bool_byte (not b) ≡ cond b 0 1
no_byte true = refl
no_byte false = refl

-- ---- elements that fail a test

unfoldable pub failing : {A : Type 0} → (A → Bool) → List A → ℕ
failing test [] = 0
failing test (a ∷ l) = cond (test a) 0 1 + failing test l

module _ {A : Type 0} (test : A → Bool) (l : List A) (i : ℕ) where
  pub failing_step : (d : A) → i < length l → failing test (drop i l) ≡ cond (test (get_or l i d)) 0 1 + failing test (drop (i + 1) l)
  unfolding failing
  failing_step d h = rw (add-one, drop-cons l i d)

  pub failing_end : length l ≤ i → failing test (drop i l) ≡ 0
  unfolding failing
  failing_end h = rw (drop_of_length-le l h)

-- None fails exactly where all pass.
pub all_failing : {A : Type 0} (test : A → Bool) (l : List A) → all test l ≡ eqb (failing test l) 0
unfolding failing all
all_failing test [] = refl
all_failing test (a ∷ l) =
    by_test (test a) (λ h. rw (h, zero-add) (all_failing test l)) (λ h. rw h (sym (ne_eqb (1 + failing test l) 0 (omega arith))))

-- ---- neighbours out of order

unfoldable pub breaks : {A : Type 0} → (A → A → Bool) → List A → ℕ
breaks before [] = 0
breaks before (a ∷ []) = 0
breaks before (a ∷ (b ∷ l)) = cond (before a b) 0 1 + breaks before (b ∷ l)

module _ {A : Type 0} (before : A → A → Bool) where
  short : (l : List A) → length l ≤ 1 → breaks before l ≡ 0
  unfolding breaks
  short [] h = refl
  short (a ∷ []) h = refl
  short (a ∷ (b ∷ l)) h = absurd (omega arith)

  pub breaks_end : (l : List A) (i : ℕ) → length l ≤ i + 1 → breaks before (drop i l) ≡ 0
  breaks_end l i h = short (drop i l) (simp length-drop (omega arith))

  pub breaks_step : (l : List A) (i : ℕ) (d : A) → i + 1 < length l
      → breaks before (drop i l) ≡ cond (before (get_or l i d) (get_or l (i + 1) d)) 0 1 + breaks before (drop (i + 1) l)
  unfolding breaks
  breaks_step l i d h =
      let p : i < length l = omega arith in
      let q : suc i < length l = omega arith in
      rw (add-one, drop-cons l i d p, drop-cons l (suc i) d q)

  -- None is exactly where the list ascends.
  pub ascending_breaks : (l : List A) → ascending before l ≡ eqb (breaks before l) 0
  unfolding breaks ascending
  ascending_breaks [] = refl
  ascending_breaks (a ∷ []) = refl
  ascending_breaks (a ∷ (b ∷ l)) =
      by_test (before a b) (λ h. rw (h, zero-add) (ascending_breaks (b ∷ l)))
      (λ h. rw h (sym (ne_eqb (1 + breaks before (b ∷ l)) 0 (omega arith))))
