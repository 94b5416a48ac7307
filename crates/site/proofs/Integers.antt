-- Integers by their two sides: z is `up z` less `down z`. What is said of sides is arithmetic of natural numbers.
use mathlib.Core.Path.{◌≡◌, refl, sym, ap, ◌∙◌}
use mathlib.Core.Bool.{true, false, not}
use Prim.Native.Nat.{ℕ, zero, suc, ◌+◌, ◌-◌, ◌≤◌, ◌<◌}
use native.Mathlib.Omega.{arith}
use borrow.Author.Tests.{ltb-true, ltb-false, leb-true, leb-false, lt-ltb, le-ltb, le-leb}
use lib.Dec.{ltb, leb}
use lib.IntN.{ℤ, pos, negsuc, nat_abs, sub_ℕ, ◌-ℤ◌}
use lib.Signed.{lt_z, le_z}
use Rattle.order.proofs.Order.{by_test, never_both}

unfoldable pub up : ℤ → ℕ
up (pos n) = n
up (negsuc n) = 0

unfoldable pub down : ℤ → ℕ
down (pos n) = 0
down (negsuc n) = suc n

-- The order by sides, both ways.
pub le_sides : (a b : ℤ) → le_z a b ≡ true → up a + down b ≤ up b + down a
unfolding up down
le_sides (pos a) (pos b) h = omega (arith, leb-true a b h)
le_sides (pos a) (negsuc b) h = never_both h refl
le_sides (negsuc a) (pos b) h = omega arith
le_sides (negsuc a) (negsuc b) h = omega (arith, leb-true b a h)

pub sides_le : (a b : ℤ) → up a + down b ≤ up b + down a → le_z a b ≡ true
unfolding up down
sides_le (pos a) (pos b) h = le-leb a b (omega arith)
sides_le (pos a) (negsuc b) h = absurd (omega arith)
sides_le (negsuc a) (pos b) h = refl
sides_le (negsuc a) (negsuc b) h = le-leb b a (omega arith)

-- At most is not above.
pub le_not_lt : (a b : ℤ) → le_z a b ≡ not (lt_z b a)
le_not_lt (pos a) (pos b) = by_test (leb a b) (λ h. simp (h, le-ltb b a (leb-true a b h))) (λ h. simp (h, lt-ltb b a (leb-false a b h)))
le_not_lt (pos a) (negsuc b) = refl
le_not_lt (negsuc a) (pos b) = refl
le_not_lt (negsuc a) (negsuc b) =
    by_test (leb b a) (λ h. simp (h, le-ltb a b (leb-true b a h))) (λ h. simp (h, lt-ltb a b (leb-false b a h)))

-- What is not below another: the other is at most it; and back.
pub not_lt_le : (a b : ℤ) → lt_z b a ≡ false → le_z a b ≡ true
not_lt_le a b h = le_not_lt a b ∙ ap not h

pub le_lt_not : (a b : ℤ) → le_z a b ≡ true → lt_z b a ≡ false
le_lt_not a b h = by_test (lt_z b a) (λ t. never_both h (le_not_lt a b ∙ ap not t)) (λ f. f)

pub le_total : (a b : ℤ) → le_z a b ≡ false → le_z b a ≡ true
le_total a b h =
    sides_le b a
    (by_test (leb (up b + down a) (up a + down b)) (λ k. leb-true (up b + down a) (up a + down b) k)
    (λ k. never_both (sides_le a b (omega (arith, leb-false (up b + down a) (up a + down b) k))) h))

pub le_refl : (a : ℤ) → le_z a a ≡ true
le_refl a = sides_le a a (omega arith)

pub le_trans : (a b c : ℤ) → le_z a b ≡ true → le_z b c ≡ true → le_z a c ≡ true
le_trans a b c h k = sides_le a c (omega (arith, le_sides a b h, le_sides b c k))

-- Above by sides, both ways.
pub lt_sides : (a b : ℤ) → lt_z a b ≡ true → up a + down b < up b + down a
unfolding up down
lt_sides (pos a) (pos b) h = omega (arith, ltb-true a b h)
lt_sides (pos a) (negsuc b) h = never_both h refl
lt_sides (negsuc a) (pos b) h = omega arith
lt_sides (negsuc a) (negsuc b) h = omega (arith, ltb-true b a h)

pub sides_lt : (a b : ℤ) → up a + down b < up b + down a → lt_z a b ≡ true
unfolding up down
sides_lt (pos a) (pos b) h = lt-ltb a b (omega arith)
sides_lt (pos a) (negsuc b) h = absurd (omega arith)
sides_lt (negsuc a) (pos b) h = refl
sides_lt (negsuc a) (negsuc b) h = lt-ltb b a (omega arith)

pub lt_le : (a b : ℤ) → lt_z a b ≡ true → le_z a b ≡ true
lt_le a b h = sides_le a b (omega (arith, lt_sides a b h))

pub lt_trans : (a b c : ℤ) → lt_z a b ≡ true → lt_z b c ≡ true → lt_z a c ≡ true
lt_trans a b c h k = sides_lt a c (omega (arith, lt_sides a b h, lt_sides b c k))

-- Two integers of which neither is less are the same.
pub lt_total : (a b : ℤ) → lt_z a b ≡ false → lt_z b a ≡ false → a ≡ b
lt_total (pos a) (pos b) h k = ap pos (omega (arith, ltb-false a b h, ltb-false b a k))
lt_total (pos a) (negsuc b) h k = never_both refl k
lt_total (negsuc a) (pos b) h k = never_both refl h
lt_total (negsuc a) (negsuc b) h k = ap negsuc (omega (arith, ltb-false b a h, ltb-false a b k))

-- The size of a difference of two natural numbers.
sub_size : (a b : ℕ) → a ≤ b → nat_abs (sub_ℕ a b) + a ≡ b
sub_size a b h =
    by_test (ltb a b) (λ t. rw t (omega (arith, ltb-true a b t))) (λ t. rw t (omega (arith, ltb-false a b t)))

sub_size' : (a b : ℕ) → b ≤ a → nat_abs (sub_ℕ a b) + b ≡ a
sub_size' a b h =
    by_test (ltb a b) (λ t. rw t (omega (arith, ltb-true a b t))) (λ t. rw t (omega (arith, ltb-false a b t)))

-- The size of a difference by sides.
pub size_up : (a b : ℤ) → le_z a b ≡ true → nat_abs (a -ℤ b) + (up a + down b) ≡ up b + down a
unfolding up down
size_up (pos a) (pos zero) h = omega (arith, leb-true a zero h)
size_up (pos a) (pos (suc b)) h = omega (arith, sub_size a (suc b) (leb-true a (suc b) h))
size_up (pos a) (negsuc b) h = never_both h refl
size_up (negsuc a) (pos zero) h = omega (arith, sub_size zero (suc a) (omega arith))
size_up (negsuc a) (pos (suc b)) h = omega arith
size_up (negsuc a) (negsuc b) h = omega (arith, sub_size (suc b) (suc a) (omega (arith, leb-true b a h)))

pub size_down : (a b : ℤ) → le_z b a ≡ true → nat_abs (a -ℤ b) + (up b + down a) ≡ up a + down b
unfolding up down
size_down (pos a) (pos zero) h = omega arith
size_down (pos a) (pos (suc b)) h = omega (arith, sub_size' a (suc b) (leb-true (suc b) a h))
size_down (pos a) (negsuc b) h = omega arith
size_down (negsuc a) (pos b) h = never_both h refl
size_down (negsuc a) (negsuc b) h = omega (arith, sub_size' (suc b) (suc a) (omega (arith, leb-true a b h)))

-- ---- the sign of a difference

natural_sign : (m n : ℕ) → lt_z (sub_ℕ m n) (pos 0) ≡ ltb m n
natural_sign m n = by_test (ltb m n) (λ t. rw t) (λ f. rw f (le-ltb (m - n) 0 (omega arith)))

pub sub_sign : (a b : ℤ) → lt_z (a -ℤ b) (pos 0) ≡ lt_z a b
sub_sign (pos m) (pos zero) = le-ltb (m + 0) 0 (omega arith) ∙ sym (le-ltb m 0 (omega arith))
sub_sign (pos m) (pos (suc n)) = natural_sign m (suc n)
sub_sign (pos m) (negsuc n) = le-ltb (m + suc n) 0 (omega arith)
sub_sign (negsuc m) (pos zero) = natural_sign 0 (suc m) ∙ lt-ltb 0 (suc m) (omega arith)
sub_sign (negsuc m) (pos (suc n)) = refl
sub_sign (negsuc m) (negsuc n) =
    natural_sign (suc n) (suc m)
    ∙ by_test (ltb n m)
    (λ t. rw (t, lt-ltb (suc n) (suc m) (omega (arith, ltb-true n m t))))
    (λ f. rw (f, le-ltb (suc n) (suc m) (omega (arith, ltb-false n m f))))
