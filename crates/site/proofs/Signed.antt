-- What the machine's signed numbers hold: an `i32` in an `i64`, and the size of a difference.
use mathlib.Core.Path.{◌≡◌, sym, ap, ap₂, ◌∙◌, subst}
use Prim.Native.Nat.{ℕ, ◌*◌, ◌≤◌, ◌<◌, ◌^◌}
use native.Mathlib.Nat.{mul-le-mul}
use native.Mathlib.Omega.{arith}
use lib.Dec.{T}
use lib.IntN.{ℤ, pos, negsuc, nat_abs, ◌-ℤ◌}
use lib.Signed.{le_z, non_neg}
use mir.Syntax.{w32, w64}
use mir.Val.{Fits, SFits, to_z, of_z}
use mir.Facts.{to_z-of_z, sfits_widen}
use Rattle.site.specs.Site.{gap}
use Rattle.order.proofs.Order.{by_test}
use Rattle.site.proofs.Integers.{up, down, size_up, size_down, le_total}

-- What a callee ensures of the arguments as it was handed them, at the arguments.
pub at₁ : {A B : Type 0} (f : A → B) {x a : A} {r : B} → x ≡ a → r ≡ f x → r ≡ f a
at₁ f p e = e ∙ ap f p

pub at₂ : {A B C : Type 0} (f : A → B → C) {x a : A} {y b : B} {r : C} → x ≡ a → y ≡ b → r ≡ f x y → r ≡ f a b
at₂ f p q e = e ∙ ap₂ f p q

pub at₄ : {A C : Type 0} (f : A → A → A → A → C) {x a y b z c w d : A} {r : C} → x ≡ a → y ≡ b → z ≡ c → w ≡ d → r ≡ f x y z w
    → r ≡ f a b c d
at₄ f p q s t e = e ∙ (λ i. f (p i) (q i) (s i) (t i))

pub cast_back : {z : ℤ} → SFits w32 z → to_z w64 (of_z w64 (to_z w32 (of_z w32 z))) ≡ z
cast_back {z} h = ap (λ (t : ℤ). to_z w64 (of_z w64 t)) (to_z-of_z h) ∙ to_z-of_z {w = w64} (sfits_widen {w = w32} {w' = w64} (tt {0}) h)

sides_small : (z : ℤ) → SFits w32 z → (up z < 2 ^ 31) × (down z ≤ 2 ^ 31)
unfolding up down
sides_small (pos n) h = (omega (arith, h.sfits), omega arith)
sides_small (negsuc n) h = (omega arith, omega (arith, h.sfits))

-- A difference of two of them is small.
pub size_small : (a b : ℤ) → SFits w32 a → SFits w32 b → nat_abs (a -ℤ b) < 2 ^ 32
size_small a b ha hb =
    by_test (le_z a b) (λ t. omega (arith, size_up a b t, sides_small a ha, sides_small b hb))
    (λ t. omega (arith, size_down a b (le_total a b t), sides_small a ha, sides_small b hb))

-- A number that is not negative as a `u64`.
pub unsigned_fits : {z : ℤ} {n : ℕ} → z ≡ pos n → n < 2 ^ 32 → T (non_neg z) × Fits w64 (nat_abs z)
unsigned_fits {z} {n} p h =
    subst (λ (t : ℤ). T (non_neg t) × Fits w64 (nat_abs t)) (sym p) (tt, record { fits = omega arith })

-- The square of a gap of two `i32` fits 64 bits.
pub gap_squared_fits : {a b : ℤ} {r : ℕ} → SFits w32 a → SFits w32 b → r ≡ gap a b → Fits w64 (r * r)
unfolding gap
gap_squared_fits {a} {b} {r} ha hb e =
    let h : r ≤ 4_294_967_295 = omega (arith, size_small a b ha hb) in
    record { fits = omega (arith, mul-le-mul h h) }
