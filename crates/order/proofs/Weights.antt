-- Laws of orders told by weights: of tests, 0 or 1 each, an earlier one weighs more than all later ones together.
use mathlib.Core.Path.{◌≡◌, refl, sym, ◌∙◌}
use mathlib.Core.Bool.{Bool, true, false}
use Prim.Native.Nat.{ℕ, ◌+◌, ◌*◌, ◌≤◌, ◌<◌}
use native.Mathlib.Omega.{arith}
use native.Mathlib.Nat.{mul-zero, zero-add}
use mir.Val.{bool_byte}
use lib.Dec.{ltb}
use borrow.Author.Tests.{lt-ltb, le-ltb}
use Rattle.order.specs.Order.{lex}
use Rattle.order.proofs.Order.{OrderUpTo, by_test, lex_less, lex_more, lex_next}

-- A test as a number is at most 1.
pub bit_most : (t : Bool) → bool_byte t ≤ 1
bit_most true = omega arith
bit_most false = omega arith

-- So it weighs at most its weight.
pub weight_most : (n : ℕ) (t : Bool) → n * bool_byte t ≤ n
weight_most n true = omega arith
weight_most n false = omega arith

-- One comes before the other exactly where its weight, below `n`, is greater than the other's.
pub record WeighedBy {A : Type 0} (n : ℕ) (weight : A → A → ℕ) (before : A → A → Bool) : Type 0 where
  pub below : (a b : A) → weight a b < n
  pub tells : (a b : A) → before a b ≡ ltb (weight b a) (weight a b)

module _ {A : Type 0} {same : A → A → Type 0} {less : A → A → Bool} (o : OrderUpTo same less) where
  -- A test holds of two at most one way round.
  pub one_way : (a b : A) → bool_byte (less a b) + bool_byte (less b a) ≤ 1
  one_way a b =
      by_test (less a b)
      (λ t. rw (t, o.asym a b t) (omega arith))
      (λ f. rw f (omega (arith, bit_most (less b a))))

  -- A test alone.
  pub weighed_test : WeighedBy 2 (λ a b. bool_byte (less a b)) less
  weighed_test = record {
    below = λ a b. omega (arith, bit_most (less a b));
    tells = λ a b.
        by_test (less a b)
        (λ t. rw (t, o.asym a b t))
        (λ f. rw f (sym (le-ltb (bool_byte (less b a)) 0 (omega arith))));
  }

  -- A test before what weighs less than `n` weighs `n`.
  module _ {n : ℕ} {weight : A → A → ℕ} {next : A → A → Bool} (w : WeighedBy n weight next) where
    pub weighed_lex : WeighedBy (n + n) (λ a b. n * bool_byte (less a b) + weight a b) (lex less next)
    weighed_lex = record {
      below = λ a b. omega (arith, weight_most n (less a b), w.below a b);
      tells = λ a b.
          by_test (less a b)
          (λ t. lex_less less next a b t ∙ sym (rw (t, o.asym a b t)
          (lt-ltb (n * 0 + weight b a) (n * 1 + weight a b) (omega (arith, w.below b a)))))
          (λ f. by_test (less b a)
          (λ g. lex_more less next a b f g
          ∙ sym (rw (f, g) (le-ltb (n * 1 + weight b a) (n * 0 + weight a b) (omega (arith, w.below a b)))))
          (λ g. lex_next less next a b f g ∙ w.tells a b ∙ simp (f, g, mul-zero, zero-add) refl));
    }
