-- The laws of limits.
use mathlib.Core.Path.{◌≡◌, refl, sym, ◌∙◌}
use mathlib.Core.Bool.{true, false}
use mathlib.Core.List.{List, [], ◌∷◌}
use Prim.Native.Nat.{ℕ, ◌-◌, ◌≤◌, ◌<◌}
use native.Mathlib.Omega.{arith}
use borrow.Author.Tests.{ltb-true, ltb-false}
use lib.Dec.{ltb}
use lib.IntN.{ℤ, pos}
use lib.ListN.{length, get_or}
use lib.Signed.{lt_z, le_z}
use Rattle.order.specs.Lists.{all}
use Rattle.order.specs.Terms.{Sorted}
use Rattle.order.proofs.Order.{by_test, never_both}
use Rattle.order.proofs.Lists.{all_holds, holds_all, all_at, at_all}
use Rattle.order.proofs.Sorted.{sorted_at}
use Rattle.site.specs.Site.{between}
use Rattle.site.proofs.Tests.{and_first, and_second}
use Rattle.site.proofs.Integers.{not_lt_le, le_refl, le_trans as leZ-trans}

-- What is left of the test after its first half.
pub between_upper : {low high c a b z : ℤ} → a ≡ low → b ≡ high → z ≡ c → le_z a z ≡ true → le_z z b ≡ between low high c
unfolding between
between_upper p q e h = rw (← p, ← q, ← e, h)

pub between_lower : (high : ℤ) {low c a z : ℤ} → a ≡ low → z ≡ c → le_z a z ≡ false → le_z a z ≡ between low high c
unfolding between
between_lower high p e h = rw (← p, ← e, h)

-- ---- a column that never falls

module _ (low high : ℤ) (l : List ℤ) where
  pub none_between : length l ≡ 0 → true ≡ all (between low high) l
  unfolding all
  none_between = go l
    where
      go : (l : List ℤ) → length l ≡ 0 → true ≡ all (between low high) l
      go [] h = refl
      go (a ∷ l) h = absurd (omega arith)

  module _ (some : 0 < length l) where
    one_between : (i : ℕ) → i < length l → all (between low high) l ≡ true → between low high (get_or l i (pos 0)) ≡ true
    one_between i h a = all_at (λ z. between low high z ≡ true) l i (pos 0) h (all_holds (between low high) l a)

    pub first_decides : between low high (get_or l 0 (pos 0)) ≡ false → false ≡ all (between low high) l
    first_decides h = sym (by_test (all (between low high) l) (λ t. never_both (one_between 0 some t) h) (λ f. f))

    -- Between its ends.
    ends_all : Sorted lt_z l → between low high (get_or l 0 (pos 0)) ≡ true → between low high (get_or l (length l - 1) (pos 0)) ≡ true
        → all (between low high) l ≡ true
    unfolding between
    ends_all s p q =
        let first = get_or l 0 (pos 0) in
        let last = get_or l (length l - 1) (pos 0) in
        holds_all (between low high) l
        (at_all (λ z. between low high z ≡ true) l (pos 0) (λ i h.
        let at = get_or l i (pos 0) in
        let lower : le_z first at ≡ true = risen s 0 i (omega arith) h in
        let upper : le_z at last ≡ true = risen s i (length l - 1) (omega arith) (omega arith) in
        simp (leZ-trans low first at (and_first (le_z low first) (le_z first high) p) lower, leZ-trans at last high upper (and_second (le_z low last) (le_z last high) q))))
      where
        risen : Sorted lt_z l → (i j : ℕ) → i ≤ j → j < length l → le_z (get_or l i (pos 0)) (get_or l j (pos 0)) ≡ true
        risen s i j h g =
            by_test (ltb i j)
            (λ t. not_lt_le (get_or l i (pos 0)) (get_or l j (pos 0)) (sorted_at lt_z l (pos 0) i j s (ltb-true i j t) g))
            (λ f. let e : i ≡ j = omega (arith, ltb-false i j f) in rw e (le_refl (get_or l j (pos 0))))

    pub last_decides : Sorted lt_z l → between low high (get_or l 0 (pos 0)) ≡ true
        → between low high (get_or l (length l - 1) (pos 0)) ≡ all (between low high) l
    last_decides s p =
        by_test (between low high (get_or l (length l - 1) (pos 0)))
        (λ t. t ∙ sym (ends_all s p t))
        (λ f. f ∙ sym (by_test (all (between low high) l) (λ t. never_both (one_between (length l - 1) (omega arith) t) f) (λ g. g)))
