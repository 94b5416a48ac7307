-- A list tested one element at a time: each element alone, or each with the next.
use mathlib.Core.Path.{◌≡◌, refl, sym, ap, ◌∙◌}
use mathlib.Core.Bool.{Bool, true, false, ◌&&◌}
use mathlib.Core.List.{List, [], ◌∷◌}
use Prim.Native.Nat.{ℕ, suc, ◌+◌, ◌-◌, ◌≤◌, ◌<◌}
use native.Mathlib.Numerals.{add-one}
use native.Mathlib.Omega.{arith}
use lib.ListN.{length, get_or, drop, drop_of_length-le, length-drop}
use lib.Seq.{drop-cons}
use Rattle.order.specs.Order.{ascending}
use Rattle.order.specs.Lists.{all}

module _ {A : Type 0} (test : A → Bool) (l : List A) (i : ℕ) (left : all test (drop i l) ≡ all test l) where
  all_cons : (a : A) (m : List A) → all test (a ∷ m) ≡ (test a && all test m)
  unfolding all
  all_cons a m = refl

  module _ (d : A) (inside : i < length l) {r : Bool} (is : r ≡ test (get_or l i d)) where
    all_here : all test l ≡ (r && all test (drop (i + 1) l))
    all_here =
        sym left ∙ ap (all test) (drop-cons l i d inside) ∙ all_cons (get_or l i d) (drop (suc i) l) ∙ rw (is, add-one i)

    pub all_more : r ≡ true → all test (drop (i + 1) l) ≡ all test l
    all_more t = sym (all_here ∙ rw t)

    pub all_falls : r ≡ false → false ≡ all test l
    all_falls t = sym (all_here ∙ rw t)

  pub all_end : length l ≤ i → true ≡ all test l
  unfolding all
  all_end h = sym (sym left ∙ ap (all test) (drop_of_length-le l h))

module _ {A : Type 0} (before : A → A → Bool) (l : List A) (i : ℕ) (some : 0 < i)
    (left : ascending before (drop (i - 1) l) ≡ ascending before l) where
  pair_cons : (a b : A) (m : List A) → ascending before (a ∷ (b ∷ m)) ≡ (before a b && ascending before (b ∷ m))
  unfolding ascending
  pair_cons a b m = refl

  module _ (d : A) (inside : i < length l) {r : Bool} (is : r ≡ before (get_or l (i - 1) d) (get_or l i d)) where
    order_here : ascending before l ≡ (r && ascending before (drop i l))
    order_here =
        let on : suc (i - 1) ≡ i = omega arith in
        let rest : drop i l ≡ get_or l i d ∷ drop (suc i) l = drop-cons l i d inside in
        sym left
        ∙ ap (ascending before)
        (drop-cons l (i - 1) d (omega arith)
        ∙ ap (λ (m : List A). get_or l (i - 1) d ∷ m) (ap (λ (n : ℕ). drop n l) on ∙ rest))
        ∙ pair_cons (get_or l (i - 1) d) (get_or l i d) (drop (suc i) l)
        ∙ rw (is, rest)

    pub order_more : r ≡ true → ascending before (drop (i + 1 - 1) l) ≡ ascending before l
    order_more t = let back : i + 1 - 1 ≡ i = omega arith in rw back (sym (order_here ∙ rw t))

    pub order_falls : r ≡ false → false ≡ ascending before l
    order_falls t = sym (order_here ∙ rw t)

  short : (m : List A) → length m ≤ 1 → ascending before m ≡ true
  unfolding ascending
  short [] h = refl
  short (a ∷ []) h = refl
  short (a ∷ (b ∷ m)) h = absurd (omega arith)

  pub order_end : length l ≤ i → true ≡ ascending before l
  order_end h = sym (sym left ∙ short (drop (i - 1) l) (omega (arith, length-drop (i - 1) l)))
