-- Two lists compared element by element: what the test tells, and a loop that makes it.
use mathlib.Core.Path.{◌≡◌, refl, sym, ap₂, ◌∙◌}
use mathlib.Core.Bool.{Bool, true, false, ◌&&◌, and-eq-true_iff}
use mathlib.Core.List.{List, [], ◌∷◌}
use Prim.Native.Nat.{ℕ, ◌+◌, ◌≤◌, ◌<◌}
use native.Mathlib.Numerals.{add-one}
use lib.ListN.{length, drop, get_or, drop_of_length-le}
use lib.Seq.{drop-cons}
use Rattle.order.specs.Lists.{same_by}
use Rattle.order.proofs.Order.{never_both}

module _ {A : Type 0} (same : A → A → Bool) where
  -- Where the test tells equal elements, the lists are equal,
  pub same_equal : ((a b : A) → same a b ≡ true → a ≡ b) → (l m : List A) → same_by same l m ≡ true → l ≡ m
  unfolding same_by
  same_equal tells [] [] h = refl
  same_equal tells [] (b ∷ m) h = never_both h refl
  same_equal tells (a ∷ l) [] h = never_both h refl
  same_equal tells (a ∷ l) (b ∷ m) h =
      let w = (and-eq-true_iff (same a b) (same_by same l m)).0 h in
      ap₂ (λ (x : A) (r : List A). x ∷ r) (tells a b w.0) (same_equal tells l m w.1)

  -- and a list is the same as itself.
  pub same_self : ((a : A) → same a a ≡ true) → (l : List A) → same_by same l l ≡ true
  unfolding same_by
  same_self own [] = refl
  same_self own (a ∷ l) = rw (own a) (same_self own l)

  module _ (l m : List A) where
    -- What is left to compare from place `i` on tells what all tells.
    abbrev pub Alike : ℕ → Type 0
    Alike i = same_by same (drop i l) (drop i m) ≡ same_by same l m

    module _ {i : ℕ} (w : Alike i) where
      module _ (d : A) (inside : i < length l) (inside' : i < length m) where
        here : same_by same l m ≡ (same (get_or l i d) (get_or m i d) && same_by same (drop (i + 1) l) (drop (i + 1) m))
        unfolding same_by
        here = sym w ∙ ap₂ (same_by same) (drop-cons l i d inside) (drop-cons m i d inside') ∙ rw (add-one i)

        pub alike_more : same (get_or l i d) (get_or m i d) ≡ true → Alike (i + 1)
        alike_more t = sym (here ∙ simp t)

        pub alike_fails : same (get_or l i d) (get_or m i d) ≡ false → false ≡ same_by same l m
        alike_fails f = sym (here ∙ simp f)

      pub alike_ends : length l ≤ i → length m ≤ i → true ≡ same_by same l m
      unfolding same_by
      alike_ends h g = sym (sym w ∙ ap₂ (same_by same) (drop_of_length-le l h) (drop_of_length-le m g))
