-- How many of all pairs of two lists a test keeps, by parts of either list.
use mathlib.Core.Path.{◌≡◌, sym, ap, ◌∙◌}
use mathlib.Core.Bool.{Bool, false, not}
use mathlib.Core.List.{List, [], ◌∷◌, ◌++◌, map}
use Prim.Native.Nat.{ℕ, ◌+◌, ◌*◌}
use native.Mathlib.Omega.{arith}
use lib.ListN.{length, length-append}
use Rattle.order.specs.Lists.{keep, All}
use Rattle.order.proofs.Lists.{all_nil, all_cons, all_weaken, keep_append, keep_none, keep_split, perm_keep, perm_length}
use Rattle.sweep.specs.Strip.{product}
use Rattle.sweep.proofs.ProductLaws.{all_product, length_product, product_cons, product_append_left, product_append_right}

module _ {A B C : Type 0} (f : A → B → C) (test : C → Bool) where
  abbrev pub kept : List A → List B → ℕ
  kept p q = length (keep test (product f p q))

  kept_left : (p p' : List A) (q : List B) → kept (p ++ p') q ≡ kept p q + kept p' q
  kept_left p p' q =
      rw (product_append_left f p p' q, keep_append test) (length-append (keep test (product f p q)) (keep test (product f p' q)))

  kept_right : (p : List A) (q q' : List B) → kept p (q ++ q') ≡ kept p q + kept p q'
  kept_right p q q' =
      perm_length (perm_keep test (product_append_right f p q q'))
      ∙ ap length (keep_append test (product f p q) (product f p q'))
      ∙ length-append (keep test (product f p q)) (keep test (product f p q'))

  -- None of them.
  kept_none : (p : List A) (q : List B) → All (λ a. All (λ b. test (f a b) ≡ false) q) p → kept p q ≡ 0
  kept_none p q h = ap length (keep_none test (product f p q) (all_product f (λ c. test c ≡ false) p q h))

  -- A thing of which no pair is kept adds nothing.
  pub kept_first : (a : A) (p : List A) (q : List B) → All (λ b. test (f a b) ≡ false) q → kept (a ∷ p) q ≡ kept p q
  kept_first a p q h =
      let none : All (λ c. All (λ b. test (f c b) ≡ false) q) (a ∷ []) = all_cons _ a [] h (all_nil _) in
      omega (arith, kept_left (a ∷ []) p q, kept_none (a ∷ []) q none)

  pub kept_second : (b : B) (p : List A) (q : List B) → All (λ a. test (f a b) ≡ false) p → kept p (b ∷ q) ≡ kept p q
  kept_second b p q h =
      let none : All (λ a. All (λ c. test (f a c) ≡ false) (b ∷ [])) p =
      all_weaken (λ a. test (f a b) ≡ false) _ (λ a t. all_cons _ b [] t (all_nil _)) p h in
      omega (arith, kept_right p (b ∷ []) q, kept_none p (b ∷ []) none)

  -- Two parts in front, of which no pair is kept of either with the rest of the other list.
  pub kept_fronts : (r p : List A) (s q : List B)
      → All (λ a. All (λ b. test (f a b) ≡ false) q) r → All (λ a. All (λ b. test (f a b) ≡ false) s) p
      → kept (r ++ p) (s ++ q) ≡ kept r s + kept p q
  kept_fronts r p s q g k =
      omega (arith, kept_left r p (s ++ q), kept_right r s q, kept_right p s q, kept_none r q g, kept_none p s k)

  -- Those of one thing, and of the rest.
  pub kept_cons : (a : A) (p : List A) (q : List B) → kept (a ∷ p) q ≡ length (keep test (map (f a) q)) + kept p q
  kept_cons a p q =
      rw (product_cons f a p q, keep_append test) (length-append (keep test (map (f a) q)) (keep test (product f p q)))

  -- Those kept and those not are all.
  pub kept_or_not : (p : List A) (q : List B) → kept p q + length (keep (λ c. not (test c)) (product f p q)) ≡ length p * length q
  kept_or_not p q =
      let l = product f p q in
      sym (perm_length (keep_split test l) ∙ length-append (keep test l) (keep (λ c. not (test c)) l)) ∙ length_product f p q
