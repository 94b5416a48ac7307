-- All pairs of two lists: by rows, by columns, and by parts of either list.
use mathlib.Core.Path.{◌≡◌, refl, sym, ap₂}
use mathlib.Core.Logic.{⊎_elim}
use mathlib.Core.Bool.{Bool, true}
use Prim.Native.Nat.{◌*◌}
use native.Mathlib.Nat.{zero-mul, suc-mul}
use native.Mathlib.Omega.{arith}
use lib.ListN.{length, length-append, length-map}
use mathlib.Core.List.Permᴰ
use mathlib.Core.List.{List, [], ◌∷◌, ◌++◌, map, map-map, flat_map, append_assoc, Memᴰ, Permᴰ}
use Rattle.order.specs.Lists.{All}
use Rattle.order.proofs.Sorted.{Ascends}
use Rattle.order.proofs.Lists.{perm_eq, all_append, all_map, all_weaken, mem_all}
use Rattle.sweep.specs.Strip.{product}

-- Two lists that ascend, the first before the second.
pub ascends_join : {A : Type 0} (before : A → A → Bool) (l m : List A) → Ascends before l → Ascends before m
    → All (λ x. All (λ y. before x y ≡ true) m) l → Ascends before (l ++ m)
unfolding Ascends All
ascends_join before [] m s t h = t
ascends_join before (a ∷ l) m s t h =
    (all_append (λ b. before a b ≡ true) l m s.0 h.0, ascends_join before l m s.1 t h.1)

module _ {C : Type 0} where
  -- Two parts change places in front of a rest.
  pub perm_exchange : (a b r : List C) → Permᴰ (a ++ (b ++ r)) (b ++ (a ++ r))
  perm_exchange a b r = rw (← append_assoc a b r, ← append_assoc b a r) (Permᴰ.append_right r (Permᴰ.append_comm a b))

  pub perm_append : {a b c d : List C} → Permᴰ a b → Permᴰ c d → Permᴰ (a ++ c) (b ++ d)
  perm_append {a} {b} {c} {d} p q = Permᴰ.trans (Permᴰ.append_right c p) (Permᴰ.append_left b q)

  -- A part `x` stands in front of a rest `r`, or further on, past `a`.
  pub perm_past : (a x r : List C) {l : List C} → Permᴰ l (x ++ r) → Permᴰ (a ++ l) (x ++ (a ++ r))
  perm_past a x r p = Permᴰ.trans (Permᴰ.append_left a p) (perm_exchange a x r)

module _ {A B C : Type 0} (f : A → B → C) where
  pub product_nil : (q : List B) → product f [] q ≡ []
  unfolding product flat_map
  product_nil q = refl

  pub product_cons : (a : A) (p : List A) (q : List B) → product f (a ∷ p) q ≡ map (f a) q ++ product f p q
  unfolding product flat_map
  product_cons a p q = refl

  pub product_nil_right : (p : List A) → product f p [] ≡ []
  unfolding product flat_map
  product_nil_right [] = refl
  product_nil_right (a ∷ p) = product_nil_right p

  pub product_append_left : (p p' : List A) (q : List B) → product f (p ++ p') q ≡ product f p q ++ product f p' q
  unfolding product flat_map
  product_append_left [] p' q = refl
  product_append_left (a ∷ p) p' q = rw (product_append_left p p' q) (sym (append_assoc (map (f a) q) (product f p q) (product f p' q)))

  -- By the first column.
  pub product_cons_right : (p : List A) (b : B) (q : List B) → Permᴰ (product f p (b ∷ q)) (map (λ a. f a b) p ++ product f p q)
  unfolding product flat_map
  product_cons_right [] b q = Permᴰ.nil
  product_cons_right (a ∷ p) b q =
      Permᴰ.cons refl
      (Permᴰ.trans (Permᴰ.append_left (map (f a) q) (product_cons_right p b q))
      (perm_exchange (map (f a) q) (map (λ x. f x b) p) (product f p q)))

  pub product_append_right : (p : List A) (q q' : List B) → Permᴰ (product f p (q ++ q')) (product f p q ++ product f p q')
  product_append_right p [] q' = rw (product_nil_right p) (Permᴰ.refl (product f p q'))
  product_append_right p (b ∷ q) q' =
      Permᴰ.trans (product_cons_right p b (q ++ q'))
      (Permᴰ.trans (Permᴰ.append_left (map (λ a. f a b) p) (product_append_right p q q'))
      (Permᴰ.trans (perm_eq (sym (append_assoc (map (λ a. f a b) p) (product f p q) (product f p q'))))
      (Permᴰ.append_right (product f p q') (Permᴰ.symm (product_cons_right p b q)))))

  -- What holds of each pair.
  pub all_product : (P : C → Type 0) (p : List A) (q : List B) → All (λ a. All (λ b. P (f a b)) q) p → All P (product f p q)
  unfolding product flat_map All
  all_product P [] q h = tt
  all_product P (a ∷ p) q h = all_append P (map (f a) q) (product f p q) (all_map P (f a) q h.0) (all_product P p q h.1)

  -- A pair is one of each list, and each such is there.
  pub mem_product : {c : C} (p : List A) (q : List B) → Memᴰ c (product f p q)
      → (a : A) × (b : B) × Memᴰ a p × Memᴰ b q × (c ≡ f a b)
  unfolding product flat_map
  mem_product [] q m = absurd (mathlib.Core.List.Memᴰ.not-nil m)
  mem_product {c} (a ∷ p) q m =
      ⊎_elim (λ (h : Memᴰ c (map (f a) q)). let w = mathlib.Core.List.Memᴰ.of_map (f a) q h in (a, w.0, mathlib.Core.List.Memᴰ.head refl, w.1, sym w.2))
      (λ (h : Memᴰ c (product f p q)). let w = mem_product p q h in (w.0, w.1, mathlib.Core.List.Memᴰ.tail w.2, w.3, w.4))
      (mathlib.Core.List.Memᴰ.append_cases (map (f a) q) m)

  pub product_mem : {a : A} {b : B} (p : List A) (q : List B) → Memᴰ a p → Memᴰ b q → Memᴰ (f a b) (product f p q)
  unfolding product flat_map
  product_mem [] q m n = absurd (mathlib.Core.List.Memᴰ.not-nil m)
  product_mem {a} {b} (c ∷ p) q m n =
      ⊎_elim (λ (e : a ≡ c). rw e (mathlib.Core.List.Memᴰ.append_left (product f p q) (mathlib.Core.List.Memᴰ.map (f c) n)))
      (λ (h : Memᴰ a p). mathlib.Core.List.Memᴰ.append_right (map (f c) q) (product_mem p q h n))
      (mathlib.Core.List.Memᴰ.cases_cons m)

  pub length_product : (p : List A) (q : List B) → length (product f p q) ≡ length p * length q
  unfolding product flat_map
  length_product [] q = omega (arith, zero-mul (length q))
  length_product (a ∷ p) q =
      omega (arith, length-append (map (f a) q) (product f p q), length-map q (f a), length_product p q, suc-mul (length p) (length q))

  -- By the first list's order and then the second's, all pairs ascend.
  pub product_ascends : (beforeA : A → A → Bool) (beforeB : B → B → Bool) (before : C → C → Bool)
      → ((a c : A) (b d : B) → beforeA a c ≡ true → before (f a b) (f c d) ≡ true)
      → ((a : A) (b d : B) → beforeB b d ≡ true → before (f a b) (f a d) ≡ true)
      → (p : List A) (q : List B) → Ascends beforeA p → Ascends beforeB q → Ascends before (product f p q)
  unfolding product flat_map Ascends
  product_ascends beforeA beforeB before g h [] q sp sq = tt
  product_ascends beforeA beforeB before g h (a ∷ p) q sp sq =
      ascends_join before (map (f a) q) (product f p q) (row q sq) (product_ascends beforeA beforeB before g h p q sp.1 sq)
      (mem_all (λ x. All (λ y. before x y ≡ true) (product f p q)) (map (f a) q)
      (λ x m.
      let w = mathlib.Core.List.Memᴰ.of_map (f a) q m in
      rw (← w.2)
      (all_product (λ y. before (f a w.0) y ≡ true) p q
      (all_weaken (λ c. beforeA a c ≡ true) (λ c. All (λ d. before (f a w.0) (f c d) ≡ true) q)
      (λ c l. mem_all (λ d. before (f a w.0) (f c d) ≡ true) q (λ d n. g a c w.0 d l)) p sp.0))))
    where
      row : (q : List B) → Ascends beforeB q → Ascends before (map (f a) q)
      row [] s = tt
      row (b ∷ q) s = (
        all_map (λ y. before (f a b) y ≡ true) (f a) q (all_weaken (λ d. beforeB b d ≡ true) (λ d. before (f a b) (f a d) ≡ true) (h a b) q s.0),
        row q s.1,
      )

-- Things replaced by others.
pub product_map : {A B C D E : Type 0} (f : C → D → E) (g : A → C) (h : B → D) (p : List A) (q : List B)
    → product f (map g p) (map h q) ≡ product (λ a b. f (g a) (h b)) p q
unfolding product flat_map
product_map f g h [] q = refl
product_map f g h (a ∷ p) q = ap₂ ◌++◌ (map-map (f (g a)) h q) (product_map f g h p q)
