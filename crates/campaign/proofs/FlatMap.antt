-- Laws of `flat_map`: lists made of parts, one part for each thing of a list, and their products.
use mathlib.Core.Path.{◌≡◌, refl, sym, ap, ◌∙◌}
use mathlib.Core.Logic.{⊎_elim}
use mathlib.Core.Bool.{Bool}
use mathlib.Core.List.Permᴰ
use mathlib.Core.List.{List, [], ◌∷◌, ◌++◌, map, append_assoc, Memᴰ, flat_map, Permᴰ}
use Rattle.order.specs.Lists.{keep}
use Rattle.order.proofs.Lists.{keep_nil, keep_append}
use Rattle.sweep.specs.Strip.{product}
use Rattle.sweep.proofs.ProductLaws.{perm_append, perm_exchange, product_append_left, product_append_right, product_nil_right}

module _ {I A : Type 0} (part : I → List A) where
  pub flat_append : (l m : List I) → flat_map part (l ++ m) ≡ flat_map part l ++ flat_map part m
  unfolding flat_map
  flat_append [] m = refl
  flat_append (i ∷ l) m = rw (flat_append l m) (sym (append_assoc (part i) (flat_map part l) (flat_map part m)))

  pub flat_map_map : {J : Type 0} (f : J → I) (l : List J) → flat_map part (map f l) ≡ flat_map (λ j. part (f j)) l
  unfolding flat_map
  flat_map_map f [] = refl
  flat_map_map f (j ∷ l) = ap (λ (r : List A). part (f j) ++ r) (flat_map_map f l)

  -- The order of the things is free.
  pub flat_perm : {l m : List I} → Permᴰ l m → Permᴰ (flat_map part l) (flat_map part m)
  unfolding flat_map
  flat_perm Permᴰ.nil = Permᴰ.nil
  flat_perm (Permᴰ.cons {b = b} e p) = rw e (Permᴰ.append_left (part b) (flat_perm p))
  flat_perm (Permᴰ.swap {a' = c} {b' = d} {l = l} e f) = rw (e, f) (perm_exchange (part d) (part c) (flat_map part l))
  flat_perm (Permᴰ.trans p q) = Permᴰ.trans (flat_perm p) (flat_perm q)

  -- What is in one of the parts.
  pub flat_mem : {x : A} (l : List I) → Memᴰ x (flat_map part l) → (i : I) × Memᴰ i l × Memᴰ x (part i)
  unfolding flat_map
  flat_mem [] m = absurd (mathlib.Core.List.Memᴰ.not-nil m)
  flat_mem {x} (i ∷ l) m =
      ⊎_elim (λ (h : Memᴰ x (part i)). (i, mathlib.Core.List.Memᴰ.head refl, h))
      (λ (h : Memᴰ x (flat_map part l)). let w = flat_mem l h in (w.0, mathlib.Core.List.Memᴰ.tail w.1, w.2))
      (mathlib.Core.List.Memᴰ.append_cases (part i) m)

  pub mem_flat : {x : A} {i : I} (l : List I) → Memᴰ i l → Memᴰ x (part i) → Memᴰ x (flat_map part l)
  unfolding flat_map
  mem_flat [] m h = absurd (mathlib.Core.List.Memᴰ.not-nil m)
  mem_flat {x} {i} (j ∷ l) m h =
      ⊎_elim (λ (e : i ≡ j). mathlib.Core.List.Memᴰ.append_left (flat_map part l) (rw e at h))
      (λ (n : Memᴰ i l). mathlib.Core.List.Memᴰ.append_right (part j) (mem_flat l n h))
      (mathlib.Core.List.Memᴰ.cases_cons m)

  -- What a test keeps of the whole is what it keeps of each part.
  pub keep_flat : (test : A → Bool) (l : List I) → keep test (flat_map part l) ≡ flat_map (λ i. keep test (part i)) l
  unfolding flat_map
  keep_flat test [] = keep_nil test
  keep_flat test (i ∷ l) =
      keep_append test (part i) (flat_map part l) ∙ ap (λ (r : List A). keep test (part i) ++ r) (keep_flat test l)

-- Parts that are the same give the same.
pub flat_same : {I A : Type 0} (part part' : I → List A) (l : List I) → ((i : I) → Memᴰ i l → part i ≡ part' i)
    → flat_map part l ≡ flat_map part' l
unfolding flat_map
flat_same part part' [] h = refl
flat_same part part' (i ∷ l) h = rw (h i (mathlib.Core.List.Memᴰ.head refl), flat_same part part' l (λ j m. h j (mathlib.Core.List.Memᴰ.tail m)))

-- ---- pairs

module _ {J A B C : Type 0} (f : A → B → C) where
  -- All pairs of a list and one made of parts: by the parts.
  pub product_flat_right : (p : List A) (part : J → List B) (l : List J)
      → Permᴰ (product f p (flat_map part l)) (flat_map (λ j. product f p (part j)) l)
  unfolding flat_map
  product_flat_right p part [] = rw (product_nil_right f p) Permᴰ.nil
  product_flat_right p part (j ∷ l) =
      Permᴰ.trans (product_append_right f p (part j) (flat_map part l))
      (Permᴰ.append_left (product f p (part j)) (product_flat_right p part l))

  -- All pairs of two lists made of parts: by the pairs of parts.
  pub product_flat : {I K : Type 0} (pair : I → J → K) (both : K → List C) (part : I → List A) (part' : J → List B)
      → ((i : I) (j : J) → both (pair i j) ≡ product f (part i) (part' j))
      → (l : List I) (m : List J)
      → Permᴰ (product f (flat_map part l) (flat_map part' m)) (flat_map both (product pair l m))
  unfolding flat_map product
  product_flat pair both part part' is [] m = Permᴰ.nil
  product_flat pair both part part' is (i ∷ l) m =
      rw (
        product_append_left f (part i) (flat_map part l) (flat_map part' m),
        flat_append both (map (pair i) m) (product pair l m),
        flat_map_map both (pair i) m,
        flat_same (λ j. both (pair i j)) (λ j. product f (part i) (part' j)) m (λ j h. is i j),
      )
      (perm_append (product_flat_right (part i) part' m) (product_flat pair both part part' is l m))
