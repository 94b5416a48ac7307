-- No other choice of as many elements is better at any place.
use mathlib.Core.Path.{◌≡◌, refl, ◌∙◌}
use mathlib.Core.Logic.{⊎_elim}
use mathlib.Core.Bool.{Bool, true, false}
use mathlib.Core.List.Permᴰ
use mathlib.Core.List.{List, [], ◌∷◌, ◌++◌, map, Memᴰ}
use Prim.Native.Nat.{ℕ, zero, suc, ◌≤◌, ◌<◌}
use native.Mathlib.Omega.{arith}
use lib.Dec.{ltb}
use lib.ListN.{length, take, drop, get_or, take-append-drop, length-take, length-drop}
use borrow.Author.Tests.{le-ltb}
use Rattle.order.specs.Terms.{Sorted}
use Rattle.order.proofs.Sorted.{Ascends, sort_is_perm, mem_sort, sort_mem, sorted_sort, sort_sorted, ascends_sort, ascends_sorted, ascends_apart, mem_later}
use Rattle.order.proofs.Order.{StrictOrder, by_test, irrefl, before_trans, ltb_order}
use Rattle.order.specs.Lists.{All, Distinct}
use Rattle.order.specs.Sort.{sort}
use Rattle.order.proofs.Best.{best, length_sort, length_best, sort_perm}
use Rattle.order.proofs.Lists.{all_mem, mem_all, mem_length, all_map, all_weaken, perm_map, mem_parts}

-- At each place of the second list, the first has an element there, and the second's does not come before it.
Dominates : {A : Type 0} → (A → A → Bool) → List A → List A → Type 0
Dominates before l [] = Unit {0}
Dominates before [] (c ∷ cs) = ⊥
Dominates before (a ∷ l) (c ∷ cs) = (before c a ≡ false) × Dominates before l cs

module _ {A : Type 0} {before : A → A → Bool} (o : StrictOrder before) where
  -- An element in front of a list in order does no harm.
  dominates_front : (a : A) (l cs : List A) → Sorted before (a ∷ l) → Dominates before l cs → Dominates before (a ∷ l) cs
  unfolding Dominates Sorted All
  dominates_front a l [] s h = tt
  dominates_front a [] (c ∷ cs) s h = absurd h
  dominates_front a (b ∷ l) (c ∷ cs) s h = (o.weak a b c s.0.0 h.0, dominates_front b l cs s.1 h.1)

  -- A list that ascends dominates each that ascends and has its members among the first's.
  dominates_members : (l cs : List A) → Ascends before l → Ascends before cs → ((x : A) → Memᴰ x cs → Memᴰ x l)
      → Dominates before l cs
  unfolding Dominates Ascends All
  dominates_members l [] s t f = tt
  dominates_members [] (c ∷ cs) s t f = mathlib.Core.List.Memᴰ.not-nil (f c (mathlib.Core.List.Memᴰ.head refl))
  dominates_members (a ∷ l) (c ∷ cs) s t f =
      ⊎_elim
      (λ (e : c ≡ a).
      let later : All (λ x. before a x ≡ true) cs = rw e at t.0 in (
        rw e (irrefl o a),
        dominates_members l cs s.1 t.1 (λ x m. mem_later o a x l (all_mem (λ y. before a y ≡ true) later m) (f x (mathlib.Core.List.Memᴰ.tail m))),
      ))
      (λ (r : Memᴰ c l).
      let first : before a c ≡ true = all_mem (λ y. before a y ≡ true) s.0 r in
      let later : All (λ x. before a x ≡ true) cs =
      all_weaken (λ x. before c x ≡ true) (λ x. before a x ≡ true) (λ x u. before_trans o a c x first u) cs t.0 in
      dominates_front a l (c ∷ cs) (ascends_sorted o (a ∷ l) s)
      (dominates_members l (c ∷ cs) s.1 t
      (λ x m. mem_later o a x l (all_mem (λ y. before a y ≡ true) {l = c ∷ cs} (first, later) m) (f x m))))
      (mathlib.Core.List.Memᴰ.cases_cons (f c (mathlib.Core.List.Memᴰ.head refl)))

  dominates_take : (k : ℕ) (l cs : List A) → length cs ≤ k → Dominates before l cs → Dominates before (take k l) cs
  unfolding Dominates
  dominates_take k l [] n h = tt
  dominates_take zero l (c ∷ cs) n h = absurd (omega arith)
  dominates_take (suc k) [] (c ∷ cs) n h = h
  dominates_take (suc k) (a ∷ l) (c ∷ cs) n h = (h.0, dominates_take k l cs (omega arith) h.1)

  dominates_length : (l cs : List A) → Dominates before l cs → length cs ≤ length l
  unfolding Dominates
  dominates_length l [] h = omega arith
  dominates_length [] (c ∷ cs) h = absurd h
  dominates_length (a ∷ l) (c ∷ cs) h = omega (arith, dominates_length l cs h.1)

  choice_dominated : (l c : List A) → Distinct l → Distinct c → ((x : A) → Memᴰ x c → Memᴰ x l)
      → Dominates before (sort before l) (sort before c)
  choice_dominated l c d e f =
      dominates_members (sort before l) (sort before c) (ascends_sort o l d) (ascends_sort o c e)
      (λ x m. sort_mem before l (f x (mem_sort before c m)))

  -- Distinct elements of a distinct list are not more than it has.
  pub choice_length : (l c : List A) → Distinct l → Distinct c → ((x : A) → Memᴰ x c → Memᴰ x l) → length c ≤ length l
  choice_length l c d e f =
      let h = dominates_length (sort before l) (sort before c) (choice_dominated l c d e f) in
      omega (arith, length_sort before l, length_sort before c)

  -- ---- weights that grow with the order

  module _ (weight : A → ℕ) (grows : (a b : A) → before a b ≡ true → weight a ≤ weight b) where
    pub weight_weak : (a c : A) → before c a ≡ false → weight a ≤ weight c
    weight_weak a c h = by_test (before a c) (grows a c) (λ f. let e : a ≡ c = o.total a c f h in rw e (omega arith))

    pub sorted_weights : (l : List A) → Sorted before l → Sorted ltb (map weight l)
    unfolding Sorted
    sorted_weights [] s = tt
    sorted_weights (a ∷ l) s = (
      all_map (λ n. ltb n (weight a) ≡ false) weight l
          (all_weaken (λ b. before b a ≡ false) (λ b. ltb (weight b) (weight a) ≡ false)
          (λ b h. le-ltb (weight b) (weight a) (weight_weak a b h)) l s.0),
      sorted_weights l s.1,
    )

    -- The weights in ascending order are those of the list in order.
    pub sort_weights : (l : List A) → sort ltb (map weight l) ≡ map weight (sort before l)
    sort_weights l =
        sort_perm ltb_order (perm_map weight (Permᴰ.symm (sort_is_perm before l)))
        ∙ sort_sorted ltb_order (map weight (sort before l)) (sorted_weights (sort before l) (sorted_sort o l))

    dominates_weights : (l cs : List A) (i : ℕ) → Dominates before l cs → i < length cs → get_or (map weight l) i 0 ≤ get_or (map weight cs) i 0
    unfolding Dominates
    dominates_weights l [] i h n = absurd (omega arith)
    dominates_weights [] (c ∷ cs) i h n = absurd h
    dominates_weights (a ∷ l) (c ∷ cs) zero h n = weight_weak a c h.0
    dominates_weights (a ∷ l) (c ∷ cs) (suc i) h n = dominates_weights l cs i h.1 (omega arith)

    -- No choice of at most `k` distinct elements has a smaller weight at any place, the weights in ascending order and repeats kept.
    pub no_choice_better : (k : ℕ) (l c : List A) → Distinct l → Distinct c → ((x : A) → Memᴰ x c → Memᴰ x l) → length c ≤ k
        → (i : ℕ) → i < length c → get_or (map weight (best before k l)) i 0 ≤ get_or (sort ltb (map weight c)) i 0
    no_choice_better k l c d e f n i lt =
        rw (sort_weights c)
        (dominates_weights (take k (sort before l)) (sort before c) i
        (dominates_take k (sort before l) (sort before c) (rw length_sort n) (choice_dominated l c d e f))
        (rw length_sort lt))

    -- The same for a choice of as many as the best.
    pub no_equal_choice_better : (k : ℕ) (l c : List A) → Distinct l → Distinct c → ((x : A) → Memᴰ x c → Memᴰ x l)
        → length c ≡ length (best before k l)
        → (i : ℕ) → i < length c → get_or (map weight (best before k l)) i 0 ≤ get_or (sort ltb (map weight c)) i 0
    no_equal_choice_better k l c d e f n = no_choice_better k l c d e f (omega (arith, length_best before k l))

  -- ---- what is not among the best

  -- Each of the best comes before what is left out, and the list of the best is full.
  pub best_none_better : (k : ℕ) (l : List A) → Distinct l → (e : A) → Memᴰ e l → (Memᴰ e (best before k l) → ⊥)
      → All (λ h. before h e ≡ true) (best before k l) × (length (best before k l) ≡ k)
  best_none_better k l d e m out =
      let s = sort before l in
      let rest : Memᴰ e (drop k s) = ⊎_elim (λ (u : Memᴰ e (take k s)). absurd (out u)) (λ (u : Memᴰ e (drop k s)). u) (mem_parts k s (sort_mem before l m)) in
      let up : Ascends before (take k s ++ drop k s) = rw take-append-drop (ascends_sort o l d) in (
        mem_all (λ h. before h e ≡ true) (take k s) (λ h u. ascends_apart before (take k s) (drop k s) up u rest),
        omega (arith, length-take k s, length-drop k s, mem_length rest),
      )
