-- Laws of insertion and of the best K that need no sortedness.
use mathlib.Core.Path.{◌≡◌, refl, sym, ap, ◌∙◌}
use mathlib.Core.Bool.{Bool, true, false}
use mathlib.Core.List.{List, [], ◌∷◌, ◌++◌, map, foldl, Permᴰ}
use Prim.Native.Nat.{ℕ, zero, suc, ◌+◌, min}
use native.Mathlib.Omega.{arith}
use lib.ListN.{length, take, length-take}
use lib.Seq.{take-take}
use Rattle.order.proofs.Order.{StrictOrder, by_test, never_both, irrefl, before_trans}
use Rattle.order.proofs.Lists.{map_take}
use Rattle.order.specs.Sort.{insert, sort}

-- The first `k` of a list by the order, or all where there are fewer.
abbrev pub best : {A : Type 0} → (A → A → Bool) → ℕ → List A → List A
best before k l = take k (sort before l)

-- Each element of the first list inserted into the second.
unfoldable pub inserts : {A : Type 0} → (A → A → Bool) → List A → List A → List A
inserts before l s = foldl (λ sorted e. insert before e sorted) s l

module _ {A : Type 0} (before : A → A → Bool) where
  pub insert_nil : (e : A) → insert before e [] ≡ e ∷ []
  unfolding insert
  insert_nil e = refl

  -- Past a head that comes before it.
  pub insert_later : (e h : A) (t : List A) → before h e ≡ true → insert before e (h ∷ t) ≡ h ∷ insert before e t
  unfolding insert
  insert_later e h t p = rw p

  -- In front of a head that does not.
  pub insert_here : (e h : A) (t : List A) → before h e ≡ false → insert before e (h ∷ t) ≡ e ∷ h ∷ t
  unfolding insert
  insert_here e h t p = rw p

  pub length_insert : (e : A) (s : List A) → length (insert before e s) ≡ suc (length s)
  length_insert e [] = rw insert_nil
  length_insert e (h ∷ t) =
      by_test (before h e)
      (λ p. rw (insert_later e h t p) (ap suc (length_insert e t)))
      (λ p. rw (insert_here e h t p))

  pub inserts_nil : (s : List A) → inserts before [] s ≡ s
  unfolding inserts
  inserts_nil s = refl

  pub inserts_cons : (e : A) (l s : List A) → inserts before (e ∷ l) s ≡ inserts before l (insert before e s)
  unfolding inserts
  inserts_cons e l s = refl

  pub length_inserts : (l s : List A) → length (inserts before l s) ≡ length l + length s
  length_inserts [] s = rw inserts_nil (omega arith)
  length_inserts (e ∷ l) s = rw (inserts_cons, length_inserts l (insert before e s), length_insert) (omega arith)

  pub sort_inserts : (l : List A) → sort before l ≡ inserts before l []
  unfolding sort inserts
  sort_inserts l = refl

  pub length_sort : (l : List A) → length (sort before l) ≡ length l
  length_sort l = rw (sort_inserts, length_inserts) (omega arith)

  pub length_best : (k : ℕ) (l : List A) → length (best before k l) ≡ min k (length l)
  length_best k l = rw (length-take, length_sort)

  pub inserts_append : (l m s : List A) → inserts before (l ++ m) s ≡ inserts before m (inserts before l s)
  unfolding inserts
  inserts_append [] m s = refl
  inserts_append (e ∷ l) m s = inserts_append l m (insert before e s)

  pub sort_snoc : (l : List A) (e : A) → sort before (l ++ (e ∷ [])) ≡ insert before e (sort before l)
  sort_snoc l e = rw (sort_inserts l, sort_inserts (l ++ (e ∷ [])), inserts_append, inserts_cons, inserts_nil)

  take_cons_take : (k : ℕ) (h : A) (t : List A) → take k (h ∷ take k t) ≡ take k (h ∷ t)
  take_cons_take zero h t = refl
  take_cons_take (suc k) h t = ap (λ (r : List A). h ∷ r) (take-take k (suc k) t (omega arith))

  -- Only the first `k` matter for the first `k` after an insertion.
  pub take_insert : (k : ℕ) (e : A) (l : List A) → take k (insert before e (take k l)) ≡ take k (insert before e l)
  take_insert zero e l = refl
  take_insert (suc k) e [] = refl
  take_insert (suc k) e (h ∷ t) =
      by_test (before h e)
      (λ p. rw (insert_later e h t p, insert_later e h (take k t) p) (ap (λ (r : List A). h ∷ r) (take_insert k e t)))
      (λ p. rw (insert_here e h t p, insert_here e h (take k t) p) (ap (λ (r : List A). e ∷ r) (take_cons_take k h t)))

  -- The same for many insertions.
  pub take_inserts : (k : ℕ) (m s : List A) → take k (inserts before m (take k s)) ≡ take k (inserts before m s)
  unfolding inserts
  take_inserts k [] s = take-take k k s (omega arith)
  take_inserts k (e ∷ m) s =
      rw (← take_inserts k m (insert before e (take k s)), take_insert) (take_inserts k m (insert before e s))

  -- The best of a list and more: the more inserted into the best.
  pub best_append : (k : ℕ) (l m : List A) → best before k (l ++ m) ≡ take k (inserts before m (best before k l))
  best_append k l m = rw (sort_inserts (l ++ m), sort_inserts l, inserts_append, take_inserts)

  pub best_nil : (k : ℕ) → best before k [] ≡ []
  unfolding sort
  best_nil zero = refl
  best_nil (suc k) = refl

  pub best_snoc : (k : ℕ) (l : List A) (e : A) → best before k (l ++ (e ∷ [])) ≡ take k (insert before e (best before k l))
  best_snoc k l e = rw (best_append, inserts_cons, inserts_nil)

module _ {A : Type 0} {before : A → A → Bool} (o : StrictOrder before) where
  comm_at : (a b : A) → before b a ≡ true → (s : List A) → insert before a (insert before b s) ≡ insert before b (insert before a s)
  comm_at a b p [] = simp (insert_nil, insert_later before a b [] p, insert_here before b a [] (o.asym b a p))
  comm_at a b p (h ∷ t) =
      by_test (before h b)
      (λ hb.
      let ha : before h a ≡ true = before_trans o h b a hb p in
      rw (insert_later before b h t hb, insert_later before a h t ha, insert_later before a h _ ha, insert_later before b h _ hb)
      (ap (λ (r : List A). h ∷ r) (comm_at a b p t)))
      (λ hb. rw (insert_here before b h t hb, insert_later before a b (h ∷ t) p)
      (by_test (before h a)
      (λ ha. rw (insert_later before a h t ha, insert_here before b h _ hb))
      (λ ha. rw (insert_here before a h t ha, insert_here before b a _ (o.asym b a p)))))

  -- The order of two insertions is free.
  pub insert_comm : (a b : A) (s : List A) → insert before a (insert before b s) ≡ insert before b (insert before a s)
  insert_comm a b s =
      by_test (before b a) (λ p. comm_at a b p s)
      (λ p. by_test (before a b) (λ q. sym (comm_at b a q s)) (λ q. let e : a ≡ b = o.total a b q p in rw e))

  -- What was there before an insertion follows from what is there after it.
  pub insert_cancel : (a : A) {s t : List A} → insert before a s ≡ insert before a t → s ≡ t
  insert_cancel a {s = []} {t = []} e = refl
  insert_cancel a {s = []} {t = g ∷ t} e = absurd (omega (arith, simp length_insert at (ap length e)))
  insert_cancel a {s = h ∷ s} {t = []} e = absurd (omega (arith, simp length_insert at (ap length e)))
  insert_cancel a {s = h ∷ s} {t = g ∷ t} e =
      let never = irrefl o a in
      by_test (before h a)
      (λ p.
      let l = insert_later before a h s p in
      by_test (before g a)
      (λ q. let r = insert_later before a g t q in let i : s ≡ t = insert_cancel a {s = s} (cc) in cc)
      (λ q. let r = insert_here before a g t q in never_both p (cc)))
      (λ p.
      let l = insert_here before a h s p in
      by_test (before g a)
      (λ q. let r = insert_later before a g t q in never_both q (cc))
      (λ q. let r = insert_here before a g t q in cc))

  pub insert_inserts : (e : A) (l s : List A) → inserts before l (insert before e s) ≡ insert before e (inserts before l s)
  unfolding inserts
  insert_inserts e [] s = refl
  insert_inserts e (a ∷ l) s = rw (insert_comm a e s) (insert_inserts e l (insert before a s))

  pub sort_cons : (e : A) (l : List A) → sort before (e ∷ l) ≡ insert before e (sort before l)
  sort_cons e l = rw (sort_inserts before (e ∷ l), sort_inserts before l, inserts_cons) (insert_inserts e l [])

  pub best_cons : (k : ℕ) (e : A) (l : List A) → best before k (e ∷ l) ≡ take k (insert before e (best before k l))
  best_cons k e l = rw (sort_cons, take_insert)

  pub inserts_perm : {l m : List A} → Permᴰ l m → (s : List A) → inserts before l s ≡ inserts before m s
  unfolding inserts
  inserts_perm Permᴰ.nil s = refl
  inserts_perm (Permᴰ.cons {b = b} e p) s = rw e (inserts_perm p (insert before b s))
  inserts_perm (Permᴰ.swap {a' = c} {b' = d} e f) s = rw (e, f, insert_comm c d s)
  inserts_perm (Permᴰ.trans p q) s = inserts_perm p s ∙ inserts_perm q s

  -- The order in which elements come is free.
  pub sort_perm : {l m : List A} → Permᴰ l m → sort before l ≡ sort before m
  unfolding sort inserts
  sort_perm p = inserts_perm p []

  pub best_perm : (k : ℕ) {l m : List A} → Permᴰ l m → best before k l ≡ best before k m
  best_perm k p = rw (sort_perm p)

-- Elements replaced by others in the same order: the best of them are those that the best were replaced by.
module _ {A B : Type 0} (before : A → A → Bool) (before' : B → B → Bool) (f : A → B)
    (keeps : (a b : A) → before' (f a) (f b) ≡ before a b) where
  insert_map : (e : A) (s : List A) → insert before' (f e) (map f s) ≡ map f (insert before e s)
  insert_map e [] = rw (insert_nil before e) (insert_nil before' (f e))
  insert_map e (h ∷ t) =
      by_test (before h e)
      (λ p. rw (insert_later before e h t p, insert_later before' (f e) (f h) (map f t) (keeps h e ∙ p))
      (ap (λ (r : List B). f h ∷ r) (insert_map e t)))
      (λ p. rw (insert_here before e h t p, insert_here before' (f e) (f h) (map f t) (keeps h e ∙ p)))

  inserts_map : (l s : List A) → inserts before' (map f l) (map f s) ≡ map f (inserts before l s)
  inserts_map [] s = rw (inserts_nil before s) (inserts_nil before' (map f s))
  inserts_map (e ∷ l) s =
      rw (inserts_cons before e l s, inserts_cons before' (f e) (map f l) (map f s), insert_map e s)
      (inserts_map l (insert before e s))

  pub best_map : (k : ℕ) (l : List A) → best before' k (map f l) ≡ map f (best before k l)
  best_map k l = rw (sort_inserts before l, sort_inserts before' (map f l), inserts_map l []) (sym (map_take f k (inserts before l [])))
