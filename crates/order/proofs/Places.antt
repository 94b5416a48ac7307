-- An element put in at a place of a list, and the element at a place taken out: each undoes the other, and a list that ascends
-- stays so where the place is the element's own.
use mathlib.Core.Path.{◌≡◌, refl, sym, ap, ◌∙◌}
use mathlib.Core.Bool.{Bool, true, false, ◌||◌, or-true}
use mathlib.Core.List.Permᴰ
use mathlib.Core.List.{List, [], ◌∷◌, ◌++◌, zip_with}
use Prim.Native.Nat.{ℕ, zero, suc, ◌≤◌, ◌<◌}
use native.Mathlib.Nat.{le_of_suc-le-suc}
use native.Mathlib.Omega.{arith}
use lib.Dec.{leb, leb-suc-suc, leb-suc-zero}
use lib.ListN.{length, take, drop, get_or}
use Rattle.order.specs.Lists.{all, keep, All}
use Rattle.order.specs.Sort.{insert}
use Rattle.order.proofs.Order.{OrderUpTo, by_test, never_both, irrefl, before_trans}
use Rattle.order.proofs.Lists.{all_append, all_take, all_drop, all_at, all_weaken, holds_all, keep_yes, keep_no, keep_none, perm_all, zip_drop}
use Rattle.order.proofs.Best.{insert_nil, insert_later, insert_here}
use Rattle.order.proofs.Sorted.{Ascends, insert_is_perm}

-- `v` put in at place `p`.
abbrev pub put : {A : Type 0} → ℕ → A → List A → List A
put p v l = take p l ++ (v ∷ drop p l)

-- The element at place `p` taken out.
abbrev pub without : {A : Type 0} → ℕ → List A → List A
without p l = take p l ++ drop (suc p) l

-- How many of a list come before an element.
abbrev pub place_by : {A : Type 0} → (A → A → Bool) → A → List A → ℕ
place_by before e l = length (keep (λ t. before t e) l)

module _ {A : Type 0} where
  -- Each undoes the other.
  pub without_put : (p : ℕ) (v : A) (l : List A) → p ≤ length l → without p (put p v l) ≡ l
  without_put zero v l h = refl
  without_put (suc p) v [] h = absurd (omega arith)
  without_put (suc p) v (a ∷ l) h = ap (λ (r : List A). a ∷ r) (without_put p v l (le_of_suc-le-suc h))

  pub put_without : (p : ℕ) (d : A) (l : List A) → p < length l → put p (get_or l p d) (without p l) ≡ l
  put_without p d [] h = absurd (omega arith)
  put_without zero d (a ∷ l) h = refl
  put_without (suc p) d (a ∷ l) h = ap (λ (r : List A). a ∷ r) (put_without p d l (omega arith))

  pub all_without : (P : A → Type 0) (p : ℕ) (l : List A) → All P l → All P (without p l)
  all_without P p l g = all_append P (take p l) (drop (suc p) l) (all_take P p l g) (all_drop P (suc p) l g)

-- Elements of two lists joined.
module _ {A B C : Type 0} (f : A → B → C) where
  pub zip_put : (p : ℕ) (a : A) (b : B) (l : List A) (m : List B) → p ≤ length l → p ≤ length m
      → zip_with f (put p a l) (put p b m) ≡ put p (f a b) (zip_with f l m)
  unfolding zip_with
  zip_put zero a b l m h g = refl
  zip_put (suc p) a b [] m h g = absurd (omega arith)
  zip_put (suc p) a b (x ∷ l) [] h g = absurd (omega arith)
  zip_put (suc p) a b (x ∷ l) (y ∷ m) h g =
      ap (λ (r : List C). f x y ∷ r) (zip_put p a b l m (le_of_suc-le-suc h) (le_of_suc-le-suc g))

  pub zip_without : (p : ℕ) (l : List A) (m : List B) → zip_with f (without p l) (without p m) ≡ without p (zip_with f l m)
  unfolding zip_with
  zip_without zero l m = zip_drop f 1 l m
  zip_without (suc p) [] m = refl
  zip_without (suc p) (x ∷ l) [] = refl
  zip_without (suc p) (x ∷ l) (y ∷ m) = ap (λ (r : List C). f x y ∷ r) (zip_without p l m)

-- ---- in an order

module _ {A : Type 0} {same : A → A → Type 0} {before : A → A → Bool} (o : OrderUpTo same before) where
  -- Whether one comes before or after another.
  abbrev apart : A → A → Bool
  apart e t = before t e || before e t

  first_place : (e h : A) (t : List A) → Ascends before (h ∷ t) → before h e ≡ false → place_by before e (h ∷ t) ≡ 0
  unfolding Ascends All
  first_place e h t s f =
      ap length (keep_none (λ x. before x e) (h ∷ t) (
        f,
        all_weaken (λ x. before h x ≡ true) (λ x. before x e ≡ false)
            (λ x p. by_test (before x e) (λ q. never_both (before_trans o h x e p q) f) (λ q. q)) t s.0,
      ))

  -- An element put in by the order stands after as many as come before it.
  pub insert_at_place : (e : A) (l : List A) → Ascends before l → insert before e l ≡ put (place_by before e l) e l
  unfolding Ascends keep
  insert_at_place e [] s = insert_nil before e
  insert_at_place e (h ∷ t) s =
      by_test (before h e)
      (λ p. insert_later before e h t p ∙ ap (λ (r : List A). h ∷ r) (insert_at_place e t s.1)
      ∙ sym (ap (λ (r : List A). put (length r) e (h ∷ t)) (keep_yes (λ x. before x e) h t p)))
      (λ p. insert_here before e h t p ∙ sym (ap (λ (q : ℕ). put q e (h ∷ t)) (first_place e h t s p)))

  -- The list ascends with it where it is new: each of the list comes before or after it.
  pub ascends_insert : (e : A) (l : List A) → Ascends before l → All (λ b. apart e b ≡ true) l → Ascends before (insert before e l)
  unfolding Ascends All
  ascends_insert e [] s new = rw (insert_nil before e) (tt, tt)
  ascends_insert e (h ∷ t) s new =
      by_test (before h e)
      (λ p. rw (insert_later before e h t p)
      (perm_all (λ b. before h b ≡ true) (Permᴰ.symm (insert_is_perm before e t)) (p, s.0), ascends_insert e t s.1 new.1))
      (λ p.
      let q : before e h ≡ true = rw p at new.0 in
      rw (insert_here before e h t p)
      ((q, all_weaken (λ b. before h b ≡ true) (λ b. before e b ≡ true) (λ b r. before_trans o e h b q r) t s.0), s))

  pub ascends_without : (p : ℕ) (l : List A) → Ascends before l → Ascends before (without p l)
  unfolding Ascends All
  ascends_without zero [] s = tt
  ascends_without zero (a ∷ l) s = s.1
  ascends_without (suc p) [] s = tt
  ascends_without (suc p) (a ∷ l) s = (all_without (λ b. before a b ≡ true) p l s.0, ascends_without p l s.1)

  -- What comes before an element comes before all that this comes before.
  later_apart : (e h : A) (t : List A) → All (λ b. before h b ≡ true) t → before e h ≡ true → All (λ b. apart e b ≡ true) t
  later_apart e h t s q =
      all_weaken (λ b. before h b ≡ true) (λ b. apart e b ≡ true) (λ b r. rw (before_trans o e h b q r) (or-true (before b e))) t s

  -- What is not new stands at its place.
  pub place_found : (e d : A) (l : List A) → Ascends before l → all (apart e) l ≡ false
      → (place_by before e l < length l) × same (get_or l (place_by before e l) d) e
  unfolding Ascends all
  place_found e d [] s f = never_both refl f
  place_found e d (h ∷ t) s f =
      by_test (before h e)
      (λ p.
      let rest = place_found e d t s.1 (rw p at f) in
      rw (keep_yes (λ x. before x e) h t p) (omega (arith, rest.0), rest.1))
      (λ p.
      by_test (before e h)
      (λ q.
      let none : all (apart e) t ≡ false = rw (p, q) at f in
      never_both (holds_all (apart e) t (later_apart e h t s.0 q)) none)
      (λ q. rw (first_place e h t s p) (omega arith, o.total h e p q)))

  -- What is new belongs past the end, or comes before what stands at its place.
  pub new_at_place : (e d : A) (l : List A) → Ascends before l
      → all (apart e) l ≡ (leb (length l) (place_by before e l) || before e (get_or l (place_by before e l) d))
  unfolding Ascends all keep
  new_at_place e d [] s = refl
  new_at_place e d (h ∷ t) s =
      by_test (before h e)
      (λ p. rw (keep_yes (λ x. before x e) h t p, p, leb-suc-suc) (new_at_place e d t s.1))
      (λ p. rw (first_place e h t s p, leb-suc-zero, p)
      (by_test (before e h) (λ q. rw q (holds_all (apart e) t (later_apart e h t s.0 q))) (λ q. rw q)))

  -- What was put in is not new, and stands where it was put.
  pub put_found : (p : ℕ) (e : A) (l : List A) → all (apart e) (put p e l) ≡ false
  unfolding all
  put_found zero e l = rw (irrefl o e)
  put_found (suc p) e [] = rw (irrefl o e)
  put_found (suc p) e (a ∷ l) = by_test (apart e a) (λ t. rw t (put_found p e l)) (λ f. rw f)

  pub place_put : (p : ℕ) (e : A) (l : List A) → place_by before e (put p e l) ≡ place_by before e l
  place_put zero e l = ap length (keep_no (λ x. before x e) e l (irrefl o e))
  place_put (suc p) e [] = ap length (keep_no (λ x. before x e) e [] (irrefl o e))
  place_put (suc p) e (a ∷ l) =
      by_test (before a e)
      (λ t. rw (keep_yes (λ x. before x e) a (put p e l) t, keep_yes (λ x. before x e) a l t) (ap suc (place_put p e l)))
      (λ f. rw (keep_no (λ x. before x e) a (put p e l) f, keep_no (λ x. before x e) a l f) (place_put p e l))

  -- What was taken out is new to the rest, and its place is where it stood.
  pub without_new : (p : ℕ) (d : A) (l : List A) → p < length l → Ascends before l → All (λ b. apart (get_or l p d) b ≡ true) (without p l)
  unfolding Ascends All
  without_new p d [] h s = absurd (omega arith)
  without_new zero d (a ∷ l) h s =
      all_weaken (λ b. before a b ≡ true) (λ b. apart a b ≡ true) (λ b r. rw r (or-true (before b a))) l s.0
  without_new (suc p) d (a ∷ l) h s =
      (rw (all_at (λ b. before a b ≡ true) l p d (omega arith) s.0), without_new p d l (omega arith) s.1)

  pub place_without : (p : ℕ) (d : A) (l : List A) → p < length l → Ascends before l → place_by before (get_or l p d) (without p l) ≡ p
  unfolding Ascends
  place_without p d [] h s = absurd (omega arith)
  place_without zero d (a ∷ l) h s =
      ap length (keep_none (λ x. before x a) l
      (all_weaken (λ b. before a b ≡ true) (λ b. before b a ≡ false) (λ b r. o.asym a b r) l s.0))
  place_without (suc p) d (a ∷ l) h s =
      ap length (keep_yes (λ x. before x (get_or l p d)) a (without p l) (all_at (λ b. before a b ≡ true) l p d (omega arith) s.0))
      ∙ ap suc (place_without p d l (omega arith) s.1)
