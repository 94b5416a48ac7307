-- One scan: what it leaves out cannot enter, so it finds the best K of all its candidates.
use mathlib.Core.Path.{◌≡◌, refl, sym, ap, subst, ◌∙◌}
use mathlib.Core.Bool.{Bool, true, false}
use mathlib.Core.List.{List, [], ◌∷◌, ◌++◌, map, append-nil, Permᴰ}
use Prim.Native.Nat.{ℕ, suc, ◌≤◌, ◌<◌}
use native.Mathlib.Omega.{arith}
use lib.Dec.{eqb}
use lib.ListN.{length, drop, get_or}
use borrow.Author.Tests.{ltb-true, eqb-true, eq-eqb, lt-ltb}
use Rattle.order.specs.Lists.{keep, All}
use Rattle.order.specs.Terms.{Sorted}
use Rattle.order.proofs.Order.{by_test, never_both}
use Rattle.order.proofs.Lists.{all_weaken, all_map, all_keep, keep_nil, keep_after}
use Rattle.order.proofs.Best.{best_append, best_snoc, best_perm}
use Rattle.order.proofs.Sorted.{sorted_best, best_drop, last_weak}
use Rattle.entry.specs.declared.Entry.{Entry}
use Rattle.entry.specs.Entry.{rank_before, best_k, offer, last_distance}
use Rattle.entry.proofs.Rank.{rank_order, rank_farther, last_distance_lem}
use Rattle.sweep.specs.Scan.{Candidate, State, beyond, taken, look_at, scan}

-- ---- one step

module _ (counts : Entry → Bool) (k : ℕ) where
  pub scan_nil : (s : State) → scan counts k [] s ≡ record { state = s; passed = 0 }
  unfolding scan
  scan_nil s = refl

  pub scan_stop : (c : Candidate) (l : List Candidate) (s : State) → beyond k s.entries c.gap ≡ true
      → scan counts k (c ∷ l) s ≡ record { state = look_at counts k c s; passed = 0 }
  unfolding scan
  scan_stop c l s b = rw b

  pub scan_on : (c : Candidate) (l : List Candidate) (s : State) → beyond k s.entries c.gap ≡ false
      → let r = scan counts k l (look_at counts k c s) in
      scan counts k (c ∷ l) s ≡ record { state = r.state; passed = suc r.passed }
  unfolding scan
  scan_on c l s b = rw b

-- ---- the best K of entries

-- The order of what is offered is free.
pub best_k_perm : (k : ℕ) {l m : List Entry} → Permᴰ l m → best_k k l ≡ best_k k m
unfolding best_k
best_k_perm k p = best_perm rank_order k p

-- What has the same best K has so with more.
pub best_k_left : (k : ℕ) (l m r : List Entry) → best_k k l ≡ best_k k m → best_k k (l ++ r) ≡ best_k k (m ++ r)
unfolding best_k
best_k_left k l m r e = rw (best_append rank_before k l r, best_append rank_before k m r, e)

-- What the list takes of one pair gives the best K with it, if it counts.
pub taken_best : (counts : Entry → Bool) (k : ℕ) (m : List Entry) (e : Entry)
    → taken counts k e (best_k k m) ≡ best_k k (m ++ keep counts (e ∷ []))
unfolding taken offer best_k keep
taken_best counts k m e = by_test (counts e) (λ t. rw t (sym (best_snoc rank_before k m e))) (λ n. rw (n, append-nil))

-- ---- a list in order and its last distance

-- What is further away than the last entry comes before none.
past_last : (l : List Entry) (e : Entry) → Sorted rank_before l → last_distance l < e.distance → All (λ f. rank_before e f ≡ false) l
unfolding All
past_last [] e s h = tt
past_last (a ∷ l) e s h =
    last_weak rank_order e (a ∷ l) (length l) e refl s
    (rank_farther e (get_or (a ∷ l) (length l) e) (omega (arith, last_distance_lem (a ∷ l) (length l) e refl)))

-- ---- what is beyond a list

pub beyond_full : (k : ℕ) (l : List Entry) (g : ℕ) → beyond k l g ≡ true → length l ≡ k
unfolding beyond
beyond_full k l g h =
    by_test (eqb (length l) k) (eqb-true (length l) k) (λ f. let n : false ≡ true = rw f at h in never_both n refl)

pub beyond_further : (k : ℕ) (l : List Entry) (g : ℕ) → beyond k l g ≡ true → last_distance l < g
unfolding beyond
beyond_further k l g h =
    by_test (eqb (length l) k)
    (λ t. ltb-true (last_distance l) g (rw t at h))
    (λ f. let n : false ≡ true = rw f at h in never_both n refl)

pub beyond_if : (k : ℕ) (l : List Entry) (g : ℕ) → length l ≡ k → last_distance l < g → beyond k l g ≡ true
unfolding beyond
beyond_if k l g n h = rw (eq-eqb (length l) k n) (lt-ltb (last_distance l) g h)

-- What is further away is beyond too.
pub beyond_more : (k : ℕ) (l : List Entry) (g h : ℕ) → g ≤ h → beyond k l g ≡ true → beyond k l h ≡ true
beyond_more k l g h le b = beyond_if k l h (beyond_full k l g b) (omega (arith, beyond_further k l g b))

-- Entries beyond the best K may be left out.
pub beyond_drop : (k : ℕ) (m rest : List Entry) → All (λ e. beyond k (best_k k m) e.distance ≡ true) rest
    → best_k k (m ++ rest) ≡ best_k k m
unfolding best_k All
beyond_drop k m [] h = rw append-nil
beyond_drop k m (e ∷ rest) h =
    best_drop rank_order k m (e ∷ rest) (beyond_full k (best_k k m) e.distance h.0)
    (all_weaken (λ x. beyond k (best_k k m) x.distance ≡ true) (λ x. All (λ y. rank_before x y ≡ false) (best_k k m))
    (λ x b. past_last (best_k k m) x (sorted_best rank_order k m) (beyond_further k (best_k k m) x.distance b))
    (e ∷ rest) h)

-- Entries no nearer than a gap that is beyond may be left out.
pub beyond_under : (k g : ℕ) (m rest : List Entry) → beyond k (best_k k m) g ≡ true → All (λ e. g ≤ e.distance) rest
    → best_k k (m ++ rest) ≡ best_k k m
beyond_under k g m rest b h =
    beyond_drop k m rest
    (all_weaken (λ e. g ≤ e.distance) (λ e. beyond k (best_k k m) e.distance ≡ true)
    (λ e le. beyond_more k (best_k k m) g e.distance le b) rest h)

-- What follows of each element from two facts of it.
pub all_zip : {A : Type 0} (P Q R : A → Type 0) → ((a : A) → P a → Q a → R a) → (l : List A) → All P l → All Q l → All R l
unfolding All
all_zip P Q R f [] p q = tt
all_zip P Q R f (a ∷ l) p q = (f a p.0 q.0, all_zip P Q R f l p.1 q.1)

-- ---- a scan of the candidates that `f` makes of a list

module _ {X : Type 0} (f : X → Candidate) where
  -- The gaps never shrink along the list.
  unfoldable pub Widening : List X → Type 0
  Widening [] = Unit {0}
  Widening (x ∷ l) = All (λ y. (f x).gap ≤ (f y).gap) l × Widening l

  -- No gap is more than the distance.
  unfoldable pub Bounding : List X → Type 0
  Bounding l = All (λ x. (f x).gap ≤ (f x).entry.distance) l

  -- Where the first of widening candidates is beyond, all are.
  beyond_all : (k : ℕ) (E : List Entry) (x : X) (l : List X) → Widening (x ∷ l) → beyond k E (f x).gap ≡ true
      → All (λ y. beyond k E (f y).gap ≡ true) (x ∷ l)
  unfolding Widening All
  beyond_all k E x l w b = (
    b,
    all_weaken (λ y. (f x).gap ≤ (f y).gap) (λ y. beyond k E (f y).gap ≡ true)
        (λ y le. beyond_more k E (f x).gap (f y).gap le b) l w.0,
  )

  module _ (counts : Entry → Bool) (k : ℕ) where
    -- The pairs of the candidates that count.
    abbrev pub counted : List X → List Entry
    counted l = keep counts (map (λ x. (f x).entry) l)

    -- Candidates beyond by their gaps may be left out.
    pub beyond_rest : (m : List Entry) (l : List X) → Bounding l → All (λ y. beyond k (best_k k m) (f y).gap ≡ true) l
        → best_k k (m ++ counted l) ≡ best_k k m
    unfolding Bounding
    beyond_rest m l b h =
        beyond_drop k m (counted l)
        (all_keep counts (λ e. beyond k (best_k k m) e.distance ≡ true) (map (λ x. (f x).entry) l)
        (all_map (λ e. beyond k (best_k k m) e.distance ≡ true) (λ x. (f x).entry) l
        (all_zip (λ x. (f x).gap ≤ (f x).entry.distance) (λ x. beyond k (best_k k m) (f x).gap ≡ true)
        (λ x. beyond k (best_k k m) (f x).entry.distance ≡ true)
        (λ x. beyond_more k (best_k k m) (f x).gap (f x).entry.distance) l b h)))

    -- A look that goes on gives the best K with the pair, if it counts.
    offered_best : (x : X) (s : State) (m : List Entry) → s.entries ≡ best_k k m → beyond k s.entries (f x).gap ≡ false
        → (look_at counts k (f x) s).entries ≡ best_k k (m ++ counted (x ∷ []))
    offered_best x s m e n = rw n (rw e (taken_best counts k m (f x).entry))

    -- A look that stops leaves the list.
    stopped_list : (x : X) (s : State) → beyond k s.entries (f x).gap ≡ true → (look_at counts k (f x) s).entries ≡ s.entries
    stopped_list x s t = rw t

    -- A scan finds the best K of what there was and all its candidates that count.
    pub scan_best : (l : List X) (s : State) (m : List Entry) → Widening l → Bounding l → s.entries ≡ best_k k m
        → (scan counts k (map f l) s).state.entries ≡ best_k k (m ++ counted l)
    unfolding Widening Bounding All
    scan_best [] s m w b e = rw (scan_nil counts k s, keep_nil counts, append-nil) e
    scan_best (x ∷ l) s m w b e =
        by_test (beyond k s.entries (f x).gap)
        (λ t. rw (scan_stop counts k (f x) (map f l) s t)
        (stopped_list x s t ∙ e ∙ sym (beyond_rest m (x ∷ l) b (beyond_all k (best_k k m) x l w (rw e at t)))))
        (λ n. rw (scan_on counts k (f x) (map f l) s n)
        (scan_best l (look_at counts k (f x) s) (m ++ counted (x ∷ [])) w.1 b.1 (offered_best x s m e n)
        ∙ ap (best_k k) (keep_after counts m ((f x).entry ∷ []) (map (λ y. (f y).entry) l))))

    -- What a scan did not pass is beyond the list that it leaves.
    pub scan_rest : (l : List X) (s : State) → Widening l
        → let r = scan counts k (map f l) s in
        All (λ x. beyond k r.state.entries (f x).gap ≡ true) (drop r.passed l)
    unfolding Widening All
    scan_rest [] s w = rw (scan_nil counts k s) tt
    scan_rest (x ∷ l) s w =
        by_test (beyond k s.entries (f x).gap)
        (λ t. rw (scan_stop counts k (f x) (map f l) s t)
        (subst (λ (e : List Entry). All (λ y. beyond k e (f y).gap ≡ true) (x ∷ l)) (sym (stopped_list x s t)) (beyond_all k s.entries x l w t)))
        (λ n. rw (scan_on counts k (f x) (map f l) s n) (scan_rest l (look_at counts k (f x) s) w.1))
