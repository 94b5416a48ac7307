-- The classic sweep: its steps; it finds the best K of all pairs that count.
use mathlib.Core.Path.{◌≡◌, refl, sym, ap, ◌∙◌}
use mathlib.Core.Bool.{Bool, true, false}
use mathlib.Core.List.Permᴰ
use mathlib.Core.List.{List, [], ◌∷◌, ◌++◌, map, append-nil}
use Prim.Native.Nat.{ℕ}
use Rattle.order.specs.Lists.{keep}
use Rattle.order.specs.Terms.{Sorted}
use Rattle.order.proofs.Order.{by_test}
use Rattle.order.proofs.Lists.{keep_nil, keep_after, perm_keep}
use Rattle.entry.specs.declared.Entry.{Entry}
use Rattle.entry.specs.Entry.{best_k}
use Rattle.sweep.specs.Strip.{product}
use Rattle.sweep.specs.Scan.{Candidate, State, scan}
use Rattle.sweep.specs.Sweep.{classic_over}
use Rattle.sweep.proofs.ScanLaws.{counted, scan_best, best_k_perm}
use Rattle.sweep.proofs.ProductLaws.{product_nil, product_cons, product_nil_right, product_cons_right}
use Rattle.sweep.proofs.Geometry.{Geometry, leads_all, follows_all, row_widening, column_widening, row_bounding, column_bounding}

-- ---- one step

module _ {A B : Type 0} (leads : A → B → Bool) (look : A → B → Candidate) (counts : Entry → Bool) (k : ℕ) where
  pub classic_nil : (q : List B) (s : State) → classic_over leads look counts k [] q s ≡ s
  unfolding classic_over
  classic_nil q s = refl

  pub classic_nil_right : (p : List A) (s : State) → classic_over leads look counts k p [] s ≡ s
  unfolding classic_over
  classic_nil_right [] s = refl
  classic_nil_right (a ∷ p) s = refl

  -- The reference is the first list's.
  pub classic_first : (a : A) (p : List A) (b : B) (q : List B) (s : State) → leads a b ≡ true
      → classic_over leads look counts k (a ∷ p) (b ∷ q) s ≡ classic_over leads look counts k p (b ∷ q) (scan counts k (map (look a) (b ∷ q)) s).state
  unfolding classic_over
  classic_first a p b q s h = rw h

  -- The reference is the second list's.
  pub classic_second : (a : A) (p : List A) (b : B) (q : List B) (s : State) → leads a b ≡ false
      → classic_over leads look counts k (a ∷ p) (b ∷ q) s ≡ classic_over leads look counts k (a ∷ p) q (scan counts k (map (λ c. look c b) (a ∷ p)) s).state
  unfolding classic_over
  classic_second a p b q s h = rw h

-- ---- all of it

module _ {A B : Type 0} {leftA : A → A → Bool} {left_b : B → B → Bool} {leads : A → B → Bool} {look : A → B → Candidate}
    (G : Geometry leftA left_b leads look) (counts : Entry → Bool) (k : ℕ) where
  abbrev weigh : A → B → Entry
  weigh a b = (look a b).entry

  pub classic_best : (p : List A) (q : List B) (s : State) (m : List Entry) → Sorted leftA p → Sorted left_b q → s.entries ≡ best_k k m
      → (classic_over leads look counts k p q s).entries ≡ best_k k (m ++ keep counts (product (λ a b. (look a b).entry) p q))
  unfolding Sorted
  classic_best [] q s m sp sq e = rw (classic_nil leads look counts k q s, product_nil, keep_nil counts, append-nil) e
  classic_best (a ∷ p) [] s m sp sq e =
      rw (classic_nil_right leads look counts k (a ∷ p) s, product_nil_right, keep_nil counts, append-nil) e
  classic_best (a ∷ p) (b ∷ q) s m sp sq e =
      by_test (leads a b)
      (λ h. rw (classic_first leads look counts k a p b q s h)
      (classic_best p (b ∷ q) (scan counts k (map (look a) (b ∷ q)) s).state (m ++ counted (look a) counts k (b ∷ q)) sp.1 sq
      (scan_best (look a) counts k (b ∷ q) s m (row_widening G a (b ∷ q) (leads_all G a b q h sq) sq) (row_bounding G a (b ∷ q)) e)
      ∙ ap (best_k k) (keep_after counts m (map (weigh a) (b ∷ q)) (product weigh p (b ∷ q)) ∙ rw (product_cons weigh a p (b ∷ q)))))
      (λ h. rw (classic_second leads look counts k a p b q s h)
      (classic_best (a ∷ p) q (scan counts k (map (λ c. look c b) (a ∷ p)) s).state (m ++ counted (λ c. look c b) counts k (a ∷ p)) sp sq.1
      (scan_best (λ c. look c b) counts k (a ∷ p) s m (column_widening G b (a ∷ p) (follows_all G a b p h sp) sp) (column_bounding G b (a ∷ p)) e)
      ∙ ap (best_k k) (keep_after counts m (map (λ c. weigh c b) (a ∷ p)) (product weigh (a ∷ p) q))
      ∙ sym (best_k_perm k (Permᴰ.append_left m (perm_keep counts (product_cons_right weigh (a ∷ p) b q))))))
