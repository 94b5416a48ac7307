-- The join by halves finds the best K of what there was and all pairs of both ranges.
use mathlib.Core.Path.{◌≡◌, refl, sym, ap, ◌∙◌}
use mathlib.Core.Bool.{Bool}
use mathlib.Core.Logic.{◌⊎◌, ⊎_elim}
use mathlib.Core.List.Memᴰ
use mathlib.Core.List.Permᴰ
use mathlib.Core.List.{List, [], ◌∷◌, ◌++◌, append-nil, append_assoc, Memᴰ, Permᴰ}
use Prim.Native.Nat.{ℕ, ◌≤◌}
use native.Mathlib.Omega.{arith}
use lib.ListN.{length}
use Rattle.order.specs.Lists.{keep, All}
use Rattle.order.proofs.Lists.{mem_all, all_keep, keep_nil, keep_append, perm_eq, perm_keep}
use Rattle.entry.specs.declared.Entry.{Entry}
use Rattle.entry.specs.Entry.{best_k, apart}
use Rattle.boxes.proofs.Box.{box_gap_under}
use Rattle.sweep.specs.Strip.{Placed, pair, product, pairs, sites_of}
use Rattle.sweep.proofs.ScanLaws.{best_k_perm, beyond_under, taken_best}
use Rattle.sweep.proofs.ProductLaws.{product_nil, product_cons, product_nil_right, product_append_left, product_append_right, mem_product}
use Rattle.halves.specs.Gap.{squared_strip_gap}
use Rattle.halves.specs.Halves.{Visited, visited, halves_over, halves_from, halves}
use Rattle.halves.proofs.VisitLaws.{Parts, Closed, halves_hold}

-- A gap of two ranges that is at most the weight of each of their pairs.
pub record Bounding {A B : Type 0} (gap : List A → List B → ℕ) (pair : A → B → Entry) : Type 0 where
  pub under : (p : List A) (q : List B) (a : A) (b : B) → Memᴰ a p → Memᴰ b q → gap p q ≤ (pair a b).distance

module _ {A B : Type 0} {gap : List A → List B → ℕ} {pair : A → B → Entry} (bounding : Bounding gap pair) (counts : Entry → Bool) where
  -- The pairs of two ranges that count.
  abbrev among : List A → List B → List Entry
  among p q = keep counts (product pair p q)

  -- No pair where a range is empty.
  among_none : (p : List A) (q : List B) → (length p ≡ 0) ⊎ (length q ≡ 0) → among p q ≡ []
  among_none [] q h = rw (product_nil pair q) (keep_nil counts)
  among_none (a ∷ p) [] h = rw (product_nil_right pair (a ∷ p)) (keep_nil counts)
  among_none (a ∷ p) (b ∷ q) h = absurd (⊎_elim (λ e. omega arith) (λ e. omega arith) h)

  -- None is nearer than the gap.
  among_far : (p : List A) (q : List B) → All (λ e. gap p q ≤ e.distance) (among p q)
  among_far p q =
      all_keep counts (λ e. gap p q ≤ e.distance) (product pair p q)
      (mem_all (λ e. gap p q ≤ e.distance) (product pair p q)
      (λ e m. let w = mem_product pair p q m in rw w.4 (bounding.under p q w.0 w.1 w.2 w.3)))

  among_single : (a : A) (b : B) → among (a ∷ []) (b ∷ []) ≡ keep counts (pair a b ∷ [])
  among_single a b = rw (product_cons pair a [] (b ∷ []), product_nil pair (b ∷ [])) refl

  -- Those of both parts of a range.
  among_first : (p x y : List A) (q : List B) → Parts p x y → Permᴰ (among x q ++ among y q) (among p q)
  among_first p x y q parts =
      ⊎_elim
      (λ e. perm_eq (rw e (sym (ap (keep counts) (product_append_left pair x y q) ∙ keep_append counts (product pair x q) (product pair y q)))))
      (λ e.
      Permᴰ.trans (Permᴰ.append_comm (among x q) (among y q))
      (perm_eq (rw e (sym (ap (keep counts) (product_append_left pair y x q) ∙ keep_append counts (product pair y q) (product pair x q))))))
      parts.either

  among_second : (p : List A) (q x y : List B) → Parts q x y → Permᴰ (among p x ++ among p y) (among p q)
  among_second p q x y parts =
      ⊎_elim
      (λ e. rw e (joined x y))
      (λ e. rw e (Permᴰ.trans (Permᴰ.append_comm (among p x) (among p y)) (joined y x)))
      parts.either
    where
      joined : (u v : List B) → Permᴰ (among p u ++ among p v) (among p (u ++ v))
      joined u v =
          Permᴰ.trans (perm_eq (sym (keep_append counts (product pair p u) (product pair p v))))
          (perm_keep counts (Permᴰ.symm (product_append_right pair p u v)))

  module _ (k : ℕ) where
    -- From the best K of any pairs on, the list becomes the best K of them and those of `found`.
    record Finds (found before after : List Entry) : Type 0 where
      best : (m : List Entry) → before ≡ best_k k m → after ≡ best_k k (m ++ found)

    -- Some pairs and then others.
    finds_both : {c d l before between after : List Entry} → Permᴰ (c ++ d) l → Finds c before between → Finds d between after
        → Finds l before after
    finds_both {c} {d} perm f g = record {
      best = λ m e.
          g.best (m ++ c) (f.best m e) ∙ ap (best_k k) (append_assoc m c d) ∙ best_k_perm k (Permᴰ.append_left m perm);
    }

    finds : Closed gap pair counts k (λ p q s r. Finds (among p q) s.entries r.entries)
    finds = record {
      none = λ p q s h. record { best = λ m e. rw (among_none p q h, append-nil) e };
      dropped = λ p q s some others t.
          record { best = λ m e. e ∙ sym (beyond_under k (gap p q) m (among p q) (rw e at t) (among_far p q)) };
      single = λ a b s. record { best = λ m e. rw (e, among_single a b) (taken_best counts k m (pair a b)) };
      first = λ p x y q s t u parts some f g. finds_both (among_first p x y q parts) f g;
      second = λ p q x y s t u some parts f g. finds_both (among_second p q x y parts) f g;
    }

    pub halves_over_best : (p : List A) (q : List B) (s : Visited) (m : List Entry) → s.entries ≡ best_k k m
        → (halves_over gap pair counts k p q s).entries ≡ best_k k (m ++ keep counts (product pair p q))
    halves_over_best p q s m e = (halves_hold gap pair counts k _ finds p q s).best m e

-- The gap of two ranges' boxes bounds the squared distance of each of their pairs.
box_bounding : Bounding squared_strip_gap pair
unfolding squared_strip_gap pair
box_bounding = record {
  under = λ p q a b m n. box_gap_under (sites_of p) (sites_of q) (Memᴰ.map (λ s. s.site) m) (Memᴰ.map (λ s. s.site) n);
}

-- Over two strips.
pub halves_best : (k : ℕ) (p q : List Placed) (l m : List Entry) → l ≡ best_k k m
    → (halves k p q l).entries ≡ best_k k (m ++ pairs p q)
unfolding halves halves_from pairs
halves_best k p q l m e = halves_over_best box_bounding apart k p q (visited l 0) m e

-- No pair of two strips is nearer than their gap.
pub pairs_far : (p q : List Placed) → All (λ e. squared_strip_gap p q ≤ e.distance) (pairs p q)
unfolding pairs
pairs_far p q = among_far box_bounding apart p q
