-- Laws of rank, and of an entry taking its place.
use mathlib.Core.Path.{◌≡◌, ap, ◌∙◌}
use mathlib.Core.Bool.{true, false, and-eq-true_iff}
use mathlib.Core.List.{List}
use Prim.Native.Nat.{ℕ, zero, suc, ◌≤◌, ◌<◌}
use native.Mathlib.Omega.{arith}
use lib.Dec.{leb}
use lib.ListN.{length, get_or}
use borrow.Author.Tests.{lt-ltb, le-ltb, leb-true, le-leb}
use Rattle.order.specs.Terms.{Sorted}
use Rattle.order.proofs.Order.{StrictOrder, strict, by_number_lem, lex_order, lex_more}
use Rattle.order.specs.Lists.{last}
use Rattle.order.proofs.Lists.{last_map, last_at}
use Rattle.order.proofs.Sorted.{take_insert_full, last_weak}
use Rattle.entry.specs.declared.Entry.{Entry}
use Rattle.entry.specs.Entry.{entry, rank_before, k_up_to, lawful_k, offer, last_distance}

same_entry_lem : (a b : Entry) → (a.distance ≡ b.distance) × ((a.first ≡ b.first) × (a.second ≡ b.second)) → a ≡ b
same_entry_lem a b h = λ i. record { distance = h.0 i; first = h.1.0 i; second = h.1.1 i }

-- No two entries tie.
pub rank_order : StrictOrder rank_before
unfolding rank_before
rank_order =
    strict (lex_order (by_number_lem (λ e. e.distance)) (lex_order (by_number_lem (λ e. e.first))
    (by_number_lem (λ e. e.second)))) same_entry_lem

-- A K from 1 to a greatest one, by its limits.
pub k_between : (most k : ℕ) → k_up_to most k ≡ true → (0 < k) × (k ≤ most)
k_between most k h =
    let both = (and-eq-true_iff (leb 1 k) (leb k most)).0 h in
    (leb-true 1 k both.0, leb-true k most both.1)

pub k_limits : (k : ℕ) → lawful_k k ≡ true → (0 < k) × (k ≤ 4_096)
unfolding lawful_k
k_limits k h = k_between 4_096 k h

-- A K from 1 to a lawful one.
pub lawful_lower : (present k : ℕ) → lawful_k present ≡ true → 1 ≤ k → k ≤ present → lawful_k k ≡ true
unfolding lawful_k
lawful_lower present k h low most =
    let limit = (k_limits present h).1 in
    simp (le-leb 1 k low, le-leb k 4_096 (omega arith))

-- One that is farther does not come first.
pub rank_farther : (a b : Entry) → b.distance < a.distance → rank_before a b ≡ false
unfolding rank_before
rank_farther a b h =
    lex_more _ _ a b (le-ltb a.distance b.distance (omega arith)) (lt-ltb b.distance a.distance h)

-- ---- offering

-- The last squared distance, by place.
pub last_distance_lem : (l : List Entry) (j : ℕ) (d : Entry) → length l ≡ suc j → last_distance l ≡ (get_or l j d).distance
unfolding last_distance
last_distance_lem l j d n =
    last_map (λ e. e.distance) (entry 0 0 0) l ∙ ap (λ e. e.distance) (last_at (entry 0 0 0) d l j n)

-- A pair that does not come before the last entry does not enter a full list.
pub offer_weak : (k : ℕ) (e : Entry) (l : List Entry) → 0 < k → length l ≡ k → Sorted rank_before l
    → rank_before e (last (entry 0 0 0) l) ≡ false → offer k e l ≡ l
unfolding offer
offer_weak zero e l some n h weak = absurd (omega arith)
offer_weak (suc j) e l some n h weak =
    take_insert_full rank_order (suc j) e l n h
    (last_weak rank_order e l j e n h (rw (last_at (entry 0 0 0) e l j n) at weak))

-- Nor does one past the last squared distance.
pub offer_past : (k : ℕ) (e : Entry) (l : List Entry) → 0 < k → length l ≡ k → Sorted rank_before l
    → last_distance l < e.distance
    → offer k e l ≡ l
unfolding last_distance
offer_past k e l some n h far =
    offer_weak k e l some n h
    (rank_farther e (last (entry 0 0 0) l) (rw (last_map (λ e. e.distance) (entry 0 0 0) l) at far))
