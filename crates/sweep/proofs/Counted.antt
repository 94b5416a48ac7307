-- The counters of a sweep: they never go back, no distance is worked out without a look, and there is at most a look for each pair.
use mathlib.Core.Bool.{Bool}
use mathlib.Core.List.{List, [], ◌∷◌, map}
use Prim.Native.Nat.{ℕ, suc, ◌+◌, ◌*◌, ◌≤◌, ◌<◌, ◌^◌}
use native.Mathlib.Nat.{suc-mul, mul-suc, mul-le-mul, mul-le-mul_left, mul-le-mul_right, zero-mul, mul-zero}
use native.Mathlib.Omega.{arith}
use lib.ListN.{length, take, length-map, length-take}
use Rattle.order.proofs.Order.{by_test}
use Rattle.entry.specs.declared.Entry.{Entry}
use Rattle.entry.specs.Entry.{apart}
use Rattle.sweep.specs.declared.Way.{Way}
use Rattle.sweep.specs.declared.Way.TheVariants.{Classic, ReverseRun}
use Rattle.sweep.specs.Strip.{Placed}
use Rattle.sweep.specs.Scan.{Candidate, State, state, beyond, look_at, scan}
use Rattle.sweep.specs.Sweep.{classic_over, reverse_over, leads, look, sweep}
use Rattle.sweep.proofs.ScanLaws.{scan_nil, scan_stop, scan_on}

-- From state `s` to state `t` with at most `n` looks.
pub record Counted (n : ℕ) (s t : State) : Type 0 where
  pub looks_from : s.looks ≤ t.looks
  pub looks_to : t.looks ≤ s.looks + n
  pub distances_from : s.distances ≤ t.distances
  pub distances_to : t.distances + s.looks ≤ t.looks + s.distances

counted_none : (s : State) → Counted 0 s s
counted_none s = omega arith

counted_more : {n : ℕ} (m : ℕ) {s t : State} → n ≤ m → Counted n s t → Counted m s t
counted_more m h c = omega arith

counted_then : {n m : ℕ} {s t r : State} → Counted n s t → Counted m t r → Counted (n + m) s r
counted_then c d = omega arith

module _ (counts : Entry → Bool) (k : ℕ) where
  counted_look : (c : Candidate) (s : State) → Counted 1 s (look_at counts k c s)
  counted_look c s = by_test (beyond k s.entries c.gap) (λ t. rw t (omega arith)) (λ f. rw f (omega arith))

  pub scan_counted : (l : List Candidate) (s : State) → Counted (length l) s (scan counts k l s).state
  scan_counted [] s = rw (scan_nil counts k s) (counted_none s)
  scan_counted (c ∷ l) s =
      by_test (beyond k s.entries c.gap)
      (λ t. rw (scan_stop counts k c l s t) (counted_more (suc (length l)) (omega arith) (counted_look c s)))
      (λ f. rw (scan_on counts k c l s f)
      (counted_more (suc (length l)) (omega arith) (counted_then (counted_look c s) (scan_counted l (look_at counts k c s)))))

  -- A scan passes no more than there is.
  pub scan_passed : (l : List Candidate) (s : State) → (scan counts k l s).passed ≤ length l
  scan_passed [] s = rw (scan_nil counts k s) (omega arith)
  scan_passed (c ∷ l) s =
      by_test (beyond k s.entries c.gap)
      (λ t. rw (scan_stop counts k c l s t) (omega arith))
      (λ f. rw (scan_on counts k c l s f) (omega (arith, scan_passed l (look_at counts k c s))))

first_fits : (p q u v w : ℕ) → w ≤ v → v + (suc u * q + (p * w + p * q)) ≤ u * q + (suc p * v + suc p * q)
first_fits p q u v w h = omega (arith, suc-mul u q, suc-mul p v, suc-mul p q, mul-le-mul_left p h)

second_fits : (p q u v w : ℕ) → w ≤ u → u + (w * q + (p * suc v + p * q)) ≤ u * suc q + (p * v + p * suc q)
second_fits p q u v w h = omega (arith, mul-suc u q, mul-suc p v, mul-suc p q, mul-le-mul_right q h)

length_part : {A : Type 0} (n : ℕ) (l : List A) → length (take n l) ≤ length l
length_part n l = rw length-take (omega arith)

module _ {A B : Type 0} (leads : A → B → Bool) (look : A → B → Candidate) (counts : Entry → Bool) (k : ℕ) where
  row_counted : (a : A) (q : List B) (s : State) → Counted (length q) s (scan counts k (map (look a) q) s).state
  row_counted a q s = rw length-map at (scan_counted counts k (map (look a) q) s)

  column_counted : (b : B) (p : List A) (s : State) → Counted (length p) s (scan counts k (map (λ c. look c b) p) s).state
  column_counted b p s = rw length-map at (scan_counted counts k (map (λ c. look c b) p) s)

  pub classic_counted : (p : List A) (q : List B) (s : State) → Counted (length p * length q) s (classic_over leads look counts k p q s)
  unfolding classic_over
  classic_counted [] q s = counted_more (0 * length q) (omega arith) (counted_none s)
  classic_counted (a ∷ p) [] s = counted_more (suc (length p) * 0) (omega arith) (counted_none s)
  classic_counted (a ∷ p) (b ∷ q) s =
      by_test (leads a b)
      (λ t. rw t (counted_more (suc (length p) * suc (length q)) (omega (arith, suc-mul (length p) (suc (length q))))
      (counted_then (row_counted a (b ∷ q) s) (classic_counted p (b ∷ q) (scan counts k (map (look a) (b ∷ q)) s).state))))
      (λ f. rw f (counted_more (suc (length p) * suc (length q)) (omega (arith, mul-suc (suc (length p)) (length q)))
      (counted_then (column_counted b (a ∷ p) s) (classic_counted (a ∷ p) q (scan counts k (map (λ c. look c b) (a ∷ p)) s).state))))

  -- The pairs still to come: of the sites taken with those to come, and of those to come.
  abbrev pub to_look : List A → List B → List A → List B → ℕ
  to_look p q u v = length u * length q + (length p * length v + length p * length q)

  pub reverse_counted : (p : List A) (q : List B) (u : List A) (v : List B) (s : State) → Counted (to_look p q u v) s (reverse_over leads look counts k p q u v s)
  unfolding reverse_over
  reverse_counted [] [] u v s = counted_more (to_look [] [] u v) (omega arith) (counted_none s)
  reverse_counted [] (b ∷ q) u v s =
      let r = scan counts k (map (λ c. look c b) u) s in
      counted_more (to_look [] (b ∷ q) u v)
      (second_fits 0 (length q) (length u) (length v) (length (take r.passed u)) (length_part r.passed u))
      (counted_then (column_counted b u s) (reverse_counted [] q (take r.passed u) (b ∷ v) r.state))
  reverse_counted (a ∷ p) [] u v s =
      let r = scan counts k (map (look a) v) s in
      counted_more (to_look (a ∷ p) [] u v)
      (first_fits (length p) 0 (length u) (length v) (length (take r.passed v)) (length_part r.passed v))
      (counted_then (row_counted a v s) (reverse_counted p [] (a ∷ u) (take r.passed v) r.state))
  reverse_counted (a ∷ p) (b ∷ q) u v s =
      by_test (leads a b)
      (λ t. rw t
      (let r = scan counts k (map (look a) v) s in
      counted_more (to_look (a ∷ p) (b ∷ q) u v)
      (first_fits (length p) (suc (length q)) (length u) (length v) (length (take r.passed v)) (length_part r.passed v))
      (counted_then (row_counted a v s) (reverse_counted p (b ∷ q) (a ∷ u) (take r.passed v) r.state))))
      (λ f. rw f
      (let r = scan counts k (map (λ c. look c b) u) s in
      counted_more (to_look (a ∷ p) (b ∷ q) u v)
      (second_fits (suc (length p)) (length q) (length u) (length v) (length (take r.passed u)) (length_part r.passed u))
      (counted_then (column_counted b u s) (reverse_counted (a ∷ p) q (take r.passed u) (b ∷ v) r.state))))

  -- Reverse Run from its start.
  pub run_counted : (p : List A) (q : List B) (s : State) → Counted (length p * length q) s (reverse_over leads look counts k p q [] [] s)
  run_counted p q s =
      counted_more (length p * length q) (omega (arith, zero-mul (length q), mul-zero (length p))) (reverse_counted p q [] [] s)

pub sweep_counted : (w : Way) (k : ℕ) (p q : List Placed) (l : List Entry) → Counted (length p * length q) (state l 0 0) (sweep w k p q l)
unfolding sweep
sweep_counted Classic k p q l = classic_counted leads look apart k p q (state l 0 0)
sweep_counted ReverseRun k p q l = run_counted leads look apart k p q (state l 0 0)

-- A sweep makes at most one look for each pair, and works out no distance without a look.
pub sweep_looks_bound : (w : Way) (k : ℕ) (p q : List Placed) (l : List Entry) → (sweep w k p q l).looks ≤ length p * length q
sweep_looks_bound w k p q l = omega (arith, (sweep_counted w k p q l).looks_to)

pub sweep_distances_bound : (w : Way) (k : ℕ) (p q : List Placed) (l : List Entry) → (sweep w k p q l).distances ≤ (sweep w k p q l).looks
sweep_distances_bound w k p q l = omega (arith, (sweep_counted w k p q l).distances_to)

-- Over lists of a lawful length both counters fit 32 bits.
pub sweep_looks_fit : (w : Way) (k : ℕ) (p q : List Placed) (l : List Entry) → length p ≤ 65_535 → length q ≤ 65_535
    → (sweep w k p q l).looks < 2 ^ 32
sweep_looks_fit w k p q l h g = omega (arith, sweep_looks_bound w k p q l, mul-le-mul h g)
