-- How many range pairs a join by halves visits: one at least, and fewer than twice the pairs of the two ranges.
use mathlib.Core.Path.{ap}
use mathlib.Core.Bool.{Bool}
use mathlib.Core.Logic.{⊎_elim}
use mathlib.Core.List.{List}
use Prim.Native.Nat.{ℕ, ◌+◌, ◌*◌, ◌≤◌, ◌<◌, ◌^◌}
use native.Mathlib.Nat.{add-mul, mul-add, mul-le-mul}
use native.Mathlib.Omega.{arith}
use lib.ListN.{length}
use Rattle.entry.specs.declared.Entry.{Entry}
use Rattle.halves.specs.Halves.{Visited, visited, halves_over}
use Rattle.halves.proofs.VisitLaws.{Closed, halves_hold}

module _ {A B : Type 0} (gap : List A → List B → ℕ) (pair : A → B → Entry) (counts : Entry → Bool) (k : ℕ) where
  -- A join from `n` range pairs on that ends with `m`.
  pub record Counts (p : List A) (q : List B) (n m : ℕ) : Type 0 where
    pub least : n ≤ m
    pub some : 0 < length p → 0 < length q → n < m
    pub most : 0 < length p → 0 < length q → m < n + 2 * (length p * length q)

  counted : Closed gap pair counts k (λ p q s r. Counts p q s.range_pairs r.range_pairs)
  counted = record {
    none = λ p q s h. record {
      least = omega arith;
      some = λ f g. absurd (⊎_elim (λ e. omega arith) (λ e. omega arith) h);
      most = λ f g. absurd (⊎_elim (λ e. omega arith) (λ e. omega arith) h);
    };
    dropped = λ p q s some others t. record { least = omega arith; some = λ f g. omega arith; most = λ f g. let n : 1 * 1 ≤ length p * length q = mul-le-mul some others in omega arith };
    single = λ a b s. record { least = omega arith; some = λ f g. omega arith; most = λ f g. omega arith };
    first = λ p x y q s t u parts some f g. record {
      least = omega (arith, f.least, g.least);
      some = λ h i. omega (arith, f.least, g.least);
      most = λ h i.
          omega (arith, f.most parts.some some, g.most parts.others some, add-mul (length x) (length y) (length q), ap (λ (n : ℕ). n * length q) parts.lengths);
    };
    second = λ p q x y s t u some parts f g. record {
      least = omega (arith, f.least, g.least);
      some = λ h i. omega (arith, f.least, g.least);
      most = λ h i.
          omega (arith, f.most some parts.some, g.most some parts.others, mul-add (length p) (length x) (length y), ap (λ (n : ℕ). length p * n) parts.lengths);
    };
  }

  pub halves_counts : (p : List A) (q : List B) (s : Visited)
      → Counts p q s.range_pairs (halves_over gap pair counts k p q s).range_pairs
  halves_counts p q s = halves_hold gap pair counts k _ counted p q s

  -- Ranges of lawful lists: the count has room.
  pub halves_fit : (p : List A) (q : List B) (l : List Entry) → 0 < length p → 0 < length q → length p ≤ 65_535 → length q ≤ 65_535
      → (halves_over gap pair counts k p q (visited l 0)).range_pairs < 2 ^ 64
  halves_fit p q l some others f g =
      let pairs : length p * length q ≤ 65_535 * 65_535 = mul-le-mul f g in
      omega (arith, (halves_counts p q (visited l 0)).most some others)
