-- The laws of equal heights: column by column, either way round, and how many there can be.
use mathlib.Core.Path.{◌≡◌, refl, ap, sym, ◌∙◌}
use mathlib.Core.Bool.{cond}
use mathlib.Core.List.{List, [], ◌∷◌, ◌++◌}
use Prim.Native.Nat.{ℕ, ◌+◌, ◌*◌, ◌≤◌, ◌<◌, min}
use native.Mathlib.Nat.{mul-le-mul, suc-mul, zero-mul}
use native.Mathlib.Numerals.{add-one}
use native.Mathlib.Omega.{arith}
use borrow.Author.Tests.{eq-eqb, ne_eqb, eqb-true, eqb-false}
use lib.Dec.{eqb}
use lib.IntN.{ℤ}
use lib.ListN.{length, take, get_or, length-append, length-take}
use lib.Seq.{take-suc}
use Rattle.site.specs.Site.{gap}
use Rattle.order.proofs.Order.{by_test}
use Rattle.order.proofs.Lists.{keep_nil, keep_yes, keep_no, keep_append, length_keep}
use Rattle.site.proofs.Distance.{gap_sym, gap_same, gap_none}
use Rattle.heights.specs.Heights.{occurrences, equal_pairs}
use Rattle.heights.specs.Internal.{equal}

-- ---- two heights

pub equal_same : (a b : ℤ) → a ≡ b → equal a b ≡ 1
unfolding equal
equal_same a b e = rw (eq-eqb (gap a b) 0 (ap (gap a) (sym e) ∙ gap_same a))

pub equal_other : (a b : ℤ) → (a ≡ b → ⊥) → equal a b ≡ 0
unfolding equal
equal_other a b n = rw (ne_eqb (gap a b) 0 (λ z. n (gap_none a b z)))

pub equal_sym : (a b : ℤ) → equal a b ≡ equal b a
unfolding equal
equal_sym a b = ap (λ (n : ℕ). cond {A = ℕ} (eqb n 0) 1 0) (gap_sym a b)

-- ---- how often a height stands in a column

module _ (h : ℤ) where
  pub occurrences_nil : occurrences h [] ≡ 0
  unfolding occurrences
  occurrences_nil = rw (keep_nil (λ (k : ℤ). eqb (gap h k) 0))

  pub occurrences_cons : (k : ℤ) (l : List ℤ) → occurrences h (k ∷ l) ≡ equal h k + occurrences h l
  unfolding occurrences equal
  occurrences_cons k l =
      by_test (eqb (gap h k) 0)
      (λ p. rw (keep_yes (λ (x : ℤ). eqb (gap h x) 0) k l p, p) (omega arith))
      (λ p. rw (keep_no (λ (x : ℤ). eqb (gap h x) 0) k l p, p) (omega arith))

  pub occurrences_append : (l m : List ℤ) → occurrences h (l ++ m) ≡ occurrences h l + occurrences h m
  unfolding occurrences
  occurrences_append l m = simp (keep_append, length-append)

  pub occurrences_le : (l : List ℤ) → occurrences h l ≤ length l
  unfolding occurrences
  occurrences_le l = length_keep (λ k. eqb (gap h k) 0) l

  -- In the first of a column.
  pub occurrences_first : (l : List ℤ) (i : ℕ) → occurrences h (take i l) ≤ min i (length l)
  occurrences_first l i = rw length-take at (occurrences_le (take i l))

  pub occurrences_more : (l : List ℤ) (i : ℕ) (d : ℤ) → i < length l
      → occurrences h (take (i + 1) l) ≡ occurrences h (take i l) + equal h (get_or l i d)
  occurrences_more l i d lt =
      rw (add-one, take-suc l i d)
      (omega (arith, occurrences_append (take i l) (get_or l i d ∷ []), occurrences_cons (get_or l i d) [], occurrences_nil))

-- ---- the equal pairs of two columns

pub equal_pairs_nil : (m : List ℤ) → equal_pairs [] m ≡ 0
unfolding equal_pairs
equal_pairs_nil m = refl

pub equal_pairs_append : (l r m : List ℤ) → equal_pairs (l ++ r) m ≡ equal_pairs l m + equal_pairs r m
unfolding equal_pairs
equal_pairs_append [] r m = omega arith
equal_pairs_append (h ∷ l) r m = omega (arith, equal_pairs_append l r m)

pub equal_pairs_more : (l m : List ℤ) (i : ℕ) (d : ℤ) → i < length l
    → equal_pairs (take (i + 1) l) m ≡ equal_pairs (take i l) m + occurrences (get_or l i d) m
unfolding equal_pairs
equal_pairs_more l m i d lt =
    rw (add-one, take-suc l i d) (omega (arith, equal_pairs_append (take i l) (get_or l i d ∷ []) m))

-- At most all pairs.
pub equal_pairs_le : (l m : List ℤ) → equal_pairs l m ≤ length l * length m
unfolding equal_pairs
equal_pairs_le [] m = omega arith
equal_pairs_le (h ∷ l) m = omega (arith, occurrences_le h m, equal_pairs_le l m, suc-mul (length l) (length m))

pub equal_pairs_first : (l m : List ℤ) (i : ℕ) → length l ≤ 65_535 → length m ≤ 65_535 → equal_pairs (take i l) m ≤ 4_294_836_225
equal_pairs_first l m i h k =
    let g : length (take i l) ≤ 65_535 = omega (arith, length-take i l) in
    omega (arith, equal_pairs_le (take i l) m, mul-le-mul g k)

-- Either way round.
equal_pairs_none : (l : List ℤ) → equal_pairs l [] ≡ 0
unfolding equal_pairs
equal_pairs_none [] = refl
equal_pairs_none (h ∷ l) = omega (arith, occurrences_nil h, equal_pairs_none l)

equal_pairs_next : (k : ℤ) (l m : List ℤ) → equal_pairs l (k ∷ m) ≡ occurrences k l + equal_pairs l m
unfolding equal_pairs
equal_pairs_next k [] m = omega (arith, occurrences_nil k)
equal_pairs_next k (h ∷ l) m =
    omega (arith, occurrences_cons h k m, occurrences_cons k h l, equal_sym h k, equal_pairs_next k l m)

pub equal_pairs_sym : (l m : List ℤ) → equal_pairs l m ≡ equal_pairs m l
unfolding equal_pairs
equal_pairs_sym [] m = sym (equal_pairs_none m)
equal_pairs_sym (h ∷ l) m = omega (arith, equal_pairs_sym l m, equal_pairs_next h m l)

-- ---- a column of one height

pub one_height : (h : ℤ) (l m : List ℤ) → occurrences h l ≡ length l → equal_pairs l m ≡ length l * occurrences h m
unfolding equal_pairs
one_height h [] m e = sym (zero-mul (occurrences h m))
one_height h (k ∷ l) m e =
    let cons = occurrences_cons h k l in
    let most = occurrences_le h l in
    by_test (eqb (gap h k) 0)
    (λ t.
    let same : h ≡ k = gap_none h k (eqb-true (gap h k) 0 t) in
    let rest : occurrences h l ≡ length l = omega (arith, equal_same h k same) in
    let here : occurrences k m ≡ occurrences h m = ap (λ (z : ℤ). occurrences z m) (sym same) in
    omega (arith, one_height h l m rest, suc-mul (length l) (occurrences h m)))
    (λ f. absurd (omega (arith, equal_other h k (λ s. eqb-false (gap h k) 0 f (ap (gap h) (sym s) ∙ gap_same h)))))
