-- The laws of the table of heights: a slot for each, and the counts in them.
use mathlib.Core.Path.{◌≡◌, refl, ap, sym, ◌∙◌}
use mathlib.Core.Bool.{true}
use mathlib.Core.List.{List, []}
use Prim.Native.Nat.{ℕ, ◌+◌, ◌≤◌, ◌<◌}
use native.Mathlib.Omega.{arith}
use borrow.Author.Tests.{eqb-true, eqb-false}
use lib.Dec.{eqb}
use lib.IntN.{ℤ, pos, negsuc}
use lib.Signed.{le_z}
use lib.ListN.{length, take, get_or, set, replicate, length-set, length-replicate, get_or-replicate}
use lib.Seq.{get_or-set_same, get_or-set_other}
use Rattle.order.specs.Lists.{all}
use Rattle.site.specs.Site.{between, height_within, gap}
use Rattle.order.proofs.Order.{by_test}
use Rattle.order.proofs.Lists.{all_at, all_holds}
use Rattle.site.proofs.Tests.{and_first}
use Rattle.site.proofs.Integers.{up, down, sides_le, le_lt_not, lt_total, size_down}
use Rattle.site.proofs.Distance.{height_gap_within}
use Rattle.heights.specs.Heights.{occurrences}
use Rattle.heights.specs.Internal.{equal, slot_of, Tallied}
use Rattle.heights.proofs.Heights.{equal_same, equal_other, occurrences_nil, occurrences_more}

-- A height of a column inside the limits.
pub height_at : (l : List ℤ) (i : ℕ) (d : ℤ) → i < length l → all height_within l ≡ true → height_within (get_or l i d) ≡ true
height_at l i d lt h = all_at (λ k. height_within k ≡ true) l i d lt (all_holds height_within l h)

-- ---- slots

above_lowest : (h : ℤ) → height_within h ≡ true → le_z (negsuc 9_999) h ≡ true
unfolding height_within between
above_lowest h p = and_first (le_z (negsuc 9_999) h) (le_z h (pos 10_000)) p

-- A slot by the sides of its height.
slot_sides : (h : ℤ) → height_within h ≡ true → slot_of h + down h ≡ up h + 10_000
unfolding slot_of gap up down
slot_sides h p = omega (arith, size_down h (negsuc 9_999) (above_lowest h p))

-- There is a slot for each height,
pub slot_le : (h : ℤ) → height_within h ≡ true → slot_of h ≤ 20_000
unfolding slot_of height_within between
slot_le h p = height_gap_within h (negsuc 9_999) p refl

-- and no two heights have the same.
pub slot_apart : (h k : ℤ) → height_within h ≡ true → height_within k ≡ true → slot_of h ≡ slot_of k → h ≡ k
slot_apart h k p q e =
    let s = slot_sides h p in
    let t = slot_sides k q in
    lt_total h k (le_lt_not k h (sides_le k h (omega arith))) (le_lt_not h k (sides_le h k (omega arith)))

-- ---- the table of a column

pub tallied_nil : Tallied [] (replicate 20_001 0)
tallied_nil = record {
  size = length-replicate {A = ℕ} 20_001 0;
  count = λ h p. get_or-replicate {A = ℕ} 20_001 (slot_of h) 0 0 (omega (arith, slot_le h p)) ∙ sym (occurrences_nil h);
}

-- One height more, at its slot.
count_more : (counts : List ℕ) (h k : ℤ) (n : ℕ) → height_within h ≡ true → height_within k ≡ true → slot_of k < length counts
    → get_or counts (slot_of h) 0 ≡ n → get_or (set counts (slot_of k) (get_or counts (slot_of k) 0 + 1)) (slot_of h) 0 ≡ n + equal h k
count_more counts h k n p q room e =
    by_test (eqb (slot_of h) (slot_of k))
    (λ t.
    let s = eqb-true (slot_of h) (slot_of k) t in
    rw s (omega (arith, get_or-set_same counts (slot_of k) (get_or counts (slot_of k) 0 + 1) 0 room, rw s at e, equal_same h k (slot_apart h k p q s))))
    (λ f.
    omega (
      arith,
      get_or-set_other counts (slot_of k) (slot_of h) (get_or counts (slot_of k) 0 + 1) 0 (eqb-false (slot_of h) (slot_of k) f),
      equal_other h k (λ s. eqb-false (slot_of h) (slot_of k) f (ap slot_of s)),
    ))

-- What is read at a height's slot.
pub tallied_at : {l : List ℤ} {counts : List ℕ} {at : ℕ} (h : ℤ) → Tallied l counts → height_within h ≡ true → at ≡ slot_of h
    → get_or counts at 0 ≡ occurrences h l
tallied_at h t p e = rw e (t.count h p)

pub tallied_more : (l : List ℤ) (counts : List ℕ) (i at : ℕ) (d : ℤ) → i < length l → height_within (get_or l i d) ≡ true
    → at ≡ slot_of (get_or l i d) → Tallied (take i l) counts → Tallied (take (i + 1) l) (set counts at (get_or counts at 0 + 1))
tallied_more l counts i at d lt q e t =
    let k = get_or l i d in
    let room : slot_of k < length counts = omega (arith, slot_le k q, t.size) in
    rw e record {
      size = length-set counts (slot_of k) (get_or counts (slot_of k) 0 + 1) ∙ t.size;
      count = λ h p.
          count_more counts h k (occurrences h (take i l)) p q room (t.count h p) ∙ sym (occurrences_more h l i d lt);
    }
