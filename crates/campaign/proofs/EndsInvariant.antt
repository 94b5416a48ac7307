-- Cut ends taken one at a time: the test of them, the strip that holds a place, and the slots.
use mathlib.Core.Path.{◌≡◌, refl, ap, ◌∙◌}
use mathlib.Core.Bool.{Bool, true, false, ◌&&◌}
use mathlib.Core.List.{List, [], ◌∷◌}
use Prim.Native.Nat.{ℕ, suc, ◌+◌, ◌≤◌, ◌<◌}
use native.Mathlib.Numerals.{add-one}
use native.Mathlib.Omega.{arith}
use lib.Dec.{leb, ltb, eqb}
use lib.Pointwise.{pointwise}
use lib.ListN.{length, get_or, take, drop, drop_of_length-le}
use lib.Seq.{drop-cons}
use borrow.Author.Tests.{lt-ltb, le-ltb, le-leb, lt-leb, eq-eqb}
use Rattle.order.specs.Order.{ascending}
use Rattle.order.specs.Lists.{keep, last as ending}
use Rattle.order.proofs.Lists.{keep_nil, keep_yes, keep_no}
use Rattle.campaign.specs.Grid.{lawful_ends, same_numbers, same_ends, strip_holding}
use Rattle.campaign.specs.Calls.{slots}

-- ---- lawful ends

-- `last` is the end before place `i`: what the rest of the ends tells is what all tell.
pub record Tested (ends : List ℕ) (last i : ℕ) : Type 0 where
  pub order : ascending ltb (0 ∷ ends) ≡ ascending ltb (last ∷ drop i ends)
  pub end : ending 0 ends ≡ ending last (drop i ends)

pub tested_none : (ends : List ℕ) → Tested ends 0 0
tested_none ends = record { order = refl; end = refl }

ascending_on : (a b : ℕ) (l : List ℕ) → a < b → ascending ltb (a ∷ (b ∷ l)) ≡ ascending ltb (b ∷ l)
unfolding ascending
ascending_on a b l h = rw (lt-ltb a b h)

ascending_off : (a b : ℕ) (l : List ℕ) → b ≤ a → ascending ltb (a ∷ (b ∷ l)) ≡ false
unfolding ascending
ascending_off a b l h = rw (le-ltb a b h)

module _ (ends : List ℕ) (last i : ℕ) (inside : i < length ends) (w : Tested ends last i) where
  rest : drop i ends ≡ get_or ends i 0 ∷ drop (suc i) ends
  rest = drop-cons ends i 0 inside

  pub tested_more : last < get_or ends i 0 → Tested ends (get_or ends i 0) (i + 1)
  unfolding ending
  tested_more h = record {
    order = w.order ∙ rw (rest, add-one) (ascending_on last (get_or ends i 0) (drop (suc i) ends) h);
    end = w.end ∙ rw (rest, add-one);
  }

  pub tested_falls : (n : ℕ) → length ends ≤ 32 → get_or ends i 0 ≤ last → false ≡ lawful_ends n ends
  unfolding lawful_ends
  tested_falls n s h =
      let off : ascending ltb (0 ∷ ends) ≡ false = w.order ∙ rw rest (ascending_off last (get_or ends i 0) (drop (suc i) ends) h) in
      simp (le-leb (length ends) 32 s, off)

one : (a : ℕ) → ascending ltb (a ∷ []) ≡ true
unfolding ascending
one a = refl

pub tested_all : (n : ℕ) (ends : List ℕ) (last i : ℕ) → length ends ≤ i → length ends ≤ 32 → Tested ends last i → eqb last n ≡ lawful_ends n ends
unfolding lawful_ends ending
tested_all n ends last i h s w =
    let none : drop i ends ≡ [] = drop_of_length-le ends h in
    let order : ascending ltb (0 ∷ ends) ≡ true = w.order ∙ rw none (one last) in
    let end : ending 0 ends ≡ last = w.end ∙ rw none in
    simp (le-leb (length ends) 32 s, order, end)

pub too_many : (n : ℕ) (ends : List ℕ) → 32 < length ends → false ≡ lawful_ends n ends
unfolding lawful_ends
too_many n ends h = simp (lt-leb (length ends) 32 h)

-- ---- the ends of a grid

same_pointwise : (l m : List ℕ) → pointwise eqb l m ≡ same_numbers l m
unfolding same_numbers
same_pointwise [] [] = refl
same_pointwise [] (y ∷ m) = refl
same_pointwise (x ∷ l) [] = refl
same_pointwise (x ∷ l) (y ∷ m) = ap (◌&&◌ (eqb x y)) (same_pointwise l m)

-- As many slots are in use as there are ends: these slots decide.
pub slots_same : (used : ℕ) (slots ends : List ℕ) → used ≡ length ends → {r : Bool}
    → r ≡ pointwise eqb (take (length ends) slots) ends → r ≡ same_ends used slots ends
unfolding same_ends
slots_same used slots ends count is = is ∙ rw (count, eq-eqb (length ends) (length ends) refl) (same_pointwise (take (length ends) slots) ends)

-- ---- the strip that holds a place

abbrev at_most : ℕ → ℕ → Bool
at_most place e = leb e place

pub held_none : (ends : List ℕ) (place : ℕ) → 0 + length (keep (λ e. leb e place) (drop 0 ends)) ≡ strip_holding ends place
unfolding strip_holding
held_none ends place = omega arith

module _ (ends : List ℕ) (place before i : ℕ) (inside : i < length ends) where
  rest_of : drop i ends ≡ get_or ends i 0 ∷ drop (suc i) ends
  rest_of = drop-cons ends i 0 inside

  module _ (h : before + length (keep (λ e. leb e place) (drop i ends)) ≡ strip_holding ends place) where
    pub held_one : get_or ends i 0 ≤ place → before + 1 + length (keep (λ e. leb e place) (drop (i + 1) ends)) ≡ strip_holding ends place
    held_one t =
        let k : length (keep (at_most place) (drop i ends)) ≡ suc (length (keep (at_most place) (drop (suc i) ends))) =
        rw (rest_of, keep_yes (at_most place) (get_or ends i 0) (drop (suc i) ends) (le-leb (get_or ends i 0) place t)) refl in
        rw (add-one i) (omega arith)

    pub held_other : place < get_or ends i 0 → before + length (keep (λ e. leb e place) (drop (i + 1) ends)) ≡ strip_holding ends place
    held_other t =
        let k : length (keep (at_most place) (drop i ends)) ≡ length (keep (at_most place) (drop (suc i) ends)) =
        rw (rest_of, keep_no (at_most place) (get_or ends i 0) (drop (suc i) ends) (lt-leb (get_or ends i 0) place t)) refl in
        rw (add-one i) (omega arith)

pub held_all : (ends : List ℕ) (place before i : ℕ) → length ends ≤ i
    → before + length (keep (λ e. leb e place) (drop i ends)) ≡ strip_holding ends place → before ≡ strip_holding ends place
held_all ends place before i h e =
    let none : drop i ends ≡ [] = drop_of_length-le ends h in
    let k : length (keep (at_most place) (drop i ends)) ≡ 0 = rw (none, keep_nil (at_most place)) refl in
    omega arith
