-- Laws of a column into which one value is put, for any element.
use mathlib.Core.Path.{◌≡◌}
use mathlib.Core.List.{List, ◌∷◌, ◌++◌}
use Prim.Native.Nat.{ℕ, zero, suc, ◌+◌, ◌-◌, ◌≤◌, ◌<◌}
use native.Mathlib.Numerals.{add-one}
use native.Mathlib.Omega.{arith}
use lib.ListN.{length, take, drop, get_or, set, length-take, length-drop}
use lib.Seq.{take_all, take-take}
use Rattle.order.proofs.Lists.{drop_take}
use Rattle.order.proofs.Places.{put}
use Rattle.column.specs.Column.{stored, inserted}
use Rattle.column.proofs.Stored.{stored_length, stored_first, stored_part, take_stored}
use Rattle.column.proofs.Moved.{Moved, moved_none, moved_up_lem}

-- ---- at the start of a column

-- The elements from place `i` to `n` are moved up by one.
pub record ShiftedUp {A : Type 0} (c : List A) (n i : ℕ) (column : List A) : Type 0 where
  pub to : i ≤ n
  pub moved : Moved c (suc i) i (n - i) column

module _ {A : Type 0} (c : List A) (n : ℕ) where
  pub shifted_up_none : n < length c → ShiftedUp c n n c
  shifted_up_none room =
      let none : n - n ≡ 0 = omega arith in
      record { to = omega arith; moved = rw none (moved_none c (suc n) n room) }

  pub shifted_up_more : (d : A) (i : ℕ) (column : List A) {v : A} → 0 < i → v ≡ get_or column (i - 1) d → ShiftedUp c n i column
      → ShiftedUp c n (i - 1) (set column (i - 1 + 1) v)
  shifted_up_more d zero column h read r = absurd (omega arith)
  shifted_up_more d (suc i) column {v} h read r =
      let one : suc i - 1 ≡ i = omega arith in
      let more : n - i ≡ suc (n - suc i) = omega (arith, r.to) in
      rw (one, add-one) (record {
        to = omega (arith, r.to);
        moved = rw more (moved_up_lem c (suc i) i (n - suc i) column d (omega arith) r.moved (rw one at read));
      })

  -- `u` is the value, as it was handed over.
  pub shifted_up_all : (i : ℕ) (column : List A) {u v : A} → i ≤ 0 → n < length c → u ≡ v → ShiftedUp c n i column
      → set column 0 u ≡ inserted 0 n v c
  unfolding inserted
  shifted_up_all i column {u} {v} h room read r =
      let first : i ≡ 0 = omega arith in
      let whole : n - 0 ≡ n = omega arith in
      let is : column ≡ stored 1 (take n c) c = rw (first, whole) at r.moved.holds in
      rw (is, read, whole) (stored_first 0 (take n c) c v (omega arith))

-- ---- at any place

module _ {A : Type 0} (p n : ℕ) (c : List A) (low : p ≤ n) (room : n < length c) where
  run_length : length (take (n - p) (drop p c)) ≡ n - p
  run_length = simp (length-take, length-drop) (omega arith)

  pub length_inserted : (v : A) → length (inserted p n v c) ≡ length c
  unfolding inserted
  length_inserted v = stored_length p (v ∷ take (n - p) (drop p c)) c (omega (arith, run_length))

  -- The first elements, with the value among them.
  pub inserted_in_use : (v : A) → take (n + 1) (inserted p n v c) ≡ put p v (take n c)
  unfolding inserted
  inserted_in_use v =
      let run = v ∷ take (n - p) (drop p c) in
      let ends : n + 1 ≡ p + length run = omega (arith, run_length) in
      rw (ends, take-take p n c low, drop_take p n c) (take_stored p run c (omega (arith, run_length)))

  -- A value put at the start of the part from the place on is put in at the place. `u` is the value, as it was handed over.
  pub inserted_part : {u v : A} (part : List A) → u ≡ v → part ≡ inserted 0 (n - p) u (take (length c - p) (drop p c))
      → take p c ++ (part ++ drop (length c - p) (drop p c)) ≡ inserted p n v c
  unfolding inserted
  inserted_part {u} {v} part read is =
      let all : length (drop p c) ≤ length c - p = rw length-drop (omega arith) in
      let same : (n - p) - 0 ≡ n - p = omega arith in
      let run : v ∷ take ((n - p) - 0) (drop 0 (take (length c - p) (drop p c))) ≡ v ∷ take (n - p) (drop p c) =
      rw (same, take_all (length c - p) (drop p c) all) in
      rw (is, read, run) (stored_part p (v ∷ take (n - p) (drop p c)) c (omega (arith, run_length)))
