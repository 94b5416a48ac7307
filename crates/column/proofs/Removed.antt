-- Laws of a column out of which one element is taken, for any element.
use mathlib.Core.Path.{◌≡◌}
use mathlib.Core.List.{List, ◌++◌}
use Prim.Native.Nat.{ℕ, zero, suc, ◌+◌, ◌-◌, ◌≤◌, ◌<◌}
use native.Mathlib.Nat.{zero-add}
use native.Mathlib.Numerals.{add-one}
use native.Mathlib.Omega.{arith}
use lib.ListN.{length, take, drop, get_or, set, length-take, length-drop}
use lib.Seq.{take_all, take-take, drop-drop}
use Rattle.order.proofs.Lists.{drop_take}
use Rattle.order.proofs.Places.{without}
use Rattle.column.specs.Column.{removed}
use Rattle.column.proofs.Stored.{stored_length, stored_part, take_stored}
use Rattle.column.proofs.Moved.{Moved, moved_none, moved_down}

-- ---- from the start of a column

-- The elements behind the first one, `i` of those before place `n`, are moved down by one.
pub record ShiftedDown {A : Type 0} (c : List A) (n i : ℕ) (column : List A) : Type 0 where
  pub to : i ≤ n - 1
  pub moved : Moved c 0 1 i column

module _ {A : Type 0} (c : List A) (n : ℕ) where
  pub shifted_down_none : ShiftedDown c n 0 c
  shifted_down_none = record { to = omega arith; moved = moved_none c 0 1 (omega arith) }

  -- `v` is the element at place `i`, as it was read.
  pub shifted_down_more : (d : A) (i : ℕ) (column : List A) {v : A} → 1 ≤ i → i < n → n ≤ length c → v ≡ get_or column i d
      → ShiftedDown c n (i - 1) column → ShiftedDown c n (i + 1 - 1) (set column (i - 1) v)
  shifted_down_more d zero column first inside long read r = absurd (omega arith)
  shifted_down_more d (suc i) column first inside long read r =
      let one : suc i - 1 ≡ i = omega arith in
      let next : suc i + 1 - 1 ≡ suc i = omega arith in
      let behind : suc i ≡ 1 + i = omega arith in
      let before = rw one at r.moved in
      rw (next, one) (record {
        to = omega arith;
        moved = rw zero-add at (moved_down c 0 1 i column d (omega arith) (omega arith) before (rw behind at read));
      })

  pub shifted_down_all : (i : ℕ) (column : List A) → n ≤ i → ShiftedDown c n (i - 1) column → column ≡ removed 0 n c
  unfolding removed
  shifted_down_all i column h r =
      let last : i - 1 ≡ n - 1 = omega (arith, r.to) in
      rw last at r.moved.holds

-- ---- at any place

module _ {A : Type 0} (p n : ℕ) (c : List A) (low : p < n) (inside : n ≤ length c) where
  run_length : length (take (n - (p + 1)) (drop (p + 1) c)) ≡ n - (p + 1)
  run_length = simp (length-take, length-drop) (omega arith)

  pub length_removed : length (removed p n c) ≡ length c
  unfolding removed
  length_removed = stored_length p (take (n - (p + 1)) (drop (p + 1) c)) c (omega (arith, run_length))

  -- The first elements, without the one that was taken out.
  pub removed_in_use : take (n - 1) (removed p n c) ≡ without p (take n c)
  unfolding removed
  removed_in_use =
      let run = take (n - (p + 1)) (drop (p + 1) c) in
      let ends : n - 1 ≡ p + length run = omega (arith, run_length) in
      rw (ends, take-take p n c (omega arith), ← add-one p, drop_take (p + 1) n c) (take_stored p run c (omega (arith, run_length)))

  -- The first element of the part from the place on, taken out of the part, is taken out at the place.
  pub removed_part : (part : List A) → part ≡ removed 0 (n - p) (take (length c - p) (drop p c))
      → take p c ++ (part ++ drop (length c - p) (drop p c)) ≡ removed p n c
  unfolding removed
  removed_part part is =
      let all : length (drop p c) ≤ length c - p = rw length-drop (omega arith) in
      let same : (n - p) - 1 ≡ n - (p + 1) = omega arith in
      let run : take ((n - p) - 1) (drop 1 (take (length c - p) (drop p c))) ≡ take (n - (p + 1)) (drop (p + 1) c) =
      rw (same, take_all (length c - p) (drop p c) all, drop-drop 1 p c) in
      rw (is, run) (stored_part p (take (n - (p + 1)) (drop (p + 1) c)) c (omega (arith, run_length)))
