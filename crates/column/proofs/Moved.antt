-- A run of elements that moves inside its column, one element after another: up from its last one on, or down from its first.
use mathlib.Core.Path.{◌≡◌, refl, sym, ap, ◌∙◌}
use mathlib.Core.List.{List, [], ◌∷◌, ◌++◌}
use Prim.Native.Nat.{ℕ, suc, ◌+◌, ◌-◌, ◌≤◌, ◌<◌}
use native.Mathlib.Omega.{arith}
use lib.ListN.{length, take, drop, get_or, set, length-take, length-drop, length-set}
use lib.Seq.{take-suc, drop-cons, get_or-drop}
use Rattle.column.specs.Column.{stored}
use Rattle.column.proofs.Stored.{stored_none, stored_first, stored_last, stored_before, stored_past}

-- `m` elements from place `from` on stand from place `to` on; all others are as they were.
pub record Moved {A : Type 0} (c : List A) (to from m : ℕ) (column : List A) : Type 0 where
  pub enough : m ≤ length c - from
  pub room : to + m ≤ length c
  pub holds : column ≡ stored to (take m (drop from c)) c
  pub long : length column ≡ length c

module _ {A : Type 0} (c : List A) where
  run_length : (from m : ℕ) → m ≤ length c - from → length (take m (drop from c)) ≡ m
  run_length from m h = simp (length-take, length-drop) (omega arith)

  pub moved_none : (to from : ℕ) → to ≤ length c → Moved c to from 0 c
  moved_none to from h = record { enough = omega arith; room = omega arith; holds = sym (stored_none to c); long = refl }

  module _ (to from m : ℕ) (column : List A) where
    -- One element more of a run that moves up: the one before. `v` is the element, as it was read.
    pub moved_up_lem : (d : A) {v : A} → from ≤ to → Moved c (suc to) (suc from) m column → v ≡ get_or column from d
        → Moved c to from (suc m) (set column to v)
    moved_up_lem d {v} up h read =
        let run = take m (drop (suc from) c) in
        let long = run_length (suc from) m h.enough in
        let as_it_was : v ≡ get_or c from d =
        read ∙ ap (λ (l : List A). get_or l from d) h.holds
        ∙ stored_before (suc to) run c (omega (arith, long, h.room)) from d (omega arith) in
        record {
          enough = omega (arith, h.enough, h.room);
          room = omega (arith, h.room);
          holds =
              rw (h.holds, as_it_was, drop-cons c from d (omega (arith, h.enough, h.room)))
              (stored_first to run c (get_or c from d) (omega (arith, h.room)));
          long = length-set column to v ∙ h.long;
        }

    -- One element more of a run that moves down: the one behind.
    pub moved_down : (d : A) {v : A} → to ≤ from → from + m < length c → Moved c to from m column → v ≡ get_or column (from + m) d
        → Moved c to from (suc m) (set column (to + m) v)
    moved_down d {v} down more h read =
        let run = take m (drop from c) in
        let long = run_length from m h.enough in
        let as_it_was : v ≡ get_or c (from + m) d =
        read ∙ ap (λ (l : List A). get_or l (from + m) d) h.holds
        ∙ stored_past to run c (omega (arith, long, h.room)) (from + m) d (omega (arith, long)) in
        let longer : run ++ (get_or c (from + m) d ∷ []) ≡ take (suc m) (drop from c) =
        ap (λ (a : A). run ++ (a ∷ [])) (sym (get_or-drop from c m d)) ∙ sym (take-suc (drop from c) m d (rw length-drop (omega arith))) in
        record {
          enough = omega arith;
          room = omega arith;
          holds =
              ap (λ (a : A). set column (to + m) a) as_it_was
              ∙ ap (λ (l : List A). set l (to + m) (get_or c (from + m) d)) h.holds
              ∙ ap (λ (k : ℕ). set (stored to run c) (to + k) (get_or c (from + m) d)) (sym long)
              ∙ stored_last to run c (get_or c (from + m) d) (omega (arith, long))
              ∙ ap (λ (l : List A). stored to l c) longer;
          long = length-set column (to + m) v ∙ h.long;
        }
