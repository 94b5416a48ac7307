-- A column that holds some values from its start on.
use mathlib.Core.Path.{◌≡◌, sym, ap, ◌∙◌}
use mathlib.Core.List.{List, ◌++◌}
use Prim.Native.Nat.{ℕ, ◌+◌, ◌-◌, ◌≤◌, ◌<◌}
use native.Mathlib.Omega.{arith}
use lib.ListN.{length, take, drop, get_or, set, length-append, length-set, length-drop, take-append-drop, get_or-append}
use lib.Seq.{take-append_seam, drop-append_seam, drop-append-add, drop-drop, drop-set-lt, length-take-le, get_or-append-add, get_or-drop}
use Rattle.column.specs.Column.{overwritten}

module _ {A : Type 0} where
  pub length_overwritten : (values column : List A) → length values ≤ length column → length (overwritten values column) ≡ length column
  unfolding overwritten
  length_overwritten v c h = rw (length-append, length-drop) (omega arith)

  pub take_overwritten : (values column : List A) → take (length values) (overwritten values column) ≡ values
  unfolding overwritten
  take_overwritten v c = take-append_seam v (drop (length v) c)

  pub drop_overwritten : (values column : List A) → drop (length values) (overwritten values column) ≡ drop (length values) column
  unfolding overwritten
  drop_overwritten v c = drop-append_seam v (drop (length v) c)

  pub get_d_overwritten : (values column : List A) (i : ℕ) (d : A) → i < length values
      → get_or (overwritten values column) i d ≡ get_or values i d
  unfolding overwritten
  get_d_overwritten v c i d h = get_or-append v (drop (length v) c) d i h

  pub get_d_overwritten_past : (values column : List A) (i : ℕ) (d : A) → length values ≤ i
      → get_or (overwritten values column) i d ≡ get_or column i d
  unfolding overwritten
  get_d_overwritten_past v c i d h =
      let e : length v + (i - length v) ≡ i = omega arith in
      rw e at (get_or-append-add v (drop (length v) c) (i - length v) d ∙ get_or-drop (length v) c (i - length v) d)

  -- Written again, at least as far.
  pub overwritten_again : (v w c : List A) → length v ≤ length w → overwritten w (overwritten v c) ≡ overwritten w c
  unfolding overwritten
  overwritten_again v w c h =
      let split : length w ≡ length v + (length w - length v) = omega arith in
      ap (λ (r : List A). w ++ r)
      (ap (λ (n : ℕ). drop n (v ++ drop (length v) c)) split
      ∙ drop-append-add v (drop (length v) c) (length w - length v)
      ∙ drop-drop (length w - length v) (length v) c
      ∙ ap (λ (n : ℕ). drop n c) (sym split))

  -- Its own first elements written: nothing changes.
  pub overwritten_self : (n : ℕ) (c : List A) → n ≤ length c → overwritten (take n c) c ≡ c
  unfolding overwritten
  overwritten_self n c h = rw (length-take-le n c h) (take-append-drop n c)

  -- A place of the first `n` set: those first elements written.
  pub overwritten_set : (n : ℕ) (c : List A) (i : ℕ) (a : A) → i < n → n ≤ length c → overwritten (take n (set c i a)) c ≡ set c i a
  unfolding overwritten
  overwritten_set n c i a h g =
      let m : n ≤ length (set c i a) = rw length-set g in
      rw (length-take-le n (set c i a) m, ← drop-set-lt n c i a h) (take-append-drop n (set c i a))
