-- Values in a column from a position on: lengths, what stands beside them, and one run of values after another.
use mathlib.Core.Path.{◌≡◌, refl, sym, ap, ◌∙◌}
use mathlib.Core.List.{List, [], ◌∷◌, ◌++◌, append_assoc, append-nil}
use Prim.Native.Nat.{ℕ, suc, ◌+◌, ◌-◌, ◌≤◌, ◌<◌}
use native.Mathlib.Nat.{add-zero, zero-add}
use native.Mathlib.Omega.{arith}
use lib.ListN.{length, take, drop, get_or, set, length-append, length-drop, take-append-drop, drop_of_length-le, get_or-append}
use lib.Seq.{take-suc, append_snoc, set_at, take_all, length-take-le, take_at, drop_at, drop-drop, get_or-take, get_or-drop, sets, sets-eq}
use Rattle.column.specs.Column.{overwritten, stored}

module _ {A : Type 0} where
  -- A store keeps the column's length.
  pub stored_length : (at : ℕ) (v l : List A) → at + length v ≤ length l → length (stored at v l) ≡ length l
  unfolding stored
  stored_length at v l h =
      omega (
        arith,
        length-append (take at l) (v ++ drop (at + length v) l),
        length-append v (drop (at + length v) l),
        length-take-le at l (omega arith),
        length-drop (at + length v) l,
      )

  pub stored_none : (at : ℕ) (l : List A) → stored at [] l ≡ l
  unfolding stored
  stored_none at l = rw add-zero (take-append-drop at l)

  pub stored_start : (v l : List A) → stored 0 v l ≡ overwritten v l
  unfolding stored overwritten
  stored_start v l = rw zero-add refl

  -- Two runs, one after the other, are one run.
  pub stored_after : (at next : ℕ) (v w l : List A) → at + length v ≡ next → next ≤ length l
      → stored next w (stored at v l) ≡ stored at (v ++ w) l
  unfolding stored
  stored_after at next v w l e h =
      let front : length (take at l ++ v) ≡ next =
      omega (arith, length-append (take at l) v, length-take-le at l (omega arith)) in
      let split : take at l ++ (v ++ drop (at + length v) l) ≡ (take at l ++ v) ++ drop next l = rw (e, append_assoc) in
      let ends : next + length w ≡ at + length (v ++ w) = omega (arith, length-append v w) in
      let first : take next (take at l ++ (v ++ drop (at + length v) l)) ≡ take at l ++ v =
      rw split (take_at (take at l ++ v) (drop next l) next front) in
      let rest : drop (next + length w) (take at l ++ (v ++ drop (at + length v) l)) ≡ drop (at + length (v ++ w)) l =
      rw (split, ← drop-drop (length w) next ((take at l ++ v) ++ drop next l), drop_at (take at l ++ v) (drop next l) next front, drop-drop (length w) next l, ends) in
      rw (first, rest, append_assoc, append_assoc)

  -- Stores in a row, as straight code makes them.
  pub sets_stored : (vs l : List A) (at : ℕ) → at + length vs ≤ length l → sets l at vs ≡ stored at vs l
  unfolding stored
  sets_stored vs l at h = sets-eq vs l at h ∙ append_assoc (take at l) vs (drop (at + length vs) l)

  -- One value more, before a run of values or after it.
  -- A column after as many stores from its start on.
  pub sets_over : (v l : List A) (n : ℕ) → length v ≡ n → n ≤ length l → sets l 0 v ≡ v ++ drop n l
  unfolding overwritten
  sets_over v l n e h = rw (← e, sets_stored v l 0 (omega arith)) (stored_start v l)

  pub stored_first : (at : ℕ) (v l : List A) (a : A) → at < length l → set (stored (suc at) v l) at a ≡ stored at (a ∷ v) l
  unfolding stored
  stored_first at v l a h =
      let ends : at + suc (length v) ≡ suc at + length v = omega arith in
      rw (take-suc l at a h, append_snoc (take at l) (get_or l at a) (v ++ drop (suc at + length v) l), ends)
      (set_at (take at l) (get_or l at a) (v ++ drop (suc at + length v) l) a at (length-take-le at l (omega arith)))

  pub stored_last : (at : ℕ) (v l : List A) (a : A) → at + length v < length l
      → set (stored at v l) (at + length v) a ≡ stored at (v ++ (a ∷ [])) l
  stored_last at v l a h =
      sets_stored (a ∷ []) (stored at v l) (at + length v) (rw (stored_length at v l (omega arith)) (omega arith))
      ∙ stored_after at (at + length v) v (a ∷ []) l refl (omega arith)

  pub overwritten_last : (v l : List A) (a : A) → length v < length l
      → set (overwritten v l) (length v) a ≡ overwritten (v ++ (a ∷ [])) l
  overwritten_last v l a h =
      rw (← stored_start v l, ← stored_start (v ++ (a ∷ [])) l) (rw (zero-add (length v)) at (stored_last 0 v l a (omega arith)))

  -- What stands before the values and past them.
  module _ (at : ℕ) (v l : List A) (inside : at + length v ≤ length l) where
    front : length (take at l ++ v) ≡ at + length v
    front = simp length-append (omega (arith, length-take-le at l (omega arith)))

    pub stored_before : (j : ℕ) (d : A) → j < at → get_or (stored at v l) j d ≡ get_or l j d
    unfolding stored
    stored_before j d h =
        get_or-append (take at l) (v ++ drop (at + length v) l) d j (rw (length-take-le at l (omega arith)) h) ∙ get_or-take at l j d h

    pub take_stored : take (at + length v) (stored at v l) ≡ take at l ++ v
    unfolding stored
    take_stored =
        ap (take (at + length v)) (sym (append_assoc (take at l) v (drop (at + length v) l)))
        ∙ take_at (take at l ++ v) (drop (at + length v) l) (at + length v) front

    pub drop_stored : drop (at + length v) (stored at v l) ≡ drop (at + length v) l
    unfolding stored
    drop_stored =
        ap (drop (at + length v)) (sym (append_assoc (take at l) v (drop (at + length v) l)))
        ∙ drop_at (take at l ++ v) (drop (at + length v) l) (at + length v) front

    pub stored_past : (j : ℕ) (d : A) → at + length v ≤ j → get_or (stored at v l) j d ≡ get_or l j d
    stored_past j d h =
        let e : (at + length v) + (j - (at + length v)) ≡ j = omega arith in
        rw e at
        (sym (get_or-drop (at + length v) (stored at v l) (j - (at + length v)) d)
        ∙ ap (λ (r : List A). get_or r (j - (at + length v)) d) drop_stored
        ∙ get_or-drop (at + length v) l (j - (at + length v)) d)

  -- Values stored at the start of the part from a place on are stored at the place.
  pub stored_part : (p : ℕ) (v l : List A) → p + length v ≤ length l
      → take p l ++ (stored 0 v (take (length l - p) (drop p l)) ++ drop (length l - p) (drop p l)) ≡ stored p v l
  unfolding stored
  stored_part p v l h =
      let all : length (drop p l) ≤ length l - p = rw length-drop (omega arith) in
      let none : drop (length l - p) (drop p l) ≡ [] = drop_of_length-le (drop p l) {i = length l - p} all in
      rw (take_all (length l - p) (drop p l) all, none, append-nil, zero-add, drop-drop (length v) p l)
