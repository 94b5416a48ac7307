-- The least and the greatest of a column, for the loop that looks at one coordinate after another.
use mathlib.Core.Path.{◌≡◌, refl, sym}
use mathlib.Core.List.{List, [], ◌∷◌, foldl}
use Prim.Native.Nat.{ℕ, suc, ◌+◌, ◌-◌, ◌≤◌, ◌<◌}
use native.Mathlib.Numerals.{add-one}
use native.Mathlib.Omega.{arith}
use lib.IntN.{ℤ, pos}
use lib.Signed.{lt_z}
use lib.ListN.{length, take, drop, get_or, drop_of_length-le}
use lib.Seq.{drop-cons, take_all}
use Rattle.order.specs.Order.{after, first_of, foremost}
use Rattle.order.specs.Terms.{Sorted}
use Rattle.std.specs.Int.{int_max, int_min}
use Rattle.order.proofs.Order.{lt_z_order, by_test}
use Rattle.order.proofs.Lists.{last_at}
use Rattle.order.proofs.Foremost.{foremost_first, foremost_last}
use Rattle.boxes.specs.Box.{edges}

-- What edges become when some coordinates more are looked at.
unfoldable pub widened : ℤ → ℤ → List ℤ → List ℤ
widened least greatest l = foldl (first_of lt_z) least l ∷ foldl (first_of (after lt_z)) greatest l ∷ []

-- The first coordinate is both edges of itself; the others are left.
pub widened_start : (column : List ℤ) → 0 < length column
    → let first = get_or column 0 (pos 0) in
    widened first first (take (length column - 1) (drop 1 column)) ≡ edges column
unfolding widened edges foremost
widened_start [] h = absurd (omega arith)
widened_start (c ∷ l) h = rw (take_all (length (c ∷ l) - 1) l (omega arith)) refl

-- The greater of two is the first of them by the order the other way round.
pub greater_first : (a b : ℤ) → int_max a b ≡ first_of (after lt_z) a b
unfolding first_of
greater_first a b =
    by_test (lt_z a b)
    (λ t. rw (t, lt_z_order.asym a b t) refl)
    (λ f. by_test (lt_z b a) (λ t. rw (f, t) refl) (λ g. rw (f, g) (sym (lt_z_order.total a b f g))))

-- One look.
pub widened_step : (least greatest : ℤ) (l : List ℤ) (i : ℕ) → i < length l
    → let c = get_or l i (pos 0) in
    widened (int_min least c) (int_max greatest c) (drop (i + 1) l) ≡ widened least greatest (drop i l)
unfolding widened first_of
widened_step least greatest l i h = rw (add-one, drop-cons l i (pos 0) h, greater_first greatest (get_or l i (pos 0))) refl

-- Nothing is left to look at.
pub widened_end : (least greatest : ℤ) (l : List ℤ) (i : ℕ) → length l ≤ i
    → widened least greatest (drop i l) ≡ least ∷ greatest ∷ []
unfolding widened
widened_end least greatest l i h = rw (drop_of_length-le l h)

-- A column with nothing in it.
pub no_edges : (column : List ℤ) → length column ≡ 0 → pos 0 ∷ pos 0 ∷ [] ≡ edges column
unfolding edges foremost
no_edges [] h = refl
no_edges (c ∷ l) h = absurd (omega arith)

-- A column in order has its edges at its ends.
pub sorted_edges : (column : List ℤ) → Sorted lt_z column → (length column ≡ 0 → ⊥)
    → get_or column 0 (pos 0) ∷ get_or column (length column - 1) (pos 0) ∷ [] ≡ edges column
unfolding edges
sorted_edges [] s h = absurd (h refl)
sorted_edges (c ∷ l) s h =
    let n : length (c ∷ l) ≡ suc (length (c ∷ l) - 1) = omega arith in
    rw (foremost_first lt_z_order (pos 0) c l s, foremost_last lt_z_order (pos 0) (c ∷ l) s)
    (rw (last_at (pos 0) (pos 0) (c ∷ l) (length (c ∷ l) - 1) n))
