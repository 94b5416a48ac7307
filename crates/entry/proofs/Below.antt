-- What result columns hold below a count, and how many entries they have room for.
use mathlib.Core.Path.{◌≡◌, sym, ap, ◌∙◌}
use mathlib.Core.Bool.{true}
use mathlib.Core.List.{List, map}
use Prim.Native.Nat.{ℕ, ◌≤◌, min}
use native.Mathlib.Omega.{arith}
use lib.ListN.{length, take, length-map}
use Rattle.order.proofs.Lists.{take_min}
use Rattle.column.specs.Column.{overwritten}
use Rattle.column.proofs.Overwritten.{take_overwritten}
use Rattle.entry.specs.declared.Entry.{Entry}
use Rattle.entry.specs.Results.{Results, results, below, entries_of, holding, room_for}
use Rattle.entry.proofs.Results.{length_entries, entries_columns, take_entries, holding_lengths}

-- The columns of some entries, and no more.
abbrev pub columns_alone : List Entry → Results
columns_alone l = results (map (λ e. e.distance) l) (map (λ e. e.first) l) (map (λ e. e.second) l)

-- The written columns begin with the entries' numbers.
pub written : (l : List Entry) (f : Entry → ℕ) (column : List ℕ)
    → take (length l) (overwritten (map f l) column) ≡ map f l
written l f column = rw (← length-map l f) (take_overwritten (map f l) column)

-- Whatever the entries are written into.
pub below_holding : (l : List Entry) (r : Results) → below (length l) (holding l r) ≡ columns_alone l
unfolding holding
below_holding l r = rw (
  written l (λ e. e.distance) r.distance,
  written l (λ e. e.first) r.first,
  written l (λ e. e.second) r.second,
)

-- `count` entries within the room of the columns.
module _ (k count : ℕ) (r : Results) (room : room_for k r ≡ true) (most : count ≤ k) where
  pub below_entries : below count r ≡ columns_alone (entries_of count r)
  below_entries = let held = entries_columns k count r room most in rw (held.0, held.1, held.2)

  -- The first `n` of them.
  pub cut_entries : (n : ℕ) → entries_of (min n count) r ≡ take n (entries_of count r)
  cut_entries n =
      let l = entries_of count r in
      sym (take_entries (min n count) count r (omega arith))
      ∙ ap (λ (m : ℕ). take (min n m) l) (sym (length_entries k count r room most))
      ∙ take_min n l

-- ---- the lengths of columns

abbrev pub lengths_of : Results → ℕ × ℕ × ℕ
lengths_of r = (length r.distance, length r.first, length r.second)

-- Nothing that is written changes them.
pub lengths_holding : (l : List Entry) (r : Results) → room_for (length l) r ≡ true
    → lengths_of (holding l r) ≡ lengths_of r
lengths_holding l r room = let h = holding_lengths l r room in λ t. (h.0 t, h.1 t, h.2 t)

-- They alone decide for which K there is room.
pub room_same : (k : ℕ) (r r' : Results) → lengths_of r ≡ lengths_of r' → room_for k r ≡ room_for k r'
unfolding room_for
room_same k r r' h =
    let first = ap (λ (x : ℕ × ℕ × ℕ). x.0) h in
    let second = ap (λ (x : ℕ × ℕ × ℕ). x.1) h in
    let third = ap (λ (x : ℕ × ℕ × ℕ). x.2) h in
    rw (first, second, third)
