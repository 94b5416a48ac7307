-- Entries in three lent columns.
use Rattle.std.specs.Prelude.{Bool, ◌&&◌, ℕ, leb, length, take}
use mathlib.Core.List.{List, map, zip_with}
use Rattle.column.specs.Column.{overwritten}
use Rattle.column.specs.Lent.{LentMut, Held, the, ◌of_mut◌}
use Rattle.entry.specs.declared.Entry.{Entry}
use Rattle.entry.specs.Entry.{entry}

-- "three lent columns: squared distance, first place, second place." (01: result columns.)
pub record Results : Type 0 where
  pub distance : List ℕ
  pub first : List ℕ
  pub second : List ℕ

abbrev pub results : List ℕ → List ℕ → List ℕ → Results
results distance first second = record { distance = distance; first = first; second = second }

-- The result columns as they are lent.
abbrev pub lent_results : LentMut (List ℕ) → LentMut (List ℕ) → LentMut (List ℕ) → Held Results
lent_results distance first second = the results of_mut distance of_mut first of_mut second

-- All three columns below a count.
abbrev pub below : ℕ → Results → Results
below count r = results (take count r.distance) (take count r.first) (take count r.second)

-- The first `count` entries of the columns.
unfoldable pub entries_of : ℕ → Results → List Entry
entries_of count r = take count (zip_with (λ make j. make j) (zip_with entry r.distance r.first) r.second)

-- The columns with the entries written from the start on. "Column elements past the entry count are untouched."
unfoldable pub holding : List Entry → Results → Results
holding l r =
    results (overwritten (map (λ e. e.distance) l) r.distance)
    (overwritten (map (λ e. e.first) l) r.first)
    (overwritten (map (λ e. e.second) l) r.second)

-- No column is shorter than `k`.
unfoldable pub room_for : ℕ → Results → Bool
room_for k r = leb k (length r.distance) && (leb k (length r.first) && leb k (length r.second))
