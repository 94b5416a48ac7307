-- A grid as it is lent.
use Rattle.std.specs.Prelude.{List, ℕ}
use Rattle.column.specs.Lent.{LentMut, Held, the, ◌of_mut◌}
use Rattle.customers.specs.declared.Grid.{Grid}
use Rattle.customers.specs.Customers.{grid_of}

-- A grid in its parts.
abbrev pub lent_grid :
    LentMut ℕ → LentMut ℕ → LentMut (List ℕ) → LentMut (List ℕ) → LentMut (List ℕ) →
    LentMut ℕ → LentMut ℕ → LentMut ℕ → LentMut ℕ → Held Grid
lent_grid first_strips second_strips first_ends second_ends marks k1 entries1 k2 entries2 =
    the grid_of of_mut first_strips of_mut second_strips of_mut first_ends of_mut second_ends of_mut marks
    of_mut k1 of_mut entries1 of_mut k2 of_mut entries2
