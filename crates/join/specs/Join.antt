-- The three ways to join two strips, and what each counts.
use Rattle.std.specs.Prelude.{List, ℕ}
use Rattle.entry.specs.declared.Entry.{Entry}
use Rattle.sweep.specs.Strip.{Placed}
use Rattle.sweep.specs.Sweep.{sweep}
use Rattle.halves.specs.Halves.{halves}
use Rattle.join.specs.declared.Counters.{Counters}
use Rattle.join.specs.declared.Join.{Join}
use Rattle.join.specs.declared.Join.TheVariants.{Sweep, Halves}

-- A sweep's looks and distances, and the range pairs of a join by halves, "the count then standing for looks and
-- distances". (01, 02 k.) What a way does not count is 0; the three are never added to each other.
pub record Counts : Type 0 where
  pub looks : ℕ
  pub distances : ℕ
  pub range_pairs : ℕ

abbrev pub counts : ℕ → ℕ → ℕ → Counts
counts looks distances range_pairs = record { looks = looks; distances = distances; range_pairs = range_pairs }

abbrev pub by_sweep : ℕ → ℕ → Counts
by_sweep looks distances = counts looks distances 0

abbrev pub by_halves : ℕ → Counts
by_halves range_pairs = counts 0 0 range_pairs

-- Nothing was joined.
abbrev pub no_counts : Counts
no_counts = counts 0 0 0

-- What the counters hold.
abbrev pub counts_of : Counters → Counts
counts_of c = counts c.looks.0 c.distances.0 c.range_pairs.0

-- What a join leaves: the entries, and what it counted.
pub record Found : Type 0 where
  pub entries : List Entry
  pub counts : Counts

abbrev pub found : List Entry → Counts → Found
found l n = record { entries = l; counts = n }

-- The join named, over two strips, on a list that may hold entries already.
unfoldable pub join : Join → ℕ → List Placed → List Placed → List Entry → Found
join (Sweep way) k p q l = let s = sweep way k p q l in found s.entries (by_sweep s.looks s.distances)
join Halves k p q l = let s = halves k p q l in found s.entries (by_halves s.range_pairs)
