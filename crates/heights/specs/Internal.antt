-- Terms that only this crate's functions cite.
use Rattle.std.specs.Prelude.{◌≡◌, true, cond, List, ℕ, eqb, ℤ, negsuc, length, get_or}
use Rattle.site.specs.Site.{gap, height_within}
use Rattle.heights.specs.Heights.{occurrences}

-- 1 where two heights are equal, else 0.
unfoldable pub equal : ℤ → ℤ → ℕ
equal a b = cond (eqb (gap a b) 0) 1 0

-- The slot of a height in the table: how far it is above the lowest.
unfoldable pub slot_of : ℤ → ℕ
slot_of h = gap h (negsuc 9_999)

-- A table that has at the slot of each height how often it stands in a column.
pub record Tallied (column : List ℤ) (counts : List ℕ) : Type 0 where
  pub size : length counts ≡ 20_001
  pub count : (h : ℤ) → height_within h ≡ true → get_or counts (slot_of h) 0 ≡ occurrences h column
