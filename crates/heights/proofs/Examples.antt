-- Examples of equal heights.
use mathlib.Core.Path.{◌≡◌, refl}
use mathlib.Core.List.{List, [], ◌∷◌}
use Prim.Native.Nat.{ℕ}
use lib.IntN.{ℤ, pos, negsuc}
use Rattle.order.specs.Lists.{keep}
use Rattle.site.specs.Site.{gap}
use Rattle.heights.specs.Heights.{occurrences, equal_pairs}

-- A height that stands twice in each column makes four pairs, its opposite none.
column : List ℤ
column = pos 7 ∷ negsuc 6 ∷ pos 7 ∷ pos 0 ∷ []

other : List ℤ
other = pos 7 ∷ pos 0 ∷ negsuc 9_999 ∷ pos 7 ∷ []

found : List ℕ
found = occurrences (pos 7) column ∷ occurrences (negsuc 6) other ∷ equal_pairs column other ∷ equal_pairs column [] ∷ []

found_hold : found ≡ 2 ∷ 0 ∷ 5 ∷ 0 ∷ []
unfolding column found gap keep occurrences other equal_pairs
found_hold = refl
