-- How many pairs of one height each of two columns are equal. (02 l: co-sited cells have equal heights.)
use Rattle.std.specs.Prelude.{List, [], ◌∷◌, ℕ, ◌+◌, eqb, ℤ, length}
use Rattle.order.specs.Lists.{keep}
use Rattle.site.specs.Site.{gap}

-- How often a height stands in a column.
unfoldable pub occurrences : ℤ → List ℤ → ℕ
occurrences h l = length (keep (λ k. eqb (gap h k) 0) l)

-- How many pairs of a height of one column and a height of another are equal.
unfoldable pub equal_pairs : List ℤ → List ℤ → ℕ
equal_pairs [] m = 0
equal_pairs (h ∷ l) m = occurrences h m + equal_pairs l m
