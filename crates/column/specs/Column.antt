-- What a lent column holds after values were put into it, for any element.
use Rattle.std.specs.Prelude.{List, ◌∷◌, ◌++◌, ℕ, ◌+◌, ◌-◌, length, take, drop}

-- `values` from the start on; what stands past them is as before.
unfoldable pub overwritten : {A : Type 0} → List A → List A → List A
overwritten values column = values ++ drop (length values) column

-- `values` from position `at` on; what stands before and past them is as before.
unfoldable pub stored : {A : Type 0} → ℕ → List A → List A → List A
stored at values column = take at column ++ (values ++ drop (at + length values) column)

-- `v` at place `p`, the rest of the first `n` moved up by one; what stands further on is as before.
unfoldable pub inserted : {A : Type 0} → ℕ → ℕ → A → List A → List A
inserted p n v column = stored p (v ∷ take (n - p) (drop p column)) column

-- The element at place `p` taken out, the rest of the first `n` moved down by one; the element freed at the end of these, and
-- what stands further on, are as before.
unfoldable pub removed : {A : Type 0} → ℕ → ℕ → List A → List A
removed p n column = stored p (take (n - (p + 1)) (drop (p + 1) column)) column
