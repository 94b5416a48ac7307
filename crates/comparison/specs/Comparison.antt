-- A comparison as a number.
use Rattle.std.specs.Prelude.{ℕ}
use Rattle.entry.specs.declared.Ordering.{Ordering}
use Rattle.entry.specs.declared.Ordering.TheVariants.{Before, Same, After}

-- 0 for before, 1 for same, 2 for after.
abbrev pub ordering_number : Ordering → ℕ
ordering_number Before = 0
ordering_number Same = 1
ordering_number After = 2
