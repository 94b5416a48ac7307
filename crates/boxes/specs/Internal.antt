-- Terms that only this crate's functions cite.
use Rattle.std.specs.Prelude.{List, ℕ, ◌+◌, ℤ, pos, get_or}
use Rattle.boxes.specs.Box.{range_gap}

-- The gap of two boxes along the coordinate whose edges stand at a place and behind it.
abbrev pub gap_along : ℕ → List ℤ → List ℤ → ℕ
gap_along at p q =
    range_gap (get_or p at (pos 0)) (get_or p (at + 1) (pos 0)) (get_or q at (pos 0)) (get_or q (at + 1) (pos 0))
