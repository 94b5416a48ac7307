-- Examples of the join by halves: its range pairs and its list.
use mathlib.Core.Path.{◌≡◌, refl}
use mathlib.Core.List.{List, [], ◌∷◌, map, flat_map, zip_with}
use Prim.Native.Nat.{ℕ}
use lib.IntN.{pos}
use Rattle.order.specs.Sort.{insert}
use Rattle.order.specs.Lists.{sum, last}
use Rattle.order.specs.Order.{lex, first_of, foremost}
use Rattle.site.specs.Site.{gap, square, squared_distance}
use Rattle.site.specs.SiteList.{site}
use Rattle.entry.specs.Entry.{entry, rank_before, apart, offer, last_distance}
use Rattle.boxes.specs.Box.{edges, box_around, coordinate_columns, box_of, range_gap, gaps, squared_box_gap}
use Rattle.sweep.specs.Scan.{beyond, taken}
use Rattle.sweep.specs.Strip.{Placed, whole, placed_from, pair}
use Rattle.halves.specs.Gap.{squared_strip_gap}
use Rattle.halves.specs.Halves.{Visited, visited, lower, upper, sooner, later, expand, visit, visit_to, halves_over, halves_from, halves}

-- Sites on a line.
line : List ℕ → List Placed
line l = whole (map (λ x. site (pos x) (pos 0) 0) l)

-- The join of two lists on a line, from no entry on.
on_line : ℕ → List ℕ → List ℕ → Visited
on_line k p q = halves k (line p) (line q) []

-- The far half of the longer range is dropped after its near one; the first list's range splits at equal length; co-sited
-- cells are visited and not taken, so that the nearest pairs come from two halves at equal gaps; nothing is dropped while
-- the list has room; no site, no range pair.
figures : List Visited
figures =
    on_line 1 (100 ∷ []) (0 ∷ 1 ∷ 98 ∷ 99 ∷ [])
    ∷ on_line 1 (0 ∷ []) (1 ∷ 2 ∷ 3 ∷ [])
    ∷ on_line 1 (0 ∷ 100 ∷ []) (1 ∷ 2 ∷ [])
    ∷ on_line 1 (0 ∷ 9 ∷ []) (0 ∷ 9 ∷ [])
    ∷ on_line 6 (0 ∷ 1 ∷ 2 ∷ []) (5 ∷ 6 ∷ [])
    ∷ on_line 1 [] (5 ∷ 6 ∷ [])
    ∷ on_line 1 (5 ∷ 6 ∷ []) []
    ∷ []

figures_hold : figures
    ≡ visited (entry 1 0 3 ∷ []) 5
    ∷ visited (entry 1 0 0 ∷ []) 3
    ∷ visited (entry 1 0 0 ∷ []) 5
    ∷ visited (entry 81 0 1 ∷ []) 7
    ∷ visited (entry 9 2 0 ∷ entry 16 1 0 ∷ entry 16 2 1 ∷ entry 25 0 0 ∷ entry 25 1 1 ∷ entry 36 0 1 ∷ []) 11
    ∷ visited [] 0
    ∷ visited [] 0
    ∷ []
unfolding figures on_line line insert sum last lex first_of foremost gap square squared_distance rank_before apart offer last_distance edges box_around coordinate_columns box_of range_gap gaps squared_box_gap beyond taken whole placed_from pair squared_strip_gap lower upper sooner later expand visit visit_to halves_over halves_from halves flat_map zip_with
figures_hold = refl

-- A gap equal to the last squared distance is no reason to drop: (5, 0) is found first, and (3, 4), as far away, stands before
-- it by its place.
equal : halves 1 (whole (site (pos 0) (pos 0) 1 ∷ [])) (whole (site (pos 3) (pos 4) 2 ∷ site (pos 5) (pos 0) 3 ∷ [])) []
    ≡ visited (entry 25 0 0 ∷ []) 3
unfolding insert sum last lex first_of foremost gap square squared_distance rank_before apart offer last_distance edges box_around coordinate_columns box_of range_gap gaps squared_box_gap beyond taken whole placed_from pair squared_strip_gap lower upper sooner later expand visit visit_to halves_over halves_from halves flat_map zip_with
equal = refl
