-- Examples of the sweeps' counters and of the pairs there are: what M1 to M10 do not tell apart.
use mathlib.Core.Path.{◌≡◌, refl}
use mathlib.Core.List.{[], ◌∷◌, flat_map, zip_with}
use lib.IntN.{pos}
use Rattle.sweep.specs.declared.Way.TheVariants.{Classic, ReverseRun}
use Rattle.order.specs.Sort.{insert}
use Rattle.order.specs.Lists.{keep, sum, last}
use Rattle.order.specs.Order.{lex}
use Rattle.site.specs.Site.{gap, square, squared_distance}
use Rattle.site.specs.SiteList.{site, raised_site}
use Rattle.entry.specs.Entry.{entry, rank_before, apart, offer, last_distance}
use Rattle.sweep.specs.Scan.{beyond, taken, scan}
use Rattle.sweep.specs.Strip.{whole, placed_from, pair, product, pairs, all_pairs}
use Rattle.sweep.specs.Sweep.{classic_over, reverse_over, leads, look, sweep}

-- A distance equal to the last one is no reason to stop: 2 looks and 2 distances.
equal : sweep Classic 1 (whole (site (pos 0) (pos 0) 1 ∷ [])) (whole (site (pos 3) (pos 4) 2 ∷ site (pos 5) (pos 0) 3 ∷ [])) [] ≡ record { entries = entry 25 0 0 ∷ []; looks = 2; distances = 2 }
unfolding lex insert sum gap square squared_distance rank_before apart offer last_distance last whole placed_from pair beyond taken scan classic_over leads look sweep zip_with
equal = refl

-- The place where a scan stopped is never looked at again: 2 looks and 1 distance.
limit : sweep ReverseRun 1 (whole (site (pos 1) (pos 0) 1 ∷ [])) (whole (site (pos 3) (pos 2) 2 ∷ site (pos 4) (pos 1) 3 ∷ site (pos 6) (pos 1) 4 ∷ [])) [] ≡ record { entries = entry 8 0 0 ∷ []; looks = 2; distances = 1 }
unfolding lex insert sum gap square squared_distance rank_before apart offer last_distance last whole placed_from pair beyond taken scan reverse_over leads look sweep zip_with
limit = refl

-- A scan that runs out moves no limit while the list isn't full: all four pairs are worked out.
filling : sweep ReverseRun 9 (whole (site (pos 0) (pos 0) 1 ∷ site (pos 2) (pos 0) 2 ∷ [])) (whole (site (pos 1) (pos 0) 3 ∷ site (pos 3) (pos 0) 4 ∷ [])) [] ≡ record { entries = entry 1 0 0 ∷ entry 1 1 0 ∷ entry 1 1 1 ∷ entry 9 0 1 ∷ []; looks = 4; distances = 4 }
unfolding lex insert sum gap square squared_distance rank_before apart offer last_distance last whole placed_from pair beyond taken scan reverse_over leads look sweep zip_with
filling = refl

-- The distance of co-sited cells is worked out and counted, and the list does not take it: 2 looks and 2 distances,
co_sited : sweep Classic 1 (whole (site (pos 0) (pos 0) 1 ∷ [])) (whole (site (pos 0) (pos 0) 2 ∷ site (pos 3) (pos 4) 3 ∷ [])) [] ≡ record { entries = entry 25 0 1 ∷ []; looks = 2; distances = 2 }
unfolding lex insert sum gap square squared_distance rank_before apart offer last_distance last whole placed_from pair beyond taken scan classic_over leads look sweep zip_with
co_sited = refl

-- by Reverse Run as well.
co_sited_back : sweep ReverseRun 1 (whole (site (pos 0) (pos 0) 1 ∷ [])) (whole (site (pos 0) (pos 0) 2 ∷ site (pos 3) (pos 4) 3 ∷ [])) [] ≡ record { entries = entry 25 0 1 ∷ []; looks = 2; distances = 2 }
unfolding lex insert sum gap square squared_distance rank_before apart offer last_distance last whole placed_from pair beyond taken scan reverse_over leads look sweep zip_with
co_sited_back = refl

-- Cells at one x alone, or at one y alone, are a pair; those at both are none.
pairs_there : all_pairs (site (pos 0) (pos 0) 1 ∷ []) (site (pos 0) (pos 0) 1 ∷ site (pos 0) (pos 2) 2 ∷ site (pos 1) (pos 0) 3 ∷ []) ≡ entry 4 0 1 ∷ entry 1 0 2 ∷ []
unfolding keep sum gap square squared_distance apart whole placed_from pair product flat_map pairs zip_with
pairs_there = refl

-- Cells at one x and y and at two heights are a pair.
floors : all_pairs (raised_site (pos 0) (pos 0) 1 (pos 0) ∷ []) (raised_site (pos 0) (pos 0) 1 (pos 3) ∷ raised_site (pos 0) (pos 0) 2 (pos 0) ∷ []) ≡ entry 9 0 0 ∷ []
unfolding keep sum gap square squared_distance apart whole placed_from pair product flat_map pairs zip_with
floors = refl

-- The height is no part of the look's test: the x-difference alone stops a scan.
high : sweep Classic 1 (whole (raised_site (pos 0) (pos 0) 1 (pos 0) ∷ [])) (whole (raised_site (pos 3) (pos 4) 2 (pos 12) ∷ raised_site (pos 5) (pos 0) 3 (pos 0) ∷ [])) [] ≡ record { entries = entry 25 0 1 ∷ []; looks = 2; distances = 2 }
unfolding lex insert sum gap square squared_distance rank_before apart offer last_distance last whole placed_from pair beyond taken scan classic_over leads look sweep zip_with
high = refl
