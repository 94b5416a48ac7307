-- Examples of refusals and their order: what M1 to M10 do not tell apart.
use mathlib.Core.Path.{◌≡◌, refl}
use mathlib.Core.List.{List, [], ◌∷◌, map, zip_with}
use Prim.Native.Nat.{ℕ}
use lib.IntN.{pos, negsuc}
use Rattle.order.specs.Lists.{all, keep, sum}
use Rattle.order.specs.Order.{lex, ascending}
use Rattle.column.specs.Column.{stored, removed}
use Rattle.site.specs.InUse.{used_refusal, place_of, present, change_values}
use Rattle.site.specs.Addition.{add_refusal}
use Rattle.site.specs.Removal.{remove_refusal, remove_site, remove_answer}
use Rattle.site.specs.Refusal.{equal_lengths, size_fault, content_refusal, list_refusal, lists_refusal}
use Rattle.site.specs.Site.{between, within, height_within, all_within, lawful_site, gap, square, squared_distance, site_before}
use Rattle.site.specs.SiteList.{Columns, columns, raised, site, raised_site, with_columns, sites, in_use}
use Rattle.site.specs.Answer.{answered, answer_unless, or_else}

-- Columns of one site each place, by x alone, on the ground.
by_x : List ℕ → Columns
by_x l = raised (map pos l) (map (λ n. pos 0) l) l (map (λ n. pos 0) l)

-- A coordinate outside the limits comes before a fault of order that stands earlier; unequal columns before both; the first
-- list's order before the second's columns; equal sites are no ascending list; both limits are allowed.
lists :
    map list_refusal
    (columns (pos 5 ∷ pos 4 ∷ pos 1_000_000_001 ∷ []) (pos 0 ∷ pos 0 ∷ pos 0 ∷ []) (1 ∷ 2 ∷ 3 ∷ [])
    ∷ columns (pos 1_000_000_001 ∷ []) [] (1 ∷ [])
    ∷ by_x (5 ∷ 4 ∷ [])
    ∷ by_x (5 ∷ 5 ∷ [])
    ∷ by_x (4 ∷ 5 ∷ [])
    ∷ columns (negsuc 999_999_999 ∷ pos 1_000_000_000 ∷ []) (pos 1_000_000_000 ∷ negsuc 999_999_999 ∷ []) (1 ∷ 1 ∷ [])
    ∷ columns (negsuc 1_000_000_000 ∷ []) (pos 0 ∷ []) (1 ∷ [])
    ∷ columns (pos 1 ∷ pos 1 ∷ pos 1 ∷ []) (pos 1 ∷ pos 1 ∷ pos 2 ∷ []) (1 ∷ 2 ∷ 1 ∷ [])
    ∷ [])
    ≡ 2 ∷ 1 ∷ 3 ∷ 3 ∷ 0 ∷ 0 ∷ 2 ∷ 0 ∷ []
unfolding by_x lex ascending all sites with_columns zip_with or_else between within all_within height_within lawful_site site_before equal_lengths size_fault content_refusal list_refusal
lists = refl

-- A column of heights as long as the others, its limits, both allowed; a list is ascending whatever its heights, and two sites
-- that differ in height alone are none.
heights :
    map list_refusal
    (raised (pos 5 ∷ []) (pos 0 ∷ []) (1 ∷ []) []
    ∷ raised (pos 5 ∷ pos 4 ∷ []) (pos 0 ∷ pos 0 ∷ []) (1 ∷ 2 ∷ []) (pos 0 ∷ pos 10_001 ∷ [])
    ∷ raised (pos 4 ∷ pos 5 ∷ []) (pos 0 ∷ pos 0 ∷ []) (1 ∷ 2 ∷ []) (pos 10_000 ∷ negsuc 9_999 ∷ [])
    ∷ raised (pos 4 ∷ []) (pos 0 ∷ []) (1 ∷ []) (negsuc 10_000 ∷ [])
    ∷ raised (pos 4 ∷ pos 4 ∷ []) (pos 0 ∷ pos 0 ∷ []) (1 ∷ 1 ∷ []) (pos 0 ∷ pos 1 ∷ [])
    ∷ [])
    ≡ 1 ∷ 2 ∷ 0 ∷ 2 ∷ 3 ∷ []
unfolding lex ascending all sites with_columns zip_with or_else between within height_within all_within lawful_site site_before equal_lengths size_fault content_refusal list_refusal
heights = refl

two_lists : lists_refusal (by_x (5 ∷ 4 ∷ [])) (columns [] (pos 0 ∷ []) []) ≡ 3
unfolding by_x lex ascending all sites with_columns zip_with or_else between within all_within height_within lawful_site site_before equal_lengths size_fault content_refusal list_refusal lists_refusal
two_lists = refl

-- Adding (6, 0), at another height than the one there, to four columns of which so many are in use: full before already there; the site's 2 before both.
adding :
    map (λ n. add_refusal (by_x (4 ∷ 6 ∷ 9 ∷ [])) n (raised_site (pos 6) (pos 0) 6 (pos 3))) (0 ∷ 1 ∷ 2 ∷ 3 ∷ 4 ∷ []) ≡ 0 ∷ 0 ∷ 11 ∷ 6 ∷ 1 ∷ []
unfolding by_x lex ascending all keep sites with_columns zip_with in_use or_else between within all_within height_within lawful_site site_before equal_lengths size_fault content_refusal used_refusal place_of present add_refusal
adding = refl

outside : add_refusal (by_x (4 ∷ [])) 1 (raised_site (pos 1_000_000_001) (pos 0) 6 (pos 0)) ≡ 2
unfolding by_x lex ascending all keep sites with_columns zip_with in_use or_else between within all_within height_within lawful_site site_before equal_lengths size_fault content_refusal used_refusal place_of present add_refusal
outside = refl

too_high : add_refusal (by_x (4 ∷ [])) 1 (raised_site (pos 6) (pos 0) 6 (pos 10_001)) ≡ 2
unfolding by_x lex ascending all keep sites with_columns zip_with in_use or_else between within all_within height_within lawful_site site_before equal_lengths size_fault content_refusal used_refusal place_of present add_refusal
too_high = refl

-- Removing (6, 0) from four columns of which so many are in use: it is there, or not among those in use.
removing :
    map (λ n. remove_refusal (by_x (4 ∷ 6 ∷ 9 ∷ [])) n (site (pos 6) (pos 0) 6)) (0 ∷ 1 ∷ 2 ∷ 3 ∷ 4 ∷ []) ≡ 16 ∷ 16 ∷ 0 ∷ 0 ∷ 1 ∷ []
unfolding by_x lex ascending all keep sites with_columns zip_with in_use or_else between within all_within height_within lawful_site site_before equal_lengths size_fault content_refusal used_refusal present remove_refusal
removing = refl

-- The list's faults come before 16; outside the limits, or with another number or y alone, there is no such site.
absent :
    remove_refusal (by_x (5 ∷ 4 ∷ [])) 2 (site (pos 6) (pos 0) 6)
    ∷ remove_refusal (by_x (4 ∷ 1_000_000_001 ∷ [])) 2 (site (pos 6) (pos 0) 6)
    ∷ map (remove_refusal (by_x (4 ∷ [])) 1)
    (site (pos 1_000_000_001) (pos 0) 4 ∷ site (pos 4) (pos 0) 5 ∷ site (pos 4) (negsuc 0) 4 ∷ site (pos 4) (pos 0) 4 ∷ [])
    ≡ 3 ∷ 2 ∷ 16 ∷ 16 ∷ 16 ∷ 0 ∷ []
unfolding by_x lex ascending all keep sites with_columns zip_with in_use or_else between within all_within height_within lawful_site site_before equal_lengths size_fault content_refusal used_refusal present remove_refusal
absent = refl

-- "remove (0,0,11): place 0, count 2", the heights moving too; the element freed at the end, and the one past it, stay.
taken_out :
    remove_answer
    (raised (map pos (0 ∷ 4 ∷ 10 ∷ 7 ∷ [])) (map pos (0 ∷ 3 ∷ 0 ∷ 7 ∷ [])) (11 ∷ 12 ∷ 13 ∷ 7 ∷ []) (map pos (1 ∷ 2 ∷ 3 ∷ 7 ∷ []))) 3
    (site (pos 0) (pos 0) 11)
    ≡ answered (change_values
    (raised (map pos (4 ∷ 10 ∷ 10 ∷ 7 ∷ [])) (map pos (3 ∷ 0 ∷ 0 ∷ 7 ∷ [])) (12 ∷ 13 ∷ 13 ∷ 7 ∷ []) (map pos (2 ∷ 3 ∷ 3 ∷ 7 ∷ []))) 0 2)
unfolding lex ascending all keep sites with_columns zip_with in_use or_else between within all_within height_within lawful_site site_before equal_lengths size_fault content_refusal used_refusal present remove_refusal place_of answer_unless remove_site remove_answer stored removed
taken_out = refl

-- "First (0,0,1) at height 0, second (0,0,1) at height 3: 9"; and opposite corners.
distances :
    squared_distance (raised_site (pos 0) (pos 0) 1 (pos 0)) (raised_site (pos 0) (pos 0) 1 (pos 3))
    ∷ squared_distance (raised_site (negsuc 999_999_999) (negsuc 999_999_999) 1 (negsuc 9_999)) (raised_site (pos 1_000_000_000) (pos 1_000_000_000) 1 (pos 10_000))
    ∷ []
    ≡ 9 ∷ 8_000_000_000_400_000_000 ∷ []
unfolding squared_distance square gap sum zip_with
distances = refl
