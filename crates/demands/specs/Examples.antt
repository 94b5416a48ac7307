-- The fixed examples M1 to M10 of document 01, with every height 0: what the definitions compute beside what it states, both
-- as numbers.
use Rattle.std.specs.Prelude.{◌≡◌, ℕ, ℤ, pos, negsuc, length, replicate}
use mathlib.Core.List.{List, [], ◌∷◌, map, flat_map}
use Rattle.site.specs.Answer.{afterwards}
use Rattle.site.specs.Site.{Site, squared_distance}
use Rattle.site.specs.SiteList.{Columns, on_ground, raised_site, columns_of}
use Rattle.entry.specs.declared.Entry.{Entry}
use Rattle.entry.specs.Results.{Results, results, entries_of}
use Rattle.sweep.specs.declared.Way.TheVariants.{Classic, ReverseRun}
use Rattle.sweep.specs.Scan.{State}
use Rattle.sweep.specs.Strip.{whole}
use Rattle.sweep.specs.Sweep.{sweep}
use Rattle.join.specs.declared.Join.TheVariants.{Sweep}
use Rattle.pairs.specs.KList.{k_list}
use Rattle.pairs.specs.DistanceList.{distance_list}
use Rattle.customers.specs.declared.Grid.{Grid}
use Rattle.campaign.specs.Grid.{Job, job_of}
use Rattle.campaign.specs.Calls.{prepare_answer, open_answer, job_answer, status_answer}

-- The two places of each entry.
unfoldable pub places : List Entry → List ℕ
places l = flat_map (λ e. e.first ∷ e.second ∷ []) l

-- A sweep's looks, distances and places.
unfoldable pub figures : State → List ℕ
figures s = s.looks ∷ s.distances ∷ places s.entries

-- Jobs by the classic sweep, a swept one as 1, a skipped one as 0; then status's jobs and entries, and the places.
unfoldable pub steps : Columns → Columns → List Job → Grid → Results → List ℕ
steps a b [] g r =
    afterwards (λ v. v.jobs ∷ v.entries ∷ places (entries_of v.entries r)) (status_answer 1 g a b r) []
steps a b (j ∷ l) g r =
    afterwards (λ v. v.swept ∷ steps a b l v.grid v.results) (job_answer (Sweep Classic) 1 g a b r j) []

-- The same of the first customer's campaign, from the preparing of its grid and its opening on.
unfoldable pub run : List Site → List Site → ℕ → List ℕ → List ℕ → List Job → List ℕ
run a b k ends ends' l =
    let r = results (replicate k 0) (replicate k 0) (replicate k 0) in
    let first = on_ground (columns_of a) in
    let second = on_ground (columns_of b) in
    let opened : Grid → List ℕ = λ g.
    afterwards (λ g'. steps first second l g' r) (open_answer 1 g first second k ends ends' r) [] in
    afterwards opened (prepare_answer first second ends ends') []

-- A site on the ground.
abbrev site : ℤ → ℤ → ℕ → Site
site x y number = raised_site x y number (pos 0)

-- M1 to M10 in their order: what is computed, and what is stated.
unfoldable pub examples : List (List ℕ × List ℕ)
examples =
    -- "Lists F: first (0,0,11) (4,3,12) (10,0,13); second (0,5,21) (4,0,22) (9,2,23)."
    let f : List Site = site (pos 0) (pos 0) 11 ∷ site (pos 4) (pos 3) 12 ∷ site (pos 10) (pos 0) 13 ∷ [] in
    let f' : List Site = site (pos 0) (pos 5) 21 ∷ site (pos 4) (pos 0) 22 ∷ site (pos 9) (pos 2) 23 ∷ [] in
    let jobs : List Job = job_of 0 0 ∷ job_of 1 0 ∷ job_of 0 1 ∷ job_of 1 1 ∷ [] in  -- of M6
    let g : List Site = site (pos 0) (pos 0) 1 ∷ site (pos 5) (pos 5) 2 ∷ [] in  -- of M7
    let g' : List Site = site (pos 5) (pos 0) 3 ∷ [] in  -- of M7
    let corner : ℤ → Site = λ c. site c c 0 in  -- of M10, the last below
    (places (k_list 3 f f'), 2 ∷ 2 ∷ 1 ∷ 1 ∷ 0 ∷ 1 ∷ [])  -- M1
    ∷ (figures (sweep Classic 3 (whole f) (whole f') []), 9 ∷ 6 ∷ 2 ∷ 2 ∷ 1 ∷ 1 ∷ 0 ∷ 1 ∷ [])  -- M2
    ∷ (figures (sweep ReverseRun 3 (whole f) (whole f') []), 7 ∷ 5 ∷ 2 ∷ 2 ∷ 1 ∷ 1 ∷ 0 ∷ 1 ∷ [])  -- M3
    ∷ (places (distance_list 5 f f'), 0 ∷ 0 ∷ 0 ∷ 1 ∷ 1 ∷ 0 ∷ 1 ∷ 1 ∷ 2 ∷ 2 ∷ [])  -- M4
    ∷ (places (distance_list 4 f f'), 0 ∷ 1 ∷ 1 ∷ 1 ∷ 2 ∷ 2 ∷ [])  -- M5
    ∷ (run f f' 2 (2 ∷ 3 ∷ []) (1 ∷ 3 ∷ []) jobs, 1 ∷ 0 ∷ 1 ∷ 1 ∷ 4 ∷ 2 ∷ 2 ∷ 2 ∷ 1 ∷ 1 ∷ [])  -- M6
    ∷ (places (k_list 1 g g'), 0 ∷ 0 ∷ [])  -- M7
    ∷ (map (λ e. e.distance) (k_list 2 g g'), 25 ∷ 25 ∷ [])  -- M7
    ∷ (places (sweep Classic 1 (whole g) (whole g') []).entries, 0 ∷ 0 ∷ [])  -- M7
    ∷ (places (sweep ReverseRun 1 (whole g) (whole g') []).entries, 0 ∷ 0 ∷ [])  -- M7
    ∷ (places (k_list 3 [] f'), [])  -- M8
    ∷ (places (k_list 3 f []), [])  -- M8
    ∷ (run [] f' 3 [] (3 ∷ []) [], 0 ∷ 0 ∷ [])  -- M8
    ∷ (run f [] 3 (1 ∷ 3 ∷ []) [] [], 0 ∷ 0 ∷ [])  -- M8
    ∷ (length (k_list 9 f f') ∷ length (k_list 4_096 f f') ∷ [], 9 ∷ 9 ∷ [])  -- M9
    ∷ (squared_distance (corner (negsuc 999_999_999)) (corner (pos 1_000_000_000)) ∷ [], 8_000_000_000_000_000_000 ∷ [])
    ∷ []

-- The definitions, evaluated over the list, give what is stated.
unfoldable pub ExamplesHold : Type 0
ExamplesHold = map (λ e. e.0) examples ≡ map (λ e. e.1) examples
