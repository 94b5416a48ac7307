-- Examples of skips, of a job's refusals, of co-sited cells, of a smaller K and of both customers: what M1 to M10 do not tell apart.
use mathlib.Core.Path.{◌≡◌, refl}
use mathlib.Core.List.{List, [], ◌∷◌, ◌++◌, flat_map, map, zip_with}
use Prim.Native.Nat.{ℕ, ◌+◌, ◌*◌, ◌-◌}
use lib.IntN.{pos}
use Rattle.order.specs.Order.{lex, ascending, first_of, foremost}
use Rattle.order.specs.Sort.{insert, sort}
use Rattle.order.specs.Lists.{all, keep, last, sum}
use Rattle.column.specs.Column.{overwritten}
use Rattle.site.specs.Answer.{Answer, refused, answered, answer_unless, afterwards, or_else}
use Rattle.site.specs.Site.{between, within, height_within, all_within, lawful_site, gap, square, squared_distance, site_before}
use Rattle.site.specs.SiteList.{Columns, columns, raised, with_columns, sites, site_at}
use Rattle.site.specs.Refusal.{equal_lengths, size_fault, content_refusal, list_refusal, lists_refusal}
use Rattle.entry.specs.Entry.{rank_before, apart, lawful_k, best_k, offer, last_distance}
use Rattle.entry.specs.Results.{Results, results, entries_of, holding, room_for}
use Rattle.boxes.specs.Box.{edges, box_around, coordinate_columns, box_of, range_gap, gaps, squared_box_gap}
use Rattle.sweep.specs.declared.Way.TheVariants.{Classic}
use Rattle.sweep.specs.Strip.{whole, placed_from, strip, pair, product, pairs}
use Rattle.sweep.specs.Scan.{beyond, taken, scan}
use Rattle.sweep.specs.Sweep.{classic_over, leads, look, sweep}
use Rattle.halves.specs.Gap.{squared_strip_gap}
use Rattle.join.specs.declared.Join.TheVariants.{Sweep}
use Rattle.join.specs.Join.{join}
use Rattle.customers.specs.declared.Grid.{Grid}
use Rattle.customers.specs.Customers.{is_customer, own_mark, with_own, cleared, campaign_as, with_campaign, settled_at, lowered}
use Rattle.campaign.specs.Grid.{
  lawful_ends,
  strip_at,
  strip_holding,
  Job,
  job_of,
  count_from,
  jobs,
  mark_of,
  settled,
  settled_jobs,
  lawful_mark,
  lawful_marks,
  job_pairs,
  jobs_pairs,
}
use Rattle.campaign.specs.Soundness.{first_ends, second_ends, sound_entry, sound, lawful_grid, customer_refusal, caller_refusal, keeper_refusal, campaign_refusal}
use Rattle.campaign.specs.Calls.{slots, prepared, opened, lower_refusal, lower_answer, job_fault, job_refusal, skips, job_entries, after_job, JobValues, accepted_job, job_answer}

-- What a job answers, in one number: the refusal's, or 100 where it was swept and 200 where it was skipped.
answer_as : Answer JobValues → ℕ
answer_as (refused n) = n
answer_as (answered v) = 200 - 100 * v.swept

-- A customer's jobs by the classic sweep, one after another.
answers_to : ℕ → Columns → Columns → Grid → Results → List Job → List ℕ
answers_to customer a b g r [] = []
answers_to customer a b g r (j ∷ l) =
    let answer = job_answer (Sweep Classic) customer g a b r j in
    let g' = afterwards (λ (v : JobValues). v.grid) answer g in
    let r' = afterwards (λ (v : JobValues). v.results) answer r in
    answer_as answer ∷ answers_to customer a b g' r' l

-- The first customer's.
answers_of : Columns → Columns → Grid → Results → List Job → List ℕ
answers_of = answers_to 1

-- The first customer's campaign on a new grid.
new_grid : ℕ → List ℕ → List ℕ → Grid
new_grid k ends ends' = opened 1 (prepared ends ends') k

one : Results
one = results (0 ∷ []) (0 ∷ []) (0 ∷ [])

-- A gap squared equal to the last squared distance is swept; then a settled job gets 9, and a strip past the count 8.
equal_gap : List ℕ
equal_gap =
    answers_of (columns (pos 0 ∷ []) (pos 0 ∷ []) (1 ∷ [])) (columns (pos 3 ∷ pos 5 ∷ []) (pos 4 ∷ pos 0 ∷ []) (2 ∷ 3 ∷ []))
    (new_grid 1 (1 ∷ []) (1 ∷ 2 ∷ [])) one
    (job_of 0 0 ∷ job_of 0 1 ∷ job_of 0 1 ∷ job_of 1 1 ∷ job_of 0 2 ∷ [])

-- The gap is that of the strips' own x ranges: a strip does not reach to the next one's first site.
own_ranges : List ℕ
own_ranges =
    answers_of (columns (pos 0 ∷ pos 100 ∷ []) (pos 0 ∷ pos 0 ∷ []) (1 ∷ 2 ∷ []))
    (columns (pos 1 ∷ pos 50 ∷ []) (pos 0 ∷ pos 0 ∷ []) (3 ∷ 4 ∷ []))
    (new_grid 1 (1 ∷ 2 ∷ []) (1 ∷ 2 ∷ [])) one
    (job_of 0 0 ∷ job_of 0 1 ∷ job_of 1 0 ∷ job_of 1 1 ∷ [])

-- The gap is that of boxes: strips whose x ranges touch, 50 apart in y, are skipped behind a pair at 1.
apart_in_y : List ℕ
apart_in_y =
    answers_of (columns (pos 0 ∷ pos 10 ∷ []) (pos 0 ∷ pos 0 ∷ []) (1 ∷ 2 ∷ []))
    (columns (pos 1 ∷ pos 10 ∷ []) (pos 0 ∷ pos 50 ∷ []) (3 ∷ 4 ∷ []))
    (new_grid 1 (1 ∷ 2 ∷ []) (1 ∷ 2 ∷ [])) one
    (job_of 0 0 ∷ job_of 1 1 ∷ [])

-- And of heights: strips whose x and y ranges touch, 50 apart in height, are skipped behind a pair at 1.
apart_in_height : List ℕ
apart_in_height =
    answers_of (raised (pos 0 ∷ pos 10 ∷ []) (pos 0 ∷ pos 0 ∷ []) (1 ∷ 2 ∷ []) (pos 0 ∷ pos 0 ∷ []))
    (raised (pos 1 ∷ pos 10 ∷ []) (pos 0 ∷ pos 0 ∷ []) (3 ∷ 4 ∷ []) (pos 0 ∷ pos 50 ∷ []))
    (new_grid 1 (1 ∷ 2 ∷ []) (1 ∷ 2 ∷ [])) one
    (job_of 0 0 ∷ job_of 1 1 ∷ [])

-- Refusal 7 comes before 8: a mark outside the jobs, and a strip past the count.
soundness_first : List ℕ
soundness_first =
    answers_of (columns (pos 0 ∷ []) (pos 0 ∷ []) (1 ∷ [])) (columns (pos 3 ∷ []) (pos 4 ∷ []) (2 ∷ []))
    (after_job 1 (new_grid 1 (1 ∷ []) (1 ∷ [])) 0 (job_of 0 1)) one
    (job_of 0 0 ∷ job_of 1 1 ∷ [])

-- A site at the origin, and the same with another at (3, 4).
origin : Columns
origin = columns (pos 0 ∷ []) (pos 0 ∷ []) (1 ∷ [])

two_sites : Columns
two_sites = columns (pos 0 ∷ pos 3 ∷ []) (pos 0 ∷ pos 4 ∷ []) (2 ∷ 3 ∷ [])

-- Co-sited cells are no pair: one is left for K = 2, and it is the settled job's pair total.
co_sited : List ℕ
co_sited =
    answers_of origin two_sites (new_grid 2 (1 ∷ []) (2 ∷ [])) (results (0 ∷ 0 ∷ []) (0 ∷ 0 ∷ []) (0 ∷ 0 ∷ []))
    (job_of 0 0 ∷ job_of 0 0 ∷ [])

-- The same lists with the job settled and K = 1: one entry, at 0, gets 7, and so does none in the place of the pair at 25.
settled_with : ℕ → List ℕ
settled_with entries =
    answers_of origin two_sites (after_job 1 (new_grid 1 (1 ∷ []) (2 ∷ [])) entries (job_of 0 0)) one (job_of 0 0 ∷ [])

-- Where all sites stand at one position there is no pair: the settled job gets 9, with no entry held.
one_position : List ℕ
one_position = answers_of origin origin (after_job 1 (new_grid 1 (1 ∷ []) (1 ∷ [])) 0 (job_of 0 0)) one (job_of 0 0 ∷ [])

-- On the first customer's grid with a job settled, each customer's answers to a repeat and to a strip past the count: 9 and 8,
-- then 7 before opening, 15 for any other number, and after an opening of the second 100 and 8.
two_customers : List (List ℕ)
two_customers =
    let g = after_job 1 (new_grid 1 (1 ∷ []) (1 ∷ [])) 0 (job_of 0 0) in
    let ask : ℕ → Grid → List ℕ = λ customer h. answers_to customer origin origin h one (job_of 0 0 ∷ job_of 1 0 ∷ []) in
    map (λ customer. ask customer g) (1 ∷ 2 ∷ 0 ∷ 3 ∷ [])
    ++ map (λ customer. ask customer (opened 2 g 1)) (1 ∷ 2 ∷ 0 ∷ 3 ∷ [])

-- What a smaller K answers, in one number: the refusal's, or 100 × K and the entry count of the first customer.
lowered_as : Answer Grid → ℕ
lowered_as (refused n) = n
lowered_as (answered g) = 100 * g.k1 + g.entries1

-- K of 3 and both pairs held: 4 and 0 get 4, and 3, 2 and 1 leave two, two and one of them. The second customer has not opened,
-- and gets 4; 3 is no customer. A campaign with a fault gets 4 before 7.
smaller_k : List ℕ
smaller_k =
    let pair = columns (pos 3 ∷ pos 5 ∷ []) (pos 4 ∷ pos 12 ∷ []) (2 ∷ 3 ∷ []) in
    let g = after_job 1 (new_grid 3 (1 ∷ []) (2 ∷ [])) 2 (job_of 0 0) in
    let r = results (25 ∷ 169 ∷ 0 ∷ []) (0 ∷ 0 ∷ 0 ∷ []) (0 ∷ 1 ∷ 0 ∷ []) in
    map (λ k. lowered_as (lower_answer 1 g origin pair k r)) (4 ∷ 3 ∷ 2 ∷ 1 ∷ 0 ∷ [])
    ++ (map (λ customer. lowered_as (lower_answer customer g origin pair 1 r)) (2 ∷ 3 ∷ [])
    ++ map (λ k. lowered_as (lower_answer 1 g origin pair k one)) (4 ∷ 3 ∷ []))

answers :
    equal_gap ∷ own_ranges ∷ apart_in_y ∷ apart_in_height ∷ soundness_first ∷ co_sited ∷ settled_with 1 ∷ settled_with 0 ∷ one_position ∷ smaller_k ∷ two_customers
    ≡ (100 ∷ 100 ∷ 9 ∷ 8 ∷ 8 ∷ []) ∷ (100 ∷ 200 ∷ 200 ∷ 200 ∷ []) ∷ (100 ∷ 200 ∷ []) ∷ (100 ∷ 200 ∷ []) ∷ (7 ∷ 7 ∷ []) ∷ (100 ∷ 9 ∷ [])
    ∷ (7 ∷ []) ∷ (7 ∷ []) ∷ (9 ∷ []) ∷ (4 ∷ 302 ∷ 202 ∷ 101 ∷ 4 ∷ 4 ∷ 15 ∷ 4 ∷ 7 ∷ []) ∷ (9 ∷ 8 ∷ []) ∷ (7 ∷ 7 ∷ []) ∷ (15 ∷ 15 ∷ []) ∷ (15 ∷ 15 ∷ [])
    ∷ (9 ∷ 8 ∷ []) ∷ (100 ∷ 8 ∷ []) ∷ (15 ∷ 15 ∷ []) ∷ (15 ∷ 15 ∷ []) ∷ []
unfolding
    after_job afterwards all all_within answer_as answers_of answers_to answer_unless apart apart_in_height apart_in_y ascending best_k between beyond box_around
    box_of caller_refusal campaign_as campaign_refusal classic_over cleared content_refusal coordinate_columns co_sited count_from customer_refusal edges entries_of equal_gap equal_lengths first_ends first_of
    flat_map foremost gap gaps height_within holding insert is_customer accepted_job job_fault job_answer
    job_entries job_pairs job_refusal join jobs jobs_pairs keep keeper_refusal last last_distance lawful_ends lawful_grid lawful_k lawful_mark lawful_marks lawful_site leads
    lex list_refusal lists_refusal look lower_answer lowered lowered_as lower_refusal mark_of new_grid offer one one_position opened or_else origin overwritten own_mark own_ranges pair
    pairs placed_from prepared product range_gap rank_before room_for scan second_ends settled settled_at settled_jobs settled_with site_at site_before sites
    size_fault skips slots smaller_k sort sound sound_entry soundness_first square squared_box_gap squared_distance squared_strip_gap strip strip_at
    strip_holding sum sweep taken two_customers two_sites whole with_campaign with_columns within with_own zip_with
answers = refl
