-- Laws of the jobs of a grid and of their pairs.
use mathlib.Core.Path.{◌≡◌, refl, sym, ap, ap₂, ◌∙◌}
use mathlib.Core.Bool.{Bool, true, not, ◌&&◌, and-eq-true_iff}
use mathlib.Core.List.Permᴰ
use mathlib.Core.List.{List, [], ◌∷◌, ◌++◌, flat_map, append-nil, Memᴰ, Permᴰ}
use Prim.Native.Nat.{ℕ, zero, suc, ◌+◌, ◌≤◌, ◌<◌}
use native.Mathlib.Omega.{arith}
use lib.Dec.{ltb}
use lib.IntN.{pos}
use lib.ListN.{length}
use borrow.Author.Tests.{lt-ltb, ltb-true}
use Rattle.order.specs.Order.{on, lex}
use Rattle.order.proofs.Sorted.{Ascends, ascends_distinct, members_perm}
use Rattle.order.proofs.Order.{StrictOrder, by_number_lem, lex_order, strict, lex_less, lex_next, irrefl, ltb_order}
use Rattle.order.specs.Lists.{keep, All, Distinct}
use Rattle.order.proofs.Lists.{all_mem, all_nil, all_cons, all_append, all_weaken, keep_mem, mem_keep, perm_distinct, distinct_left, distinct_keep, perm_eq, perm_keep, keep_split}
use Rattle.site.specs.Site.{Site, squared_distance}
use Rattle.site.specs.SiteList.{site, site_at}
use Rattle.entry.specs.declared.Entry.{Entry}
use Rattle.entry.specs.Entry.{apart}
use Rattle.sweep.specs.Strip.{pair, product, pairs, all_pairs}
use Rattle.sweep.proofs.ProductLaws.{mem_product, product_mem, product_ascends}
use Rattle.sweep.proofs.Strip.{mem_pairs, pairs_mem, mem_strip_pairs, strip_pairs_mem, whole_pairs_distinct}
use Rattle.campaign.specs.Grid.{strip_at, strip_holding, Job, job_of, count_from, jobs, job_pairs, jobs_pairs}
use Rattle.campaign.specs.Internal.{strip_from, strip_to}
use Rattle.campaign.proofs.FlatMap.{flat_append, flat_perm, flat_mem, mem_flat, keep_flat, product_flat}
use Rattle.campaign.proofs.LawfulEnds.{Cut, strips_whole, strip_holds, strip_of_place, holding_inside}

-- ---- the numbers of a count

count_low : (i n : ℕ) → All (λ x. (i ≤ x) × (x < i + n)) (count_from i n)
unfolding count_from All
count_low i zero = tt
count_low i (suc n) = (
  (omega arith, omega arith),
  all_weaken (λ x. (suc i ≤ x) × (x < suc i + n)) (λ x. (i ≤ x) × (x < i + suc n)) (λ x h. (omega arith, omega arith)) (count_from (suc i) n) (count_low (suc i) n),
)

count_ascends : (i n : ℕ) → Ascends ltb (count_from i n)
unfolding count_from Ascends
count_ascends i zero = tt
count_ascends i (suc n) = (
  all_weaken (λ x. (suc i ≤ x) × (x < suc i + n)) (λ x. ltb i x ≡ true) (λ x h. lt-ltb i x h.0) (count_from (suc i) n) (count_low (suc i) n),
  count_ascends (suc i) n,
)

count_mem : (i n d : ℕ) → d < n → Memᴰ (i + d) (count_from i n)
unfolding count_from
count_mem i zero d h = absurd (omega arith)
count_mem i (suc n) zero h = let e : i + 0 ≡ i = omega arith in mathlib.Core.List.Memᴰ.head e
count_mem i (suc n) (suc d) h = let e : i + suc d ≡ suc i + d = omega arith in rw e (mathlib.Core.List.Memᴰ.tail (count_mem (suc i) n d (omega arith)))

-- ---- jobs

-- A job of the grid.
pub record InGrid (rows cols : ℕ) (j : Job) : Type 0 where
  pub row : j.first < rows
  pub column : j.second < cols

-- Both strip numbers are below the strip counts.
pub in_grid : (rows cols : ℕ) (j : Job) → (ltb j.first rows && ltb j.second cols) ≡ true → InGrid rows cols j
in_grid rows cols j h =
    let w = (and-eq-true_iff (ltb j.first rows) (ltb j.second cols)).0 h in
    record { row = ltb-true j.first rows w.0; column = ltb-true j.second cols w.1 }

abbrev job_before : Job → Job → Bool
job_before = lex (on ltb (λ j. j.first)) (on ltb (λ j. j.second))

pub same_job : (i j : Job) → (i.first ≡ j.first) × (i.second ≡ j.second) → i ≡ j
same_job i j h = λ t. record { first = h.0 t; second = h.1 t }

job_order : StrictOrder job_before
job_order = strict (lex_order (by_number_lem (λ j. j.first)) (by_number_lem (λ j. j.second))) same_job

pub jobs_in_grid : (rows cols : ℕ) (j : Job) → Memᴰ j (jobs rows cols) → InGrid rows cols j
unfolding jobs
jobs_in_grid rows cols j m =
    let w = mem_product job_of (count_from 0 rows) (count_from 0 cols) m in
    let r = all_mem (λ x. (0 ≤ x) × (x < 0 + rows)) (count_low 0 rows) w.2 in
    let c = all_mem (λ x. (0 ≤ x) × (x < 0 + cols)) (count_low 0 cols) w.3 in
    let e = w.4 in
    record { row = omega (arith, ap (λ (i : Job). i.first) e); column = omega (arith, ap (λ (i : Job). i.second) e) }

pub in_grid_jobs : (rows cols : ℕ) (j : Job) → InGrid rows cols j → Memᴰ j (jobs rows cols)
unfolding jobs
in_grid_jobs rows cols j h =
    let r : Memᴰ (0 + j.first) (count_from 0 rows) = count_mem 0 rows j.first h.row in
    let c : Memᴰ (0 + j.second) (count_from 0 cols) = count_mem 0 cols j.second h.column in
    let e : 0 + j.first ≡ j.first = omega arith in
    let f : 0 + j.second ≡ j.second = omega arith in
    product_mem job_of (count_from 0 rows) (count_from 0 cols) (rw e at r) (rw f at c)

pub jobs_distinct : (rows cols : ℕ) → Distinct (jobs rows cols)
unfolding jobs
jobs_distinct rows cols =
    ascends_distinct job_order (product job_of (count_from 0 rows) (count_from 0 cols))
    (product_ascends job_of ltb ltb job_before
    (λ i k j l h. lex_less (on ltb (λ x. x.first)) (on ltb (λ x. x.second)) (job_of i j) (job_of k l) h)
    (λ i j l h. lex_next (on ltb (λ x. x.first)) (on ltb (λ x. x.second)) (job_of i j) (job_of i l) (irrefl ltb_order i) (irrefl ltb_order i) ∙ h)
    (count_from 0 rows) (count_from 0 cols) (count_ascends 0 rows) (count_ascends 0 cols))

-- Some jobs of the grid and one more.
pub inside_more : {rows cols : ℕ} (j : Job) (l : List Job) → InGrid rows cols j → All (InGrid rows cols) l
    → All (InGrid rows cols) (l ++ (j ∷ []))
inside_more {rows} {cols} j l g h =
    let inside = InGrid rows cols in
    all_append inside l (j ∷ []) h (all_cons inside j [] g (all_nil inside))

-- Some jobs of the grid, each once, are those that a test of being among them keeps.
pub kept_jobs : (rows cols : ℕ) (test : Job → Bool) (l : List Job) → Distinct l → All (InGrid rows cols) l
    → ((j : Job) → InGrid rows cols j → test j ≡ true → Memᴰ j l) → ((j : Job) → Memᴰ j l → test j ≡ true)
    → Permᴰ l (keep test (jobs rows cols))
kept_jobs rows cols test l d inside f g =
    members_perm job_order l (keep test (jobs rows cols)) d (distinct_keep test (jobs rows cols) (jobs_distinct rows cols))
    (λ j m. mem_keep test (jobs rows cols) (in_grid_jobs rows cols j (all_mem (InGrid rows cols) inside m)) (g j m))
    (λ j m. let w = keep_mem test (jobs rows cols) m in f j (jobs_in_grid rows cols j w.0) w.1)

-- ---- pairs of jobs

-- An entry of a job's pairs: its places are inside, its squared distance is theirs, 1 or more, and their strips are the
-- job's.
pub record OfJob (ends ends' : List ℕ) (a b : List Site) (j : Job) (e : Entry) : Type 0 where
  pub first : e.first < length a
  pub second : e.second < length b
  pub distance : e.distance ≡ squared_distance (site_at a e.first) (site_at b e.second)
  pub counts : apart e ≡ true
  pub holding : strip_holding ends e.first ≡ j.first
  pub holding' : strip_holding ends' e.second ≡ j.second

module _ (ends ends' : List ℕ) (a b : List Site) where
  pub jobs_pairs_append : (l m : List Job) → jobs_pairs ends ends' a b (l ++ m) ≡ jobs_pairs ends ends' a b l ++ jobs_pairs ends ends' a b m
  unfolding jobs_pairs
  jobs_pairs_append l m = flat_append (job_pairs ends ends' a b) l m

  pub pairs_one : (j : Job) → jobs_pairs ends ends' a b (j ∷ []) ≡ job_pairs ends ends' a b j
  unfolding jobs_pairs flat_map
  pairs_one j = append-nil (job_pairs ends ends' a b j)

  -- One job more.
  pub jobs_pairs_snoc : (l : List Job) (j : Job) → jobs_pairs ends ends' a b (l ++ (j ∷ [])) ≡ jobs_pairs ends ends' a b l ++ job_pairs ends ends' a b j
  jobs_pairs_snoc l j = jobs_pairs_append l (j ∷ []) ∙ ap (λ (r : List Entry). jobs_pairs ends ends' a b l ++ r) (pairs_one j)

  -- The sequence of the jobs is free.
  pub jobs_pairs_perm : {l m : List Job} → Permᴰ l m → Permᴰ (jobs_pairs ends ends' a b l) (jobs_pairs ends ends' a b m)
  unfolding jobs_pairs
  jobs_pairs_perm p = flat_perm (job_pairs ends ends' a b) p

  module _ (cut : Cut (length a) ends) (cut' : Cut (length b) ends') where
    -- The pairs of all jobs are all pairs.
    pub grid_pairs : Permᴰ (all_pairs a b) (jobs_pairs ends ends' a b (jobs (length ends) (length ends')))
    unfolding jobs pairs job_pairs jobs_pairs
    grid_pairs =
        let rows = count_from 0 (length ends) in
        let cols = count_from 0 (length ends') in
        let of : Job → List Entry = λ j. product pair (strip_at ends a j.first) (strip_at ends' b j.second) in
        let p = product_flat pair job_of of (strip_at ends a) (strip_at ends' b) (λ i j. refl) rows cols in
        let parts = ap₂ (product pair) (sym (strips_whole a ends cut)) (sym (strips_whole b ends' cut')) in
        Permᴰ.trans (perm_keep apart (Permᴰ.trans (perm_eq parts) p))
        (perm_eq (keep_flat of apart (product job_of rows cols)))

    -- No pair stands twice among the pairs of distinct jobs.
    pub jobs_pairs_distinct : (test : Job → Bool) (l : List Job) → Permᴰ l (keep test (jobs (length ends) (length ends')))
        → Distinct (jobs_pairs ends ends' a b l)
    jobs_pairs_distinct test l p =
        let grid = jobs (length ends) (length ends') in
        let kept = keep test grid in
        let others = keep (λ j. not (test j)) grid in
        let all : Distinct (jobs_pairs ends ends' a b (kept ++ others)) =
        perm_distinct (jobs_pairs_perm (keep_split test grid)) (perm_distinct grid_pairs (whole_pairs_distinct a b)) in
        let parts : Distinct (jobs_pairs ends ends' a b kept ++ jobs_pairs ends ends' a b others) = rw jobs_pairs_append at all in
        perm_distinct (jobs_pairs_perm (Permᴰ.symm p)) (distinct_left (jobs_pairs ends ends' a b kept) (jobs_pairs ends ends' a b others) parts)

    -- What an entry of a job's pairs is, and that each such is there.
    pub job_entry : (j : Job) (e : Entry) → Memᴰ e (job_pairs ends ends' a b j) → OfJob ends ends' a b j e
    unfolding job_pairs strip_at strip_from strip_to site_at
    job_entry j e m =
        let w = mem_strip_pairs (strip_from ends j.first) (strip_to ends j.first) (strip_from ends' j.second) (strip_to ends' j.second) a b m in
        let p = mem_pairs a b (site (pos 0) (pos 0) 0) w.4 in
        record {
          first = p.first_below;
          second = p.second_below;
          distance = p.right;
          counts = p.counts;
          holding = strip_holds cut j.first (strip_of_place ends j.first e.first w.1) e.first w.0 w.1;
          holding' =
              strip_holds cut' j.second (strip_of_place ends' j.second e.second w.3) e.second w.2 w.3;
        }

    entry_job : (j : Job) (e : Entry) → OfJob ends ends' a b j e → Memᴰ e (job_pairs ends ends' a b j)
    unfolding job_pairs strip_at strip_from strip_to site_at
    entry_job j e h =
        let u = holding_inside cut e.first h.first in
        let v = holding_inside cut' e.second h.second in
        let p =
        pairs_mem e a b (site (pos 0) (pos 0) 0)
        (record { first_below = h.first; second_below = h.second; right = h.distance; counts = h.counts }) in
        rw (← h.holding, ← h.holding') (strip_pairs_mem _ _ _ _ a b u.1 u.2 v.1 v.2 p)

    -- Its job is one of the grid.
    entry_in_grid : (j : Job) (e : Entry) → OfJob ends ends' a b j e → InGrid (length ends) (length ends') j
    entry_in_grid j e h =
        let u = holding_inside cut e.first h.first in
        let v = holding_inside cut' e.second h.second in
        record { row = rw h.holding at u.0; column = rw h.holding' at v.0 }

    -- An entry of some jobs' pairs is of one of them.
    pub jobs_entry : (l : List Job) (e : Entry) → Memᴰ e (jobs_pairs ends ends' a b l)
        → (j : Job) × Memᴰ j l × OfJob ends ends' a b j e
    unfolding jobs_pairs
    jobs_entry l e m = let w = flat_mem (job_pairs ends ends' a b) l m in (w.0, w.1, job_entry w.0 e w.2)

    -- An entry of a job of the grid that a test keeps is one of the kept jobs' pairs.
    pub kept_entry : (test : Job → Bool) (j : Job) (e : Entry) → OfJob ends ends' a b j e → test j ≡ true
        → Memᴰ e (jobs_pairs ends ends' a b (keep test (jobs (length ends) (length ends'))))
    unfolding jobs_pairs
    kept_entry test j e h t =
        let grid = jobs (length ends) (length ends') in
        mem_flat (job_pairs ends ends' a b) (keep test grid)
        (mem_keep test grid (in_grid_jobs (length ends) (length ends') j (entry_in_grid j e h)) t) (entry_job j e h)
