-- The settled jobs of a grid, row by row, each from one column to the next, and how many there are.
use mathlib.Core.Path.{◌≡◌, refl, sym, ap, ap₂, ◌∙◌}
use mathlib.Core.Bool.{true, false}
use mathlib.Core.List.{List, [], ◌∷◌, ◌++◌, map}
use Prim.Native.Nat.{ℕ, zero, suc, ◌+◌, ◌-◌, ◌*◌, ◌≤◌, ◌<◌}
use native.Mathlib.Nat.{mul-le-mul}
use native.Mathlib.Omega.{arith}
use lib.Dec.{eqb}
use lib.ListN.{length, length-append, length-map}
use Rattle.order.specs.Lists.{keep}
use Rattle.order.proofs.Lists.{keep_yes, keep_no, keep_nil, keep_append, length_keep, kept_all}
use Rattle.sweep.specs.Strip.{product}
use Rattle.sweep.proofs.ProductLaws.{product_nil, product_cons, length_product}
use Rattle.customers.specs.declared.Campaign.{Campaign}
use Rattle.campaign.specs.Grid.{Job, job_of, count_from, jobs, settled, all_settled}

count_length : (i n : ℕ) → length (count_from i n) ≡ n
unfolding count_from
count_length i zero = refl
count_length i (suc n) = ap suc (count_length (suc i) n)

count_on : (b n : ℕ) → b < n → count_from b (n - b) ≡ b ∷ count_from (b + 1) (n - (b + 1))
unfolding count_from
count_on b n h =
    let e : n - b ≡ suc (n - (b + 1)) = omega arith in
    let f : b + 1 ≡ suc b = omega arith in
    rw (e, f)

count_end : (b n : ℕ) → n ≤ b → count_from b (n - b) ≡ []
unfolding count_from
count_end b n h = let e : n - b ≡ 0 = omega arith in rw e

-- ---- jobs counted so far, and jobs left

-- `count` jobs of `l` are counted, and those of `rest` are left.
pub record Counted (l rest : List Job) (count : ℕ) : Type 0 where
  pub number : count + length rest ≡ length l

pub counted_none : (l : List Job) → Counted l l 0
counted_none l = record { number = omega arith }

module _ {l part : List Job} {count : ℕ} (w : Counted l part count) where
  pub counted_many : (found rest : List Job) {n : ℕ} → part ≡ found ++ rest → n ≡ length found → Counted l rest (count + n)
  counted_many found rest e is =
      let lengths : length part ≡ length found + length rest = rw e (length-append found rest) in
      record { number = omega (arith, w.number) }

  pub counted_few : count ≤ length l
  counted_few = omega (arith, w.number)

  counted_all : part ≡ [] → count ≡ length l
  counted_all e = let none : length part ≡ 0 = rw e refl in omega (arith, w.number)

-- ---- a row

-- The settled jobs of row `a` from column `b` on.
unfoldable pub row_from : List ℕ → ℕ → ℕ → ℕ → List Job
row_from marks a n b = keep (settled marks) (map (job_of a) (count_from b (n - b)))

module _ (marks : List ℕ) (a n : ℕ) where
  pub row_whole : keep (settled marks) (map (job_of a) (count_from 0 n)) ≡ row_from marks a n 0
  unfolding row_from
  row_whole = let e : n - 0 ≡ n = omega arith in rw e

  pub row_end : (b : ℕ) → n ≤ b → row_from marks a n b ≡ []
  unfolding row_from
  row_end b h = rw (count_end b n h) (keep_nil (settled marks))

  pub row_few : length (row_from marks a n 0) ≤ n
  unfolding row_from
  row_few =
      omega (
        arith,
        length_keep (settled marks) (map (job_of a) (count_from 0 (n - 0))),
        length-map (count_from 0 (n - 0)) (job_of a),
        count_length 0 (n - 0),
      )

  pub row_done : (b : ℕ) {count : ℕ} → n ≤ b → Counted (row_from marks a n 0) (row_from marks a n b) count
      → count ≡ length (keep (settled marks) (map (job_of a) (count_from 0 n)))
  row_done b h w = rw row_whole (counted_all w (row_end b h))

  module _ (b : ℕ) (inside : b < n) where
    pub row_settled : settled marks (job_of a b) ≡ true → row_from marks a n b ≡ job_of a b ∷ row_from marks a n (b + 1)
    unfolding row_from
    row_settled s =
        rw (count_on b n inside) (keep_yes (settled marks) (job_of a b) (map (job_of a) (count_from (b + 1) (n - (b + 1)))) s)

    pub row_open : settled marks (job_of a b) ≡ false → row_from marks a n b ≡ row_from marks a n (b + 1)
    unfolding row_from
    row_open s =
        rw (count_on b n inside) (keep_no (settled marks) (job_of a b) (map (job_of a) (count_from (b + 1) (n - (b + 1)))) s)

-- ---- the rows

-- The settled jobs from row `a` on.
unfoldable pub rows_from : List ℕ → ℕ → ℕ → ℕ → List Job
rows_from marks rows n a = keep (settled marks) (product job_of (count_from a (rows - a)) (count_from 0 n))

module _ (marks : List ℕ) (rows n : ℕ) where
  pub rows_whole : keep (settled marks) (jobs rows n) ≡ rows_from marks rows n 0
  unfolding rows_from jobs
  rows_whole = let e : rows - 0 ≡ rows = omega arith in rw e

  pub rows_on : (a : ℕ) → a < rows
      → rows_from marks rows n a ≡ keep (settled marks) (map (job_of a) (count_from 0 n)) ++ rows_from marks rows n (a + 1)
  unfolding rows_from
  rows_on a h =
      ap (λ (l : List ℕ). keep (settled marks) (product job_of l (count_from 0 n))) (count_on a rows h)
      ∙ ap (keep (settled marks)) (product_cons job_of a (count_from (a + 1) (rows - (a + 1))) (count_from 0 n))
      ∙ keep_append (settled marks) (map (job_of a) (count_from 0 n)) (product job_of (count_from (a + 1) (rows - (a + 1))) (count_from 0 n))

  pub rows_end : (a : ℕ) → rows ≤ a → rows_from marks rows n a ≡ []
  unfolding rows_from
  rows_end a h =
      ap (λ (l : List ℕ). keep (settled marks) (product job_of l (count_from 0 n))) (count_end a rows h)
      ∙ ap (keep (settled marks)) (product_nil job_of (count_from 0 n))
      ∙ keep_nil (settled marks)

  pub rows_counted : (a : ℕ) → a < rows → {count m : ℕ} → Counted (rows_from marks rows n 0) (rows_from marks rows n a) count
      → m ≡ length (keep (settled marks) (map (job_of a) (count_from 0 n)))
      → Counted (rows_from marks rows n 0) (rows_from marks rows n (a + 1)) (count + m)
  rows_counted a h w is = counted_many w (keep (settled marks) (map (job_of a) (count_from 0 n))) _ (rows_on a h) is

  pub rows_done : (a : ℕ) {count : ℕ} → rows ≤ a → Counted (rows_from marks rows n 0) (rows_from marks rows n a) count
      → count ≡ length (keep (settled marks) (jobs rows n))
  rows_done a h w = rw rows_whole (counted_all w (rows_end a h))

  pub rows_few : rows ≤ 32 → n ≤ 32 → length (rows_from marks rows n 0) ≤ 1_024
  unfolding rows_from
  rows_few h g =
      let grid = product job_of (count_from 0 (rows - 0)) (count_from 0 n) in
      let r : length (count_from 0 (rows - 0)) ≤ 32 = omega (arith, count_length 0 (rows - 0)) in
      let c : length (count_from 0 n) ≤ 32 = omega (arith, count_length 0 n) in
      omega (
        arith,
        length_keep (settled marks) grid,
        length_product job_of (count_from 0 (rows - 0)) (count_from 0 n),
        mul-le-mul r c,
      )

-- All jobs are settled exactly where as many are as there are jobs.
pub all_counted : (c : Campaign) {n : ℕ} → n ≡ length (keep (settled c.marks) (jobs c.first_strips c.second_strips))
    → eqb n (c.first_strips * c.second_strips) ≡ all_settled c
unfolding all_settled jobs
all_counted c is =
    let rows = count_from 0 c.first_strips in
    let cols = count_from 0 c.second_strips in
    let whole : length (product job_of rows cols) ≡ c.first_strips * c.second_strips =
    length_product job_of rows cols ∙ ap₂ ◌*◌ (count_length 0 c.first_strips) (count_length 0 c.second_strips) in
    ap₂ eqb is (sym whole) ∙ kept_all (settled c.marks) (product job_of rows cols)
