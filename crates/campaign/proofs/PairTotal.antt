-- Counting the pairs of settled jobs.
use mathlib.Core.Path.{◌≡◌, refl, sym, ap, ◌∙◌}
use mathlib.Core.List.{List, [], ◌∷◌, ◌++◌, map, flat_map}
use Prim.Native.Nat.{ℕ, ◌+◌, ◌*◌, ◌≤◌, ◌<◌}
use native.Mathlib.Nat.{mul-le-mul}
use native.Mathlib.Omega.{arith}
use lib.IntN.{ℤ}
use lib.ListN.{length, length-append}
use Rattle.order.specs.Lists.{keep}
use Rattle.site.specs.Site.{Site}
use Rattle.site.specs.SiteList.{raised, sites}
use Rattle.site.specs.Terms.{Numbered}
use Rattle.site.proofs.Numbered.{numbered_some}
use Rattle.entry.specs.declared.Entry.{Entry}
use Rattle.sweep.specs.Strip.{pairs}
use Rattle.sweep.proofs.Strip.{length_strip, length_pairs_most}
use Rattle.campaign.specs.Grid.{strip_at, Job, job_of, count_from, jobs, settled, job_pairs, jobs_pairs}
use Rattle.campaign.specs.Terms.{LawfulColumns}
use Rattle.campaign.specs.Internal.{strip_from, strip_to}
use Rattle.campaign.proofs.Grid.{jobs_pairs_append, pairs_one}
use Rattle.campaign.proofs.SettledRows.{row_from, row_whole, row_end, rows_from, rows_whole, rows_on, rows_end}

-- No strip has more sites than its list.
strip_few : (ends : List ℕ) (l : List Site) (s : ℕ) → length (strip_at ends l s) ≤ length l
unfolding strip_at strip_from strip_to
strip_few ends l s = omega (arith, length_strip (strip_from ends s) (strip_to ends s) l)

module _ (ends ends' : List ℕ) where
  module _ (a b : List Site) (few : length a ≤ 65_535) (few' : length b ≤ 65_535) where
    pairs_few : (l : List Job) → length (jobs_pairs ends ends' a b l) ≤ 4_294_836_225 * length l
    unfolding jobs_pairs flat_map job_pairs
    pairs_few [] = omega arith
    pairs_few (j ∷ l) =
        let p = strip_at ends a j.first in
        let q = strip_at ends' b j.second in
        let n : length p ≤ 65_535 = omega (arith, strip_few ends a j.first) in
        let m : length q ≤ 65_535 = omega (arith, strip_few ends' b j.second) in
        omega (
          arith,
          length-append (pairs p q) (jobs_pairs ends ends' a b l),
          length_pairs_most p q,
          mul-le-mul n m,
          pairs_few l,
        )

  module _ (ax ay ah bx by bh : List ℤ) where
    -- `n` is how many pairs the jobs of `l` have.
    abbrev pub PairsOf : List Job → ℕ → Type 0
    PairsOf l n = Numbered ax ay ah bx by bh (λ a b. n ≡ length (jobs_pairs ends ends' a b l))

    -- `n` pairs of the jobs of `l` are counted, and those of the jobs of `rest` are left.
    pub record Left (l rest : List Job) (n : ℕ) : Type 0 where
      pub total :
          Numbered ax ay ah bx by bh (λ a b. n + length (jobs_pairs ends ends' a b rest) ≡ length (jobs_pairs ends ends' a b l))

    pub left_all : (l : List Job) → Left l l 0
    left_all l = record { total = record { numbered = λ an bn la lb. omega arith } }

    module _ {l part : List Job} {n : ℕ} (w : Left l part n) where
      left_many : (found rest : List Job) {m : ℕ} → part ≡ found ++ rest → PairsOf found m → Left l rest (n + m)
      left_many found rest e is = record {
        total = record {
          numbered = λ an bn la lb.
              let of = jobs_pairs ends ends' (sites (raised ax ay an ah)) (sites (raised bx by bn bh)) in
              let split : length (of part) ≡ length (of found) + length (of rest) =
              rw (e, jobs_pairs_append ends ends' (sites (raised ax ay an ah)) (sites (raised bx by bn bh)) found rest)
              (length-append (of found) (of rest)) in
              omega (arith, w.total.numbered an bn la lb, is.numbered an bn la lb);
        };
      }

      pub left_one : (j : Job) (rest : List Job) {m : ℕ} → part ≡ j ∷ rest
          → Numbered ax ay ah bx by bh (λ a b. m ≡ length (job_pairs ends ends' a b j)) → Left l rest (n + m)
      left_one j rest e is =
          left_many (j ∷ []) rest e (record {
            numbered = λ an bn la lb.
                is.numbered an bn la lb ∙ ap (λ (r : List Entry). length r) (sym (pairs_one ends ends' _ _ j));
          })

      left_none : part ≡ [] → PairsOf l n
      unfolding jobs_pairs flat_map
      left_none e = record {
        numbered = λ an bn la lb.
            let of = jobs_pairs ends ends' (sites (raised ax ay an ah)) (sites (raised bx by bn bh)) in
            let none : length (of part) ≡ 0 = rw e refl in
            omega (arith, w.total.numbered an bn la lb);
      }

      -- How many it can be.
      pub left_few : LawfulColumns ax ay ah → LawfulColumns bx by bh → n ≤ 4_294_836_225 * length l
      left_few h g =
          let s = numbered_some h.plane h.heights g.plane g.heights w.total in
          omega (arith, s.4, pairs_few s.0 s.1 (omega (arith, s.2, h.plane.few)) (omega (arith, s.3, g.plane.few)) l)

    -- ---- the pairs of a row, and of all rows

    module _ (marks : List ℕ) where
      pub row_pairs_lem : (s cols t : ℕ) → cols ≤ t → {n : ℕ} → Left (row_from marks s cols 0) (row_from marks s cols t) n
          → PairsOf (keep (settled marks) (map (job_of s) (count_from 0 cols))) n
      row_pairs_lem s cols t h w = rw (row_whole marks s cols) (left_none w (row_end marks s cols t h))

      pub rows_more : (rows cols s : ℕ) → s < rows → {n m : ℕ} → Left (rows_from marks rows cols 0) (rows_from marks rows cols s) n
          → PairsOf (keep (settled marks) (map (job_of s) (count_from 0 cols))) m
          → Left (rows_from marks rows cols 0) (rows_from marks rows cols (s + 1)) (n + m)
      rows_more rows cols s h w is =
          left_many w (keep (settled marks) (map (job_of s) (count_from 0 cols))) (rows_from marks rows cols (s + 1))
          (rows_on marks rows cols s h) is

      pub rows_pairs : (rows cols s : ℕ) → rows ≤ s → {n : ℕ} → Left (rows_from marks rows cols 0) (rows_from marks rows cols s) n
          → PairsOf (keep (settled marks) (jobs rows cols)) n
      rows_pairs rows cols s h w = rw (rows_whole marks rows cols) (left_none w (rows_end marks rows cols s h))
