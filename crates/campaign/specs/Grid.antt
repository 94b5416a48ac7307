-- Cut ends, strips, jobs and marks.
use Rattle.std.specs.Prelude.{Bool, true, false, ◌&&◌, ◌||◌, ℕ, zero, suc, ◌+◌, ◌*◌, ◌/◌, ◌%◌, leb, ltb, eqb, length, get_or, take}
use mathlib.Core.List.{List, [], ◌∷◌, flat_map}
use Rattle.order.specs.Order.{ascending}
use Rattle.order.specs.Lists.{all, keep, last}
use Rattle.site.specs.Site.{Site}
use Rattle.entry.specs.declared.Entry.{Entry}
use Rattle.sweep.specs.Strip.{Placed, strip, product, pairs}
use Rattle.customers.specs.declared.Campaign.{Campaign}
use Rattle.customers.specs.Customers.{settled_at}

-- "at most 32 per list, strictly ascending, each above 0, the last equal to the list's length; an empty list has none."
unfoldable pub lawful_ends : ℕ → List ℕ → Bool
lawful_ends n ends = leb (length ends) 32 && (ascending ltb (0 ∷ ends) && eqb (last 0 ends) n)

-- The same numbers in the same order.
unfoldable pub same_numbers : List ℕ → List ℕ → Bool
same_numbers [] [] = true
same_numbers [] (y ∷ m) = false
same_numbers (x ∷ l) [] = false
same_numbers (x ∷ l) (y ∷ m) = eqb x y && same_numbers l m

-- Cut ends are those in use of a grid's 32 for the list.
unfoldable pub same_ends : ℕ → List ℕ → List ℕ → Bool
same_ends strips slots ends = eqb strips (length ends) && same_numbers (take strips slots) ends

-- "Strip s runs from end s-1 (or 0) up to, not including, end s."
unfoldable pub strip_at : List ℕ → List Site → ℕ → List Placed
strip_at ends l s = strip (get_or (0 ∷ ends) s 0) (get_or ends s 0) l

-- The strip that holds a place: as many ends as are at most the place stand before it.
unfoldable pub strip_holding : List ℕ → ℕ → ℕ
strip_holding ends place = length (keep (λ e. leb e place) ends)

-- "A job is a strip of each list."
pub record Job : Type 0 where
  pub first : ℕ
  pub second : ℕ

abbrev pub job_of : ℕ → ℕ → Job
job_of a b = record { first = a; second = b }

-- The numbers from `i` on, `n` of them.
unfoldable pub count_from : ℕ → ℕ → List ℕ
count_from i zero = []
count_from i (suc n) = i ∷ count_from (suc i) n

-- All jobs of a grid.
unfoldable pub jobs : ℕ → ℕ → List Job
jobs rows cols = product job_of (count_from 0 rows) (count_from 0 cols)

-- "job (a, b) is mark 32 × a + b".
unfoldable pub mark_of : Job → ℕ
mark_of j = 32 * j.first + j.second

-- "and 1 means settled", of a customer's own marks.
unfoldable pub settled : List ℕ → Job → Bool
settled marks j = eqb (get_or marks (mark_of j) 0) 1

unfoldable pub settled_jobs : Campaign → List Job
settled_jobs c = keep (settled c.marks) (jobs c.first_strips c.second_strips)

-- "A job not settled is open": none is.
unfoldable pub all_settled : Campaign → Bool
all_settled c = all (settled c.marks) (jobs c.first_strips c.second_strips)

-- The marks of a grid with a customer's job settled.
abbrev pub settle : ℕ → List ℕ → Job → List ℕ
settle customer marks j = settled_at customer marks (mark_of j)

-- 02 e: "within 0 to 3 and inside the jobs": mark number `i` is.
unfoldable pub lawful_mark : ℕ → ℕ → ℕ → ℕ → Bool
lawful_mark rows cols i m = leb m 3 && (eqb m 0 || (ltb (i / 32) rows && ltb (i % 32) cols))

-- The marks from number `i` on are.
unfoldable pub lawful_marks : ℕ → ℕ → ℕ → List ℕ → Bool
lawful_marks rows cols i [] = true
lawful_marks rows cols i (m ∷ l) = lawful_mark rows cols i m && lawful_marks rows cols (suc i) l

-- "A job's pairs are all pairs with the first place in its first-list strip and the second in its second-list strip."
unfoldable pub job_pairs : List ℕ → List ℕ → List Site → List Site → Job → List Entry
job_pairs ends ends' a b j = pairs (strip_at ends a j.first) (strip_at ends' b j.second)

-- The pairs of some jobs, one job after the other.
unfoldable pub jobs_pairs : List ℕ → List ℕ → List Site → List Site → List Job → List Entry
jobs_pairs ends ends' a b l = flat_map (job_pairs ends ends' a b) l
