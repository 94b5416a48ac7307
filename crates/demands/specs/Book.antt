-- "a book kept from the calls, never from the campaign or its result columns."
use Rattle.std.specs.Prelude.{Bool, false, not, ◌&&◌, ◌||◌, List, [], ◌∷◌, ◌++◌, map, ℕ, ◌*◌, ltb, eqb, length}
use Rattle.order.specs.Lists.{all}
use Rattle.site.specs.Site.{Site}
use Rattle.site.specs.Answer.{refuse_if, or_else}
use Rattle.entry.specs.declared.Entry.{Entry}
use Rattle.entry.specs.Entry.{k_up_to, best_k}
use Rattle.campaign.specs.Grid.{Job, jobs, jobs_pairs}
use Rattle.campaign.specs.Calls.{StatusValues, status_values}
use Rattle.batch.specs.Batch.{Batch, Row, rows_of, equal_columns, lawful_way}

-- The K in force, the cut ends of the opening, and the settled jobs.
pub record Book : Type 0 where
  pub k : ℕ
  pub ends : List ℕ
  pub ends' : List ℕ
  pub done : List Job

-- "It starts at an accepted opening, with its lists, K and cut ends, and no job settled."
abbrev pub open_book : ℕ → List ℕ → List ℕ → Book
open_book k ends ends' = record { k = k; ends = ends; ends' = ends'; done = [] }

unfoldable pub is_done : Job → List Job → Bool
is_done j [] = false
is_done j (i ∷ l) = (eqb j.first i.first && eqb j.second i.second) || is_done j l

-- "gets 8 if a strip number isn't below its list's strip count, else 9 if its job is settled in the book."
unfoldable pub book_refusal : Book → Job → ℕ
book_refusal book j =
    or_else (refuse_if (not (ltb j.first (length book.ends) && ltb j.second (length book.ends'))) 8)
    (refuse_if (is_done j book.done) 9)

-- The book with some jobs more.
abbrev pub with_jobs : Book → List Job → Book
with_jobs book l = record { k = book.k; ends = book.ends; ends' = book.ends'; done = book.done ++ l }

abbrev pub with_job : Book → Job → Book
with_job book j = with_jobs book (j ∷ [])

-- 02 m: of several jobs in one call, the first at fault: another way gets 8, and each job what the book has for it with
-- the jobs further up settled.
unfoldable pub book_rows : Book → List Row → ℕ
book_rows book [] = 0
book_rows book (x ∷ l) =
    or_else (refuse_if (not (lawful_way x.way)) 8)
    (or_else (book_refusal book x.job) (book_rows (with_job book x.job) l))

-- "unequal ones get 8, then the first job at fault refuses the call".
unfoldable pub book_batch : Book → Batch → ℕ
book_batch book l = or_else (refuse_if (not (equal_columns l)) 8) (book_rows book (rows_of l))

-- The book with the jobs of an accepted call.
abbrev pub with_batch : Book → Batch → Book
with_batch book l = with_jobs book (map (λ x. x.job) (rows_of l))

-- 02 j: a lowering gets 4 where it is not "to any number from 1 to the present K".
unfoldable pub book_lowering : Book → ℕ → ℕ
book_lowering book k = refuse_if (not (k_up_to book.k k)) 4

-- "the first K by rank of the settled jobs' pairs, or all where there are fewer, in rank order."
unfoldable pub book_entries : List Site → List Site → Book → List Entry
book_entries a b book = best_k book.k (jobs_pairs book.ends book.ends' a b book.done)

-- "the number of settled jobs, the product of the strip counts, the number of book entries, and K."
unfoldable pub book_status : List Site → List Site → Book → StatusValues
book_status a b book =
    status_values (length book.done) (length book.ends * length book.ends')
    (length (book_entries a b book)) book.k

-- "A job not settled is open": there is none.
unfoldable pub none_open : Book → Bool
none_open book = all (λ j. is_done j book.done) (jobs (length book.ends) (length book.ends'))
