-- A smaller K in mid-campaign: answers and entries are those of a campaign opened with it. (02 j)
use Rattle.std.specs.Prelude.{◌≡◌, List, ℕ, length}
use Rattle.site.specs.Answer.{answered}
use Rattle.site.specs.SiteList.{Columns}
use Rattle.entry.specs.Results.{Results, below}
use Rattle.customers.specs.declared.Grid.{Grid}
use Rattle.campaign.specs.Grid.{Job}
use Rattle.campaign.specs.Calls.{open_answer}
use Rattle.demands.specs.Book.{Book, open_book, is_done}
use Rattle.demands.specs.Customers.{reading, Act, Told, grid, done, all_done, counted, map_answer, told}
use Rattle.demands.specs.History.{Call, Bench, bench_of}
use Rattle.demands.specs.Demand3.{Throughout}

-- What is told, the columns as far as the entries go.
unfoldable pub entries_told : Told → Told
entries_told (grid read) = grid read
entries_told (done read r swept counts) = done read (below read.entries r) swept counts
entries_told (all_done read r skipped counts) = all_done read (below read.entries r) skipped counts
entries_told (counted values) = counted values

-- Two benches "as if": to a customer their campaigns read the same, the entries are the same, and each call that gets
-- the same lists on both, and the columns of its bench, is answered the same: refusals, status, swept or skipped, counts.
pub record AsIf (customer : ℕ) (bench bench' : Bench) : Type 0 where
  pub campaign : reading customer bench.grid ≡ reading customer bench'.grid
  pub entries :
      (let count = (reading customer bench.grid).entries in
      below count bench.results ≡ below count bench'.results)
  pub answers :
      (a b : Columns) (act : Act)
      → map_answer entries_told (told customer bench.grid a b bench.results act)
      ≡ map_answer entries_told (told customer bench'.grid a b bench'.results act)

-- The same K in force, and "the same jobs settled".
pub record SameSettled (book book' : Book) : Type 0 where
  pub k : book.k ≡ book'.k
  pub jobs : (j : Job) → is_done j book.done ≡ is_done j book'.done

-- Along the calls of another bench: wherever the same K is in force there and the same jobs are settled, this one is as
-- if it were that one.
unfoldable pub AsIfAlong : ℕ → Columns → Columns → Bench → Book → List Call → Bench → Book → Type 0
AsIfAlong customer a b other start calls bench book =
    Throughout (λ bench' book'. SameSettled book book' → AsIf customer bench bench') customer a b other start calls

-- "Where only campaign calls wrote the campaign and the lists stayed, answers and entries are, until K changes again, as
-- if it had been opened with the smaller K and the same jobs settled": B is opened with `k`, the other bench with `k'`
-- and all else alike; each has calls of its own, lowerings among them. It holds all along B's calls.
unfoldable pub SmallerK : Type 0
SmallerK =
    (customer : ℕ) (g : Grid) → length g.marks ≡ 1_024
    → (a b : Columns) (k k' : ℕ) (ends ends' : List ℕ) (r : Results) (h h' : Grid)
    → open_answer customer g a b k ends ends' r ≡ answered h
    → open_answer customer g a b k' ends ends' r ≡ answered h'
    → (calls calls' : List Call)
    → Throughout (AsIfAlong customer a b (bench_of h' r) (open_book k' ends ends') calls') customer a b (bench_of h r)
    (open_book k ends ends') calls
