-- A list of calls around bench B, one customer's: what each call is lent, and what B and the book hold after it.
use Rattle.std.specs.Prelude.{cond, List, ℕ, eqb}
use Rattle.site.specs.Answer.{afterwards}
use Rattle.site.specs.SiteList.{Columns}
use Rattle.entry.specs.Results.{Results}
use Rattle.join.specs.declared.Join.{Join}
use Rattle.customers.specs.declared.Grid.{Grid}
use Rattle.campaign.specs.Grid.{Job}
use Rattle.campaign.specs.Calls.{prepare_answer, open_answer, lower_answer, job_answer}
use Rattle.batch.specs.Batch.{Batch, batch_answer}
use Rattle.demands.specs.Book.{Book, book_refusal, with_job, book_batch, with_batch, book_lowering}
use Rattle.demands.specs.Customers.{Act, grid_after}

-- What a job, a call for several, a lowering or a status of B's is lent beside the grid: B's two lists and columns, other
-- lists, or other columns.
pub data Lending : Type 0 where
  own : Lending
  other_lists : Columns → Columns → Lending
  other_columns : Columns → Columns → Results → Lending

-- A call, on the grid as the last call left it: a job, by any of the three ways, several jobs in one call, a lowering, a
-- status or an opening by B's customer; any call by another number, as "the other's calls may stand between"; or a preparing.
pub data Call : Type 0 where
  job : Lending → Job → Join → Call
  batch : Lending → Batch → Call
  lowering : Lending → ℕ → Call
  status : Lending → Call
  opening : Columns → Columns → ℕ → List ℕ → List ℕ → Results → Call
  others : ℕ → Columns → Columns → Results → Act → Call
  preparing : Columns → Columns → List ℕ → List ℕ → Call

-- What B holds: the grid with its customer's campaign, and its result columns.
pub record Bench : Type 0 where
  pub grid : Grid
  pub results : Results

abbrev pub bench_of : Grid → Results → Bench
bench_of g r = record { grid = g; results = r }

-- What B holds after a call, by the call's own answer. Only jobs lent B's columns write them.
unfoldable pub bench_after : ℕ → Columns → Columns → Bench → Call → Bench
bench_after customer a b bench (job own j way) =
    afterwards (λ v. bench_of v.grid v.results) (job_answer way customer bench.grid a b bench.results j) bench
bench_after customer a b bench (job (other_lists a' b') j way) =
    afterwards (λ v. bench_of v.grid v.results)
    (job_answer way customer bench.grid a' b' bench.results j) bench
bench_after customer a b bench (job (other_columns a' b' r) j way) =
    afterwards (λ v. bench_of v.grid bench.results) (job_answer way customer bench.grid a' b' r j) bench
bench_after customer a b bench (batch own l) =
    afterwards (λ v. bench_of v.grid v.results) (batch_answer customer bench.grid a b bench.results l) bench
bench_after customer a b bench (batch (other_lists a' b') l) =
    afterwards (λ v. bench_of v.grid v.results) (batch_answer customer bench.grid a' b' bench.results l) bench
bench_after customer a b bench (batch (other_columns a' b' r) l) =
    afterwards (λ v. bench_of v.grid bench.results) (batch_answer customer bench.grid a' b' r l) bench
bench_after customer a b bench (lowering own k) =
    afterwards (λ g. bench_of g bench.results) (lower_answer customer bench.grid a b k bench.results) bench
bench_after customer a b bench (lowering (other_lists a' b') k) =
    afterwards (λ g. bench_of g bench.results) (lower_answer customer bench.grid a' b' k bench.results) bench
bench_after customer a b bench (lowering (other_columns a' b' r) k) =
    afterwards (λ g. bench_of g bench.results) (lower_answer customer bench.grid a' b' k r) bench
bench_after customer a b bench (status lent) = bench
bench_after customer a b bench (opening a' b' k ends ends' r) =
    afterwards (λ g. bench_of g bench.results) (open_answer customer bench.grid a' b' k ends ends' r) bench
bench_after customer a b bench (others n a' b' r act) = bench_of (grid_after n bench.grid a' b' r act) bench.results
bench_after customer a b bench (preparing a' b' ends ends') =
    afterwards (λ g. bench_of g bench.results) (prepare_answer a' b' ends ends') bench

-- The book with another K.
abbrev pub with_k : Book → ℕ → Book
with_k book k = record { k = k; ends = book.ends; ends' = book.ends'; done = book.done }

-- The book after a call, "kept from that customer's calls alone": a job that the book does not refuse is settled, and so
-- are several in one call; a lowering that it does not refuse sets its K. "Status and refused calls change nothing."
unfoldable pub book_after : Book → Call → Book
book_after book (job own j way) = cond (eqb (book_refusal book j) 0) (with_job book j) book
book_after book (job (other_lists a' b') j way) = book
book_after book (job (other_columns a' b' r) j way) = book
book_after book (batch own l) = cond (eqb (book_batch book l) 0) (with_batch book l) book
book_after book (batch (other_lists a' b') l) = book
book_after book (batch (other_columns a' b' r) l) = book
book_after book (lowering own k) = cond (eqb (book_lowering book k) 0) (with_k book k) book
book_after book (lowering (other_lists a' b') k) = book
book_after book (lowering (other_columns a' b' r) k) = book
book_after book (status lent) = book
book_after book (opening a' b' k ends ends' r) = book
book_after book (others n a' b' r act) = book
book_after book (preparing a' b' ends ends') = book
