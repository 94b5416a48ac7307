-- Demand 3: one claim over a whole list of calls.
use Rattle.std.specs.Prelude.{◌≡◌, true, ℕ, ◌<◌, ◌≤◌, ltb, length, get_or}
use mathlib.Core.List.{List, [], ◌∷◌, map, Memᴰ}
use Rattle.order.specs.Sort.{sort}
use Rattle.order.specs.Lists.{Distinct}
use Rattle.site.specs.Site.{Site}
use Rattle.site.specs.Answer.{answered, number_of}
use Rattle.site.specs.SiteList.{Columns, sites}
use Rattle.entry.specs.declared.Entry.{Entry}
use Rattle.entry.specs.Results.{Results, below, entries_of}
use Rattle.sweep.specs.declared.Way.TheVariants.{Classic}
use Rattle.sweep.specs.Strip.{all_pairs}
use Rattle.join.specs.declared.Join.TheVariants.{Sweep}
use Rattle.pairs.specs.KList.{KListValues, k_list_answer}
use Rattle.customers.specs.declared.Campaign.{Campaign}
use Rattle.customers.specs.declared.Grid.{Grid}
use Rattle.customers.specs.Customers.{campaign_as}
use Rattle.campaign.specs.Soundness.{campaign_refusal}
use Rattle.campaign.specs.Calls.{prepare_refusal, open_refusal, lower_refusal, job_refusal}
use Rattle.campaign.specs.Calls.{open_answer, lower_answer, job_answer, status_answer}
use Rattle.batch.specs.Batch.{batch_refusal, batch_answer}
use Rattle.demands.specs.Book.{Book, open_book, book_refusal, book_batch, book_lowering, book_entries, book_status, none_open}
use Rattle.demands.specs.History.{own, other_lists, other_columns}
use Rattle.demands.specs.History.{Call, job, batch, lowering, status, opening, others, preparing}
use Rattle.demands.specs.History.{Bench, bench_of, bench_after, book_after}

-- "For every other choice of as many distinct pairs, its i-th smallest distance is no smaller than theirs, for each i."
unfoldable pub NoChoiceBetter : List Site → List Site → List Entry → Type 0
NoChoiceBetter a b l =
    (choice : List Entry) → Distinct choice → ((e : Entry) → Memᴰ e choice → Memᴰ e (all_pairs a b))
    → length choice ≡ length l → (i : ℕ) → i < length choice
    → get_or (sort ltb (map (λ e. e.distance) l)) i 0 ≤ get_or (sort ltb (map (λ e. e.distance) choice)) i 0

-- Beside bench A, "an accepted K list by the classic sweep": both counts are the same, and all columns below them.
unfoldable pub LikeBenchA : Columns → Columns → ℕ → Campaign → Results → Type 0
LikeBenchA a b k c r =
    (r' : Results) (v : KListValues) → k_list_answer (Sweep Classic) a b k r' ≡ answered v
    → (c.entries ≡ v.count)
    × (below c.entries r ≡ below v.count v.results)

-- "after the opening and after each call": B's campaign and result columns beside the book.
pub record Agrees (a b : Columns) (c : Campaign) (r : Results) (book : Book) : Type 0 where
  -- "B's entries are exactly the best K of its settled jobs' pairs."
  pub count : c.entries ≡ length (book_entries (sites a) (sites b) book)
  pub entries : entries_of c.entries r ≡ book_entries (sites a) (sites b) book
  -- "Whenever B has no open job, both benches hold equally many entries and the same ones in the same order."
  pub finished : none_open book ≡ true → LikeBenchA a b book.k c r
  pub none_better : none_open book ≡ true → NoChoiceBetter (sites a) (sites b) (entries_of c.entries r)

module _ (customer : ℕ) (a b : Columns) (bench : Bench) (book : Book) where
  -- "its job refusals and status answers are those of document 01's book", and so are the refusals of several jobs in one
  -- call and of lowerings, lent B's lists and columns; "only one that is refused may get other lists or columns"; of B's
  -- customer's openings, the refused ones; "the other's calls may stand between, and an accepted preparing ends both".
  -- `Next` is what holds then.
  unfoldable pub AtCall : Call → Type 0 → Type 0
  AtCall (job own j way) Next =
      (number_of (job_answer way customer bench.grid a b bench.results j) ≡ book_refusal book j) × Next
  AtCall (job (other_lists a' b') j way) Next =
      (job_refusal customer bench.grid a' b' bench.results j ≡ 0 → ⊥) → Next
  AtCall (job (other_columns a' b' r) j way) Next = (job_refusal customer bench.grid a' b' r j ≡ 0 → ⊥) → Next
  AtCall (batch own l) Next =
      (number_of (batch_answer customer bench.grid a b bench.results l) ≡ book_batch book l) × Next
  AtCall (batch (other_lists a' b') l) Next =
      (batch_refusal customer bench.grid a' b' bench.results l ≡ 0 → ⊥) → Next
  AtCall (batch (other_columns a' b' r) l) Next = (batch_refusal customer bench.grid a' b' r l ≡ 0 → ⊥) → Next
  AtCall (lowering own k) Next =
      (number_of (lower_answer customer bench.grid a b k bench.results) ≡ book_lowering book k) × Next
  AtCall (lowering (other_lists a' b') k) Next =
      (lower_refusal customer bench.grid a' b' k bench.results ≡ 0 → ⊥) → Next
  AtCall (lowering (other_columns a' b' r) k) Next = (lower_refusal customer bench.grid a' b' k r ≡ 0 → ⊥) → Next
  AtCall (status own) Next =
      (status_answer customer bench.grid a b bench.results ≡ answered (book_status (sites a) (sites b) book)) × Next
  AtCall (status (other_lists a' b')) Next =
      (campaign_refusal customer bench.grid a' b' bench.results ≡ 0 → ⊥) → Next
  AtCall (status (other_columns a' b' r)) Next = (campaign_refusal customer bench.grid a' b' r ≡ 0 → ⊥) → Next
  AtCall (opening a' b' k ends ends' r) Next =
      (open_refusal customer bench.grid a' b' k ends ends' r ≡ 0 → ⊥) → Next
  AtCall (others n a' b' r act) Next = (n ≡ customer → ⊥) → Next
  AtCall (preparing a' b' ends ends') Next = (prepare_refusal a' b' ends ends' ≡ 0 → ⊥) → Next

-- Along a whole list of calls: what is claimed of B and the book holds before the first and after each, and each is
-- answered as told above.
module _ (Claim : Bench → Book → Type 0) (customer : ℕ) (a b : Columns) where
  unfoldable pub Throughout : Bench → Book → List Call → Type 0
  Throughout bench book [] = Claim bench book
  Throughout bench book (c ∷ l) =
      Claim bench book
      × AtCall customer a b bench book c (Throughout (bench_after customer a b bench c) (book_after book c) l)

-- Demand 3, whole, of either customer: for all grids (which have 1,024 marks), lists, K, lawful cuts and calls; "the result
-- columns may hold anything". After a lowering it holds with the K then in force, bench A's too. (02 j)
unfoldable pub Demand3 : Type 0
Demand3 =
    (customer : ℕ) (g : Grid) → length g.marks ≡ 1_024
    → (a b : Columns) (k : ℕ) (ends ends' : List ℕ) (r : Results) (g' : Grid)
    → open_answer customer g a b k ends ends' r ≡ answered g'
    → (calls : List Call)
    → Throughout (λ bench book. Agrees a b (campaign_as customer bench.grid) bench.results book) customer a b
    (bench_of g' r) (open_book k ends ends') calls
