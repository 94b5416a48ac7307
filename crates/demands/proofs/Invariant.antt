-- What holds of the grid, B and the book between any two calls, and what follows from it: B passes every test for 7.
use mathlib.Core.Path.{◌≡◌, sym, ap, ◌∙◌}
use mathlib.Core.Bool.{Bool, true, not}
use mathlib.Core.List.{List, Memᴰ, Permᴰ}
use Prim.Native.Nat.{ℕ, ◌≤◌, min}
use native.Mathlib.Omega.{arith}
use lib.ListN.{length}
use borrow.Author.Tests.{le-leb, eq-eqb}
use Rattle.order.specs.Order.{ascending}
use Rattle.order.specs.Lists.{all, keep, All, Distinct}
use Rattle.order.proofs.Lists.{mem_all, all_mem, holds_all, perm_length, keep_same}
use Rattle.order.proofs.Best.{length_best}
use Rattle.order.proofs.Sorted.{mem_best, ascends_best, ascends_ascending}
use Rattle.site.specs.Answer.{answered, refuse_if, or_else}
use Rattle.site.specs.SiteList.{Columns, sites}
use Rattle.site.specs.Refusal.{lists_refusal}
use Rattle.site.proofs.Answer.{answer_values, or_none, or_nothing}
use Rattle.entry.specs.declared.Entry.{Entry}
use Rattle.entry.specs.Entry.{rank_before, k_up_to, best_k, lawful_k}
use Rattle.entry.specs.Results.{Results, entries_of, room_for}
use Rattle.entry.proofs.Rank.{rank_order}
use Rattle.entry.proofs.Below.{lengths_of}
use Rattle.customers.specs.declared.Campaign.{Campaign}
use Rattle.customers.specs.Customers.{is_customer, campaign_as}
use Rattle.campaign.specs.Grid.{lawful_ends, Job, jobs, settled, settled_jobs, jobs_pairs}
use Rattle.campaign.specs.Soundness.{first_ends, second_ends, sound_entry, sound, lawful_grid, customer_refusal, caller_refusal, keeper_refusal, campaign_refusal}
use Rattle.campaign.specs.Calls.{lower_refusal, job_refusal, status_answer}
use Rattle.batch.specs.Batch.{Batch, rows_of, equal_columns, batch_refusal}
use Rattle.campaign.proofs.LawfulEnds.{lawful_cut}
use Rattle.campaign.proofs.Grid.{jobs_in_grid, jobs_entry, jobs_pairs_perm}
use Rattle.campaign.proofs.SoundEntry.{of_job_sound}
use Rattle.demands.specs.Book.{Book, is_done, book_refusal, book_batch, book_lowering, book_entries, book_status}
use Rattle.demands.specs.History.{Bench}
use Rattle.demands.proofs.Book.{mem_done, done_kept, book_pairs, InBook, LawfulBook, settled_pairs_distinct, length_book}
use Rattle.demands.proofs.Marked.{Marked, job_fault_lem, rows_fault}

-- B's lists, campaign and result columns beside the book.
pub record Invariant (a b : Columns) (c : Campaign) (r : Results) (book : Book) : Type 0 where
  pub lists : lists_refusal a b ≡ 0
  pub lawful : lawful_k book.k ≡ true
  pub ends : lawful_ends (length (sites a)) book.ends ≡ true
  pub ends' : lawful_ends (length (sites b)) book.ends' ≡ true
  pub once : Distinct book.done
  pub inside : All (InBook book) book.done
  pub k : c.k ≡ book.k
  pub rows : c.first_strips ≡ length book.ends
  pub columns : c.second_strips ≡ length book.ends'
  pub firsts : first_ends c ≡ book.ends
  pub seconds : second_ends c ≡ book.ends'
  pub marks : Marked book c.marks
  pub room : room_for book.k r ≡ true
  pub count : c.entries ≡ length (book_entries (sites a) (sites b) book)
  pub entries : entries_of c.entries r ≡ book_entries (sites a) (sites b) book

module _ {a b : Columns} {c : Campaign} {r : Results} {book : Book} (i : Invariant a b c r book) where
  pub lawful_book : LawfulBook (sites a) (sites b) book
  lawful_book = record {
    cut = lawful_cut (length (sites a)) book.ends i.ends;
    cut' = lawful_cut (length (sites b)) book.ends' i.ends';
    once = i.once;
    inside = i.inside;
  }

  pub few_entries : c.entries ≤ book.k
  few_entries = omega (arith, i.count, length_book (sites a) (sites b) book)

  -- The marks tell the settled jobs of the book.
  pub settled_done : Permᴰ book.done (settled_jobs c)
  unfolding settled_jobs
  settled_done =
      let rows = length book.ends in
      let cols = length book.ends' in
      let done : Job → Bool = λ j. is_done j book.done in
      let same : keep (settled c.marks) (jobs rows cols) ≡ keep done (jobs rows cols) =
      keep_same (settled c.marks) done (jobs rows cols)
      (λ j m. i.marks.settles j (jobs_in_grid rows cols j m)) in
      rw (i.rows, i.columns, same) (done_kept rows cols book.done i.once i.inside)

  sound_order : ascending rank_before (entries_of c.entries r) ≡ true
  unfolding book_entries best_k
  sound_order =
      let distinct = settled_pairs_distinct (sites a) (sites b) book lawful_book in
      rw i.entries (ascends_ascending rank_before _ (ascends_best rank_order book.k _ distinct))

  -- An entry is of a settled job.
  sound_entry_lem : (e : Entry) → Memᴰ e (entries_of c.entries r)
      → sound_entry c.marks book.ends book.ends' (sites a) (sites b) e ≡ true
  unfolding book_entries best_k
  sound_entry_lem e m =
      let pairs = book_pairs (sites a) (sites b) book in
      let n : Memᴰ e pairs = mem_best rank_before book.k pairs (rw i.entries at m) in
      let cut = lawful_book.cut in
      let cut' = lawful_book.cut' in
      let w = jobs_entry book.ends book.ends' (sites a) (sites b) cut cut' book.done e n in
      let j = w.0 in
      let done = i.marks.settles j (all_mem (InBook book) i.inside w.1) ∙ mem_done j book.done w.1 in
      of_job_sound c.marks book.ends book.ends' (sites a) (sites b) j e w.2 done

  -- The entries are as many as K or the settled jobs' pair total, the lesser.
  right_count_lem : (let pairs = jobs_pairs book.ends book.ends' (sites a) (sites b) (settled_jobs c) in
      c.entries ≡ min book.k (length pairs))
  unfolding book_entries best_k
  right_count_lem =
      i.count
      ∙ length_best rank_before book.k (book_pairs (sites a) (sites b) book)
      ∙ ap (min book.k) (perm_length (jobs_pairs_perm book.ends book.ends' (sites a) (sites b) settled_done))

  pub campaign_sound : sound c (sites a) (sites b) r ≡ true
  unfolding sound
  campaign_sound =
      let l = entries_of c.entries r in
      let test = sound_entry c.marks book.ends book.ends' (sites a) (sites b) in
      let entries : all test l ≡ true = holds_all test l (mem_all (λ e. test e ≡ true) l sound_entry_lem) in
      let few = le-leb (length book.ends) 32 i.marks.few in
      let few' = le-leb (length book.ends') 32 i.marks.few' in
      simp (
        i.k,
        i.rows,
        i.columns,
        i.firsts,
        i.seconds,
        i.lawful,
        few,
        few',
        i.ends,
        i.ends',
        i.room,
        sound_order,
        entries,
        eq-eqb _ _ right_count_lem,
      )

-- What stays from the opening on: the cut ends, and the lengths of B's columns.
pub record Fixed : Type 0 where
  pub ends : List ℕ
  pub ends' : List ℕ
  pub lengths : ℕ × ℕ × ℕ

abbrev pub fixed_of : Bench → Book → Fixed
fixed_of bench book = record { ends = book.ends; ends' = book.ends'; lengths = lengths_of bench.results }

-- What holds of the grid and of B beside the book: B's customer is one, no mark is out of place, what is fixed stays.
pub record Standing (customer : ℕ) (a b : Columns) (fixed : Fixed) (bench : Bench) (book : Book) : Type 0 where
  pub number : is_customer customer ≡ true
  pub lawful : lawful_grid bench.grid ≡ true
  pub campaign : Invariant a b (campaign_as customer bench.grid) bench.results book
  pub stays : fixed_of bench book ≡ fixed

module _ {customer : ℕ} {a b : Columns} {fixed : Fixed} {bench : Bench} {book : Book}
    (s : Standing customer a b fixed bench book) where
  -- Never 15, 1, 2 or 3, ..
  caller_accepted : caller_refusal customer a b ≡ 0
  unfolding caller_refusal customer_refusal or_else
  caller_accepted = simp (s.number, s.campaign.lists)

  -- .. and never 7.
  keeper_accepted : keeper_refusal customer bench.grid (sites a) (sites b) bench.results ≡ 0
  unfolding keeper_refusal
  keeper_accepted = simp (s.lawful, campaign_sound s.campaign)

  pub campaign_accepted : campaign_refusal customer bench.grid a b bench.results ≡ 0
  unfolding campaign_refusal
  campaign_accepted = or_none (caller_refusal customer a b) _ caller_accepted ∙ keeper_accepted

  -- "its job refusals .. are those of document 01's book", ..
  pub job_refusal_lem : (j : Job) → job_refusal customer bench.grid a b bench.results j ≡ book_refusal book j
  unfolding job_refusal campaign_as
  job_refusal_lem j =
      let i = s.campaign in
      or_none (campaign_refusal customer bench.grid a b bench.results) _ campaign_accepted
      ∙ rw (i.rows, i.columns) (job_fault_lem i.marks j)

  -- .. and so are those of several in one call ..
  pub batch_refusal_lem : (l : Batch) → batch_refusal customer bench.grid a b bench.results l ≡ book_batch book l
  unfolding batch_refusal book_batch campaign_as
  batch_refusal_lem l =
      let i = s.campaign in
      or_none (campaign_refusal customer bench.grid a b bench.results) _ campaign_accepted
      ∙ rw (i.rows, i.columns) (ap (or_else (refuse_if (not (equal_columns l)) 8)) (rows_fault i.marks (rows_of l)))

  -- .. and of its lowerings.
  pub lower_refusal_lem : (k : ℕ) → lower_refusal customer bench.grid a b k bench.results ≡ book_lowering book k
  unfolding lower_refusal book_lowering
  lower_refusal_lem k =
      or_none (caller_refusal customer a b) _ caller_accepted
      ∙ rw (keeper_accepted, s.campaign.k) (or_nothing (refuse_if (not (k_up_to book.k k)) 4))

  -- "and status answers".
  pub status_answer_lem : status_answer customer bench.grid a b bench.results
      ≡ answered (book_status (sites a) (sites b) book)
  unfolding status_answer book_status
  status_answer_lem =
      let i = s.campaign in
      sym (answer_values campaign_accepted)
      ∙ rw (← perm_length (settled_done i), i.rows, i.columns, i.count, i.k)
