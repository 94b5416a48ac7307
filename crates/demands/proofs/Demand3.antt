-- Demand 3, whole.
use mathlib.Core.Path.{◌≡◌, sym, ap, ◌∙◌}
use mathlib.Core.Bool.{true}
use mathlib.Core.List.{List, [], ◌∷◌}
use Prim.Native.Nat.{ℕ}
use lib.ListN.{length}
use Rattle.site.specs.Answer.{answered}
use Rattle.site.specs.SiteList.{Columns, sites}
use Rattle.site.proofs.Answer.{answer_number, answered_values}
use Rattle.entry.specs.declared.Entry.{Entry}
use Rattle.entry.specs.Results.{Results, below}
use Rattle.entry.proofs.Below.{columns_alone, below_holding, below_entries}
use Rattle.sweep.specs.declared.Way.TheVariants.{Classic}
use Rattle.join.specs.declared.Join.TheVariants.{Sweep}
use Rattle.pairs.specs.KList.{k_list}
use Rattle.customers.specs.declared.Campaign.{Campaign}
use Rattle.customers.specs.declared.Grid.{Grid}
use Rattle.campaign.specs.Calls.{prepare_answer, opened, open_refusal, open_answer, lower_refusal, lower_answer, job_refusal, job_answer}
use Rattle.batch.specs.Batch.{batch_refusal, batch_answer}
use Rattle.demands.specs.Book.{Book, open_book, book_entries, none_open}
use Rattle.demands.specs.History.{own, other_lists, other_columns, Call, job, batch, lowering, status, opening, others, preparing}
use Rattle.demands.specs.History.{Bench, bench_of, bench_after, book_after}
use Rattle.demands.specs.Demand3.{LikeBenchA, Agrees, AtCall, Throughout, Demand3}
use Rattle.demands.proofs.KClosest.{k_list_none_better, k_list_values_lem}
use Rattle.demands.proofs.Accepted.{accepted_opening}
use Rattle.demands.proofs.Book.{book_finished}
use Rattle.demands.proofs.Invariant.{Invariant, lawful_book, few_entries, Fixed, fixed_of, Standing, job_refusal_lem, batch_refusal_lem, lower_refusal_lem, status_answer_lem}
use Rattle.demands.proofs.History.{after_job_lem, after_batch, after_lowering, after_refusal, after_others, after_opening}

module _ {a b : Columns} {c : Campaign} {r : Results} {book : Book} (i : Invariant a b c r book) where
  -- B's columns below the count are those of the entries alone.
  pub held_below : below c.entries r ≡ columns_alone (book_entries (sites a) (sites b) book)
  held_below = below_entries book.k c.entries r i.room (few_entries i) ∙ ap columns_alone i.entries

  -- Where no job is open, B's entries are the K list.
  finished : none_open book ≡ true → book_entries (sites a) (sites b) book ≡ k_list book.k (sites a) (sites b)
  finished h = book_finished (sites a) (sites b) book (lawful_book i) h

  like_bench_a : none_open book ≡ true → LikeBenchA a b book.k c r
  unfolding LikeBenchA
  like_bench_a h r' v accepted =
      let l = k_list book.k (sites a) (sites b) in
      let count : c.entries ≡ length l = i.count ∙ ap (λ (x : List Entry). length x) (finished h) in
      rw (← k_list_values_lem (Sweep Classic) a b book.k r' v accepted)
      (count, held_below ∙ ap columns_alone (finished h) ∙ sym (below_holding l r'))

  agrees : Agrees a b c r book
  agrees = record {
    count = i.count;
    entries = i.entries;
    finished = like_bench_a;
    none_better = λ h. rw (i.entries, finished h) (k_list_none_better (sites a) (sites b) book.k);
  }

module _ (customer : ℕ) (a b : Columns) (fixed : Fixed) where
  -- At each call: the answer, and what holds after it.
  at_call : {bench : Bench} {book : Book} (s : Standing customer a b fixed bench book) (c : Call) (Next : Type 0)
      → (Standing customer a b fixed (bench_after customer a b bench c) (book_after book c) → Next)
      → AtCall customer a b bench book c Next
  unfolding AtCall bench_after book_after job_answer batch_answer lower_answer open_answer prepare_answer
  at_call {bench} s (job own j way) Next next = (
    answer_number (job_refusal customer bench.grid a b bench.results j) _ ∙ job_refusal_lem s j,
    next (after_job_lem s j way),
  )
  at_call s (job (other_lists a' b') j way) Next next = λ h. next (after_refusal s _ _ h)
  at_call s (job (other_columns a' b' r) j way) Next next = λ h. next (after_refusal s _ _ h)
  at_call {bench} s (batch own l) Next next = (
    answer_number (batch_refusal customer bench.grid a b bench.results l) _ ∙ batch_refusal_lem s l,
    next (after_batch s l),
  )
  at_call s (batch (other_lists a' b') l) Next next = λ h. next (after_refusal s _ _ h)
  at_call s (batch (other_columns a' b' r) l) Next next = λ h. next (after_refusal s _ _ h)
  at_call {bench} s (lowering own k) Next next = (
    answer_number (lower_refusal customer bench.grid a b k bench.results) _ ∙ lower_refusal_lem s k,
    next (after_lowering s k),
  )
  at_call s (lowering (other_lists a' b') k) Next next = λ h. next (after_refusal s _ _ h)
  at_call s (lowering (other_columns a' b' r) k) Next next = λ h. next (after_refusal s _ _ h)
  at_call s (status own) Next next = (status_answer_lem s, next s)
  at_call s (status (other_lists a' b')) Next next = λ h. next s
  at_call s (status (other_columns a' b' r)) Next next = λ h. next s
  at_call s (opening a' b' k ends ends' r) Next next = λ h. next (after_refusal s _ _ h)
  at_call s (others n a' b' r act) Next next = λ h. next (after_others s n a' b' r act h)
  at_call s (preparing a' b' ends ends') Next next = λ h. next (after_refusal s _ _ h)

  -- What follows from what holds between any two calls holds along any list of calls.
  module _ (Claim : Bench → Book → Type 0)
      (claimed : (bench : Bench) (book : Book) → Standing customer a b fixed bench book → Claim bench book) where
    pub throughout : {bench : Bench} {book : Book} → Standing customer a b fixed bench book → (calls : List Call)
        → Throughout Claim customer a b bench book calls
    unfolding Throughout
    throughout {bench} {book} s [] = claimed bench book s
    throughout {bench} {book} s (c ∷ l) = (
      claimed bench book s,
      at_call s c (Throughout Claim customer a b (bench_after customer a b bench c) (book_after book c) l)
          (λ after. throughout {bench = bench_after customer a b bench c} {book = book_after book c} after l),
    )

-- The start of the calls: an accepted opening.
pub opened_standing : (customer : ℕ) (g : Grid) → length g.marks ≡ 1_024
    → (a b : Columns) (k : ℕ) (ends ends' : List ℕ) (r : Results) (g' : Grid)
    → open_answer customer g a b k ends ends' r ≡ answered g'
    → (let bench = bench_of g' r in
    let book = open_book k ends ends' in
    Standing customer a b (fixed_of bench book) bench book)
unfolding open_answer
opened_standing customer g size a b k ends ends' r g' accepted =
    let w = answered_values (open_refusal customer g a b k ends ends' r) (opened customer g k) g' accepted in
    rw w.1 at (after_opening size (accepted_opening customer g a b k ends ends' r w.0))

pub demand3 : Demand3
unfolding Demand3
demand3 customer g size a b k ends ends' r g' accepted =
    throughout customer a b _ _ (λ bench book s. agrees s.campaign)
    (opened_standing customer g size a b k ends ends' r g' accepted)
