-- What holds of the grid, B and the book after the opening and after each call.
use mathlib.Core.Path.{◌≡◌, refl, sym, ap, ◌∙◌}
use mathlib.Core.Bool.{false, not, cond}
use mathlib.Core.List.{List, [], ◌∷◌, map, append_assoc, append-nil, flat_map}
use Prim.Native.Nat.{ℕ, zero, suc, ◌≤◌}
use native.Mathlib.Omega.{arith}
use lib.Dec.{eqb}
use lib.ListN.{length, take, length-take, length-replicate}
use borrow.Author.Tests.{ne_eqb}
use Rattle.order.specs.Lists.{Distinct}
use Rattle.order.proofs.Best.{best, best_nil}
use Rattle.order.proofs.Lists.{all_nil}
use Rattle.order.proofs.Sorted.{best_of_best}
use Rattle.site.specs.Answer.{answer_unless, afterwards, refuse_if}
use Rattle.site.specs.SiteList.{Columns, sites}
use Rattle.site.proofs.Answer.{after_refused, or_else_first, or_else_second, fault_none}
use Rattle.site.proofs.Accepted.{both_accepted, accepted_length}
use Rattle.entry.specs.declared.Entry.{Entry}
use Rattle.entry.specs.Entry.{rank_before, k_up_to, best_k}
use Rattle.entry.specs.Results.{Results, entries_of, holding}
use Rattle.entry.proofs.Rank.{rank_order, k_between, lawful_lower}
use Rattle.entry.proofs.Results.{room_fewer, entries_holding, room_holding}
use Rattle.entry.proofs.Below.{cut_entries, lengths_holding}
use Rattle.join.specs.declared.Join.{Join}
use Rattle.customers.specs.declared.Campaign.{Campaign}
use Rattle.customers.specs.declared.Grid.{Grid}
use Rattle.customers.specs.Customers.{campaign_as, lowered}
use Rattle.campaign.specs.Grid.{Job, job_pairs, jobs_pairs}
use Rattle.campaign.specs.Soundness.{first_ends, second_ends}
use Rattle.campaign.specs.Calls.{opened, lower_answer, job_entries, accepted_job, job_answer}
use Rattle.batch.specs.Batch.{Batch, Row, rows_of, equal_columns, lawful_way, way_of, BatchValues, no_job, with_job_done, accepted_rows, batch_answer}
use Rattle.customers.proofs.CustomerLaws.{lowered_campaign, own_size, lowered_own}
use Rattle.campaign.proofs.LawfulEnds.{lawful_cut}
use Rattle.campaign.proofs.Grid.{InGrid, inside_more, jobs_pairs_snoc}
use Rattle.campaign.proofs.MarkLaws.{none_settled}
use Rattle.campaign.proofs.CustomerLaws.{opened_campaign, done_campaign, opened_own, job_own, opened_lawful, lowered_lawful, job_lawful}
use Rattle.demands.specs.Book.{Book, open_book, is_done, book_refusal, with_jobs, with_job, book_rows, book_batch, with_batch, book_lowering, book_entries}
use Rattle.demands.specs.Customers.{Act, grid_after}
use Rattle.demands.specs.History.{own, job, batch, lowering, Bench, bench_of, bench_after, with_k, book_after}
use Rattle.demands.proofs.Accepted.{OpeningAccepted}
use Rattle.demands.proofs.GridAfter.{grid_lawful, campaign_kept}
use Rattle.demands.proofs.Book.{once_more, book_pairs, length_book, lowered_book, InBook}
use Rattle.demands.proofs.Marked.{unsettled_job, marked_more}
use Rattle.demands.proofs.Invariant.{Invariant, few_entries, Fixed, fixed_of, Standing, job_refusal_lem, batch_refusal_lem, lower_refusal_lem}

-- ---- a job

module _ {a b : Columns} {c : Campaign} {r : Results} {book : Book} (i : Invariant a b c r book) (j : Job) where
  -- The list after the job is the book's with the job.
  job_entries_lem : (let old = entries_of c.entries r in
      job_entries c (sites a) (sites b) old j ≡ book_entries (sites a) (sites b) (with_job book j))
  unfolding job_entries book_entries best_k
  job_entries_lem =
      let pairs = job_pairs book.ends book.ends' (sites a) (sites b) j in
      let snoc = jobs_pairs_snoc book.ends book.ends' (sites a) (sites b) book.done j in
      rw (i.firsts, i.seconds, i.entries, i.k)
      (best_of_best rank_order book.k (book_pairs (sites a) (sites b) book) pairs
      ∙ ap (best rank_before book.k) (sym snoc))

  -- With the job settled, and its entries.
  after_accepted : InBook book j → is_done j book.done ≡ false
      → (let l = book_entries (sites a) (sites b) (with_job book j) in
      Invariant a b (done_campaign c (length l) j) (holding l r) (with_job book j))
  unfolding first_ends second_ends
  after_accepted inside new =
      let rows = length book.ends in
      let cols = length book.ends' in
      let l = book_entries (sites a) (sites b) (with_job book j) in
      record {
        lists = i.lists;
        lawful = i.lawful;
        ends = i.ends;
        ends' = i.ends';
        once = once_more rows cols j book.done i.once new;
        inside = inside_more j book.done inside i.inside;
        k = i.k;
        rows = i.rows;
        columns = i.columns;
        firsts = i.firsts;
        seconds = i.seconds;
        marks = marked_more i.marks j inside;
        room = room_holding book.k l r i.room (length_book (sites a) (sites b) (with_job book j));
        count = refl;
        entries = entries_holding l r;
      }

-- ---- a lowering

-- What the book does not refuse is a K from 1 to its own.
lower_k : (book : Book) (k : ℕ) → book_lowering book k ≡ 0 → (1 ≤ k) × (k ≤ book.k)
unfolding book_lowering
lower_k book k h = k_between book.k k (fault_none (k_up_to book.k k) 3 h)

module _ {a b : Columns} {c : Campaign} {r : Results} {book : Book} (i : Invariant a b c r book) where
  -- The marks stay, and of the entries the first.
  after_lowered : (k : ℕ) → 1 ≤ k → k ≤ book.k → Invariant a b (lowered_campaign c k) r (with_k book k)
  unfolding first_ends second_ends
  after_lowered k low most =
      let old = book_entries (sites a) (sites b) book in
      let cut = lowered_book (sites a) (sites b) book k most in
      record {
        lists = i.lists;
        lawful = lawful_lower book.k k i.lawful low most;
        ends = i.ends;
        ends' = i.ends';
        once = i.once;
        inside = i.inside;
        k = refl;
        rows = i.rows;
        columns = i.columns;
        firsts = i.firsts;
        seconds = i.seconds;
        marks = record { size = i.marks.size; few = i.marks.few; few' = i.marks.few'; settles = i.marks.settles };
        room = room_fewer r most i.room;
        count = rw i.count (sym (length-take k old) ∙ ap (λ (l : List Entry). length l) cut);
        entries = cut_entries book.k c.entries r i.room (few_entries i) k ∙ ap (take k) i.entries ∙ cut;
      }

-- ---- each call

module _ {customer : ℕ} {a b : Columns} {fixed : Fixed} {bench : Bench} {book : Book}
    (s : Standing customer a b fixed bench book) where
  -- An accepted job, by any way.
  pub after_done : (j : Job) (way : Join) → book_refusal book j ≡ 0
      → (let v = accepted_job way customer bench.grid (sites a) (sites b) bench.results j in
      Standing customer a b fixed (bench_of v.grid v.results) (with_job book j))
  unfolding accepted_job campaign_as
  after_done j way accepted =
      let g = bench.grid in
      let i = s.campaign in
      let u = unsettled_job book j accepted in
      let l = book_entries (sites a) (sites b) (with_job book j) in
      let room = room_fewer bench.results (length_book (sites a) (sites b) (with_job book j)) i.room in
      let few : g.second_strips ≤ 32 = rw i.columns i.marks.few' in
      let inside : InGrid g.first_strips g.second_strips j = rw (i.rows, i.columns) u.0 in
      rw (job_entries_lem i j) (record {
        number = s.number;
        lawful = job_lawful customer g (length l) j few inside s.lawful;
        campaign = rw (job_own customer g (length l) j) (after_accepted i j u.0 u.1);
        stays = rw (lengths_holding l bench.results room) s.stays;
      })

  -- A lowering that the book accepts.
  after_lower : (k : ℕ) → book_lowering book k ≡ 0
      → Standing customer a b fixed (bench_of (lowered customer bench.grid k) bench.results) (with_k book k)
  after_lower k accepted =
      let w = lower_k book k accepted in
      record {
        number = s.number;
        lawful = lowered_lawful customer bench.grid k ∙ s.lawful;
        campaign = rw (lowered_own customer bench.grid k) (after_lowered s.campaign k w.0 w.1);
        stays = s.stays;
      }

  -- A call lent B's own lists and columns, by the book's refusal number.
  after_number : {A : Type 0} (value : A → Bench) (n : ℕ) (values : A) (next : Book)
      → (n ≡ 0 → Standing customer a b fixed (value values) next)
      → Standing customer a b fixed (afterwards value (answer_unless n values) bench) (cond (eqb n 0) next book)
  unfolding afterwards answer_unless
  after_number value zero values next accepted = accepted refl
  after_number value (suc n) values next accepted = rw (ne_eqb (suc n) 0 (λ z. omega arith)) s

  pub after_job_lem : (j : Job) (way : Join)
      → Standing customer a b fixed (bench_after customer a b bench (job own j way)) (book_after book (job own j way))
  unfolding bench_after book_after job_answer
  after_job_lem j way = rw (job_refusal_lem s j) (after_number _ (book_refusal book j) _ (with_job book j) (after_done j way))

  pub after_lowering : (k : ℕ)
      → Standing customer a b fixed (bench_after customer a b bench (lowering own k)) (book_after book (lowering own k))
  unfolding bench_after book_after lower_answer
  after_lowering k = rw (lower_refusal_lem s k) (after_number _ (book_lowering book k) _ (with_k book k) (after_lower k))

  -- A refused call: nothing of the grid or of B's changes.
  pub after_refusal : {A : Type 0} (value : A → Bench) {n : ℕ} (values : A) → (n ≡ 0 → ⊥)
      → Standing customer a b fixed (afterwards value (answer_unless n values) bench) book
  after_refusal value values h = rw (← after_refused value values bench refl h) s

  -- Any call by another number: B's campaign stays.
  pub after_others : (n : ℕ) (a' b' : Columns) (r : Results) (act : Act) → (n ≡ customer → ⊥)
      → Standing customer a b fixed (bench_of (grid_after n bench.grid a' b' r act) bench.results) book
  after_others n a' b' r act apart = record {
    number = s.number;
    lawful = grid_lawful n bench.grid a' b' r act ∙ s.lawful;
    campaign = rw (campaign_kept customer n bench.grid a' b' r act s.number apart) s.campaign;
    stays = s.stays;
  }

-- ---- several jobs in one call

-- Accepted jobs, one after another.
after_rows : {customer : ℕ} {a b : Columns} {fixed : Fixed} {book : Book} (v : BatchValues)
    → Standing customer a b fixed (bench_of v.grid v.results) book → (l : List Row) → book_rows book l ≡ 0
    → (let w = accepted_rows customer (sites a) (sites b) v l in
    Standing customer a b fixed (bench_of w.grid w.results) (with_jobs book (map (λ x. x.job) l)))
unfolding book_rows accepted_rows with_job_done
after_rows {book} v s [] ok = rw (append-nil book.done) s
after_rows {book} v s (x ∷ l) ok =
    let rest = or_else_second (refuse_if (not (lawful_way x.way)) 8) _ ok in
    let first = after_done s x.job (way_of x.way) (or_else_first (book_refusal book x.job) _ rest) in
    rw (← append_assoc book.done (x.job ∷ []) (map (λ y. y.job) l))
    (after_rows {book = with_job book x.job} _ first l (or_else_second (book_refusal book x.job) _ rest))

pub after_batch : {customer : ℕ} {a b : Columns} {fixed : Fixed} {bench : Bench} {book : Book}
    (s : Standing customer a b fixed bench book) (l : Batch)
    → Standing customer a b fixed (bench_after customer a b bench (batch own l)) (book_after book (batch own l))
unfolding bench_after book_after batch_answer book_batch
after_batch {bench} {book} s l =
    rw (batch_refusal_lem s l)
    (after_number s _ (book_batch book l) _ (with_batch book l)
    (λ ok.
    let rows = or_else_second (refuse_if (not (equal_columns l)) 8) _ ok in
    after_rows (no_job bench.grid bench.results) s (rows_of l) rows))

-- ---- the opening

module _ {customer : ℕ} {g : Grid} {a b : Columns} {k : ℕ} {ends ends' : List ℕ} {r : Results}
    (size : length g.marks ≡ 1_024) (o : OpeningAccepted customer g a b k ends ends' r) where
  opened_campaign_lem : Invariant a b (opened_campaign (campaign_as customer g) k) r (open_book k ends ends')
  unfolding first_ends second_ends campaign_as book_entries jobs_pairs flat_map best_k Distinct is_done entries_of
  opened_campaign_lem =
      let accepted = both_accepted a b o.lists in
      record {
        lists = o.lists;
        lawful = o.lawful_k;
        ends = rw (accepted_length a accepted.0) o.cut;
        ends' = rw (accepted_length b accepted.1) o.cut';
        once = tt;
        inside = all_nil (InGrid (length ends) (length ends'));
        k = refl;
        rows = o.grid_ends.0;
        columns = o.grid_ends'.0;
        firsts = o.grid_ends.1;
        seconds = o.grid_ends'.1;
        marks = record {
          size = length-replicate {A = ℕ} (length (campaign_as customer g).marks) 0 ∙ own_size customer g ∙ size;
          few = (lawful_cut (length a.x) ends o.cut).few;
          few' = (lawful_cut (length b.x) ends' o.cut').few;
          settles = λ j h. none_settled (length (campaign_as customer g).marks) j;
        };
        room = o.room;
        count = ap (λ (l : List Entry). length l) (sym (best_nil rank_before k));
        entries = sym (best_nil rank_before k);
      }

  pub after_opening : (let bench = bench_of (opened customer g k) r in
      let book = open_book k ends ends' in
      Standing customer a b (fixed_of bench book) bench book)
  after_opening = record {
    number = o.number;
    lawful = opened_lawful customer g k o.lawful;
    campaign = rw (opened_own customer g k) opened_campaign_lem;
    stays = refl;
  }
