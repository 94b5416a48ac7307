-- A customer's own marks beside the book: what they settle, and which jobs they refuse.
use mathlib.Core.Path.{◌≡◌, refl, sym, ap, ◌∙◌}
use mathlib.Core.Bool.{Bool, false, not, cond, ◌&&◌}
use mathlib.Core.List.Memᴰ
use mathlib.Core.List.{List, [], ◌∷◌, ◌++◌}
use Prim.Native.Nat.{ℕ, ◌≤◌, ◌<◌}
use native.Mathlib.Omega.{arith}
use lib.Dec.{ltb}
use lib.ListN.{length, set, length-set}
use Rattle.order.proofs.Order.{by_test, never_both}
use Rattle.site.specs.Answer.{refuse_if, or_else}
use Rattle.site.proofs.Answer.{or_same, or_else_first, or_else_second, no_fault, fault_none}
use Rattle.campaign.specs.Grid.{Job, mark_of, settled}
use Rattle.campaign.specs.Calls.{job_fault}
use Rattle.batch.specs.Batch.{Row, lawful_way, rows_refusal}
use Rattle.campaign.proofs.Grid.{in_grid, same_job}
use Rattle.campaign.proofs.MarkLaws.{mark_below, mark_apart, settled_same, settled_other}
use Rattle.demands.specs.Book.{Book, is_done, book_refusal, with_job, book_rows}
use Rattle.demands.proofs.Book.{mem_done, done_mem, done_other, InBook}

-- What the book does not refuse is a job of the grid that is not settled.
pub unsettled_job : (book : Book) (j : Job) → book_refusal book j ≡ 0 → InBook book j × (is_done j book.done ≡ false)
unfolding book_refusal
unsettled_job book j h =
    let rows = length book.ends in
    let cols = length book.ends' in
    let outside = refuse_if (not (ltb j.first rows && ltb j.second cols)) 8 in
    (in_grid rows cols j (fault_none _ 7 (or_else_first outside _ h)), no_fault (is_done j book.done) 8 (or_else_second outside _ h))

-- The marks tell the settled jobs of the book, inside its grid.
pub record Marked (book : Book) (marks : List ℕ) : Type 0 where
  pub size : length marks ≡ 1024
  pub few : length book.ends ≤ 32
  pub few' : length book.ends' ≤ 32
  pub settles : (j : Job) → InBook book j → settled marks j ≡ is_done j book.done

module _ {book : Book} {marks : List ℕ} (m : Marked book marks) (j : Job) where
  -- A job is at fault as the book has it.
  pub job_fault_lem : job_fault (length book.ends) (length book.ends') marks j ≡ book_refusal book j
  unfolding job_fault book_refusal or_else
  job_fault_lem =
      let rows = length book.ends in
      let cols = length book.ends' in
      by_test (ltb j.first rows && ltb j.second cols)
      (λ t. rw t (ap (λ (x : Bool). cond x 9 0) (m.settles j (in_grid rows cols j t))))
      (λ f. rw f)

  -- With a job more: the marks tell the settled jobs and this one.
  module _ (g : InBook book j) where
    more_settles : (x : Job) → InBook book x → settled (set marks (mark_of j) 1) x ≡ is_done x (book.done ++ (j ∷ []))
    more_settles x h =
        by_test (is_done x (j ∷ []))
        (λ t.
        let e : x ≡ j = Memᴰ.eq_of_singleton (done_mem x (j ∷ []) t) in
        let mark : mark_of j < length marks =
        omega (arith, mark_below (length book.ends) (length book.ends') m.few' j g m.few, m.size) in
        rw e
        (settled_same marks j mark
        ∙ sym (mem_done j (book.done ++ (j ∷ [])) (Memᴰ.append_right book.done (Memᴰ.head refl)))))
        (λ f.
        let apart : mark_of x ≡ mark_of j → ⊥ =
        λ e.
        let same = same_job x j (mark_apart (length book.ends) (length book.ends') m.few' j g x h e) in
        never_both (mem_done x (j ∷ []) (Memᴰ.head same)) f in
        settled_other marks x j apart ∙ m.settles x h ∙ sym (done_other x j book.done f))

    pub marked_more : Marked (with_job book j) (set marks (mark_of j) 1)
    marked_more = record {
      size = length-set marks (mark_of j) 1 ∙ m.size;
      few = m.few;
      few' = m.few';
      settles = more_settles;
    }

-- Of several jobs in one call the first at fault is the book's: each that is not is settled for those further down.
pub rows_fault : {book : Book} {marks : List ℕ} → Marked book marks → (l : List Row)
    → rows_refusal (length book.ends) (length book.ends') marks l ≡ book_rows book l
unfolding rows_refusal book_rows
rows_fault m [] = refl
rows_fault {book} m (x ∷ l) =
    rw (job_fault_lem m x.job)
    (or_same (refuse_if (not (lawful_way x.way)) 8)
    (λ lawful.
    or_same (book_refusal book x.job)
    (λ accepted. rows_fault {book = with_job book x.job} (marked_more m x.job (unsettled_job book x.job accepted).0) l)))
