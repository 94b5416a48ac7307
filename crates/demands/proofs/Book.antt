-- The laws of the book: its settled jobs and its entries.
use mathlib.Core.Path.{◌≡◌, refl, ap}
use mathlib.Core.Logic.{⊎_elim}
use mathlib.Core.Bool.{Bool, true, false, ◌&&◌, ◌||◌, or-true, and-eq-true_iff}
use mathlib.Core.List.Memᴰ
use mathlib.Core.List.Permᴰ
use mathlib.Core.List.{List, [], ◌∷◌, ◌++◌, Memᴰ, Permᴰ}
use Prim.Native.Nat.{ℕ, ◌≤◌}
use native.Mathlib.Omega.{arith}
use lib.Dec.{eqb}
use lib.ListN.{length, take}
use lib.Seq.{take-take}
use borrow.Author.Tests.{eqb-true, eq-eqb}
use Rattle.order.specs.Lists.{all, keep, All, Distinct}
use Rattle.order.proofs.Order.{by_test, never_both}
use Rattle.order.proofs.Lists.{all_holds, keep_whole, keep_same, distinct_snoc, perm_eq}
use Rattle.order.proofs.Best.{length_best, best_perm}
use Rattle.site.specs.Site.{Site}
use Rattle.entry.specs.declared.Entry.{Entry}
use Rattle.entry.specs.Entry.{rank_before, best_k}
use Rattle.entry.proofs.Rank.{rank_order}
use Rattle.pairs.specs.KList.{k_list}
use Rattle.campaign.specs.Grid.{Job, jobs, jobs_pairs}
use Rattle.campaign.proofs.LawfulEnds.{Cut}
use Rattle.campaign.proofs.Grid.{InGrid, same_job, kept_jobs, jobs_pairs_perm, jobs_pairs_distinct, grid_pairs}
use Rattle.demands.specs.Book.{Book, is_done, book_entries, none_open}
use Rattle.demands.specs.History.{with_k}

-- ---- a job among some

pub done_mem : (j : Job) (l : List Job) → is_done j l ≡ true → Memᴰ j l
unfolding is_done
done_mem j [] h = never_both h refl
done_mem j (i ∷ l) h =
    by_test (eqb j.first i.first && eqb j.second i.second)
    (λ t.
    let w = (and-eq-true_iff (eqb j.first i.first) (eqb j.second i.second)).0 t in
    Memᴰ.head (same_job j i (eqb-true j.first i.first w.0, eqb-true j.second i.second w.1)))
    (λ f. Memᴰ.tail (done_mem j l (rw f at h)))

pub mem_done : (j : Job) (l : List Job) → Memᴰ j l → is_done j l ≡ true
unfolding is_done
mem_done j [] m = absurd (Memᴰ.not-nil m)
mem_done j (i ∷ l) m =
    ⊎_elim
    (λ (e : j ≡ i).
    let first = eq-eqb j.first i.first (ap (λ (x : Job). x.first) e) in
    let second = eq-eqb j.second i.second (ap (λ (x : Job). x.second) e) in
    simp (first, second))
    (λ (n : Memᴰ j l). rw (mem_done j l n) (or-true (eqb j.first i.first && eqb j.second i.second)))
    (Memᴰ.cases_cons m)

-- A job more changes nothing for any other.
pub done_other : (j i : Job) (l : List Job) → is_done j (i ∷ []) ≡ false → is_done j (l ++ (i ∷ [])) ≡ is_done j l
unfolding is_done
done_other j i [] h = h
done_other j i (x ∷ l) h =
    ap (λ (b : Bool). (eqb j.first x.first && eqb j.second x.second) || b) (done_other j i l h)

-- ---- the settled jobs of a grid

module _ (rows cols : ℕ) where
  -- A job not yet settled joins them.
  pub once_more : (j : Job) (l : List Job) → Distinct l → is_done j l ≡ false → Distinct (l ++ (j ∷ []))
  once_more j l d h =
      distinct_snoc j l d (λ m. never_both (mem_done j l m) h)

  module _ (l : List Job) (once : Distinct l) (inside : All (InGrid rows cols) l) where
    -- They are the jobs of the grid that the book has.
    pub done_kept : Permᴰ l (keep (λ j. is_done j l) (jobs rows cols))
    done_kept = kept_jobs rows cols (λ j. is_done j l) l once inside (λ j g h. done_mem j l h) (λ j m. mem_done j l m)

    -- Where none is open they are all jobs.
    pub all_done_lem : all (λ j. is_done j l) (jobs rows cols) ≡ true → Permᴰ l (jobs rows cols)
    all_done_lem h =
        let test : Job → Bool = λ j. is_done j l in
        rw (keep_whole test (jobs rows cols) (all_holds test (jobs rows cols) h)) at done_kept

  -- The same jobs settled are the same, in whatever sequence.
  pub same_done : (l m : List Job) → Distinct l → All (InGrid rows cols) l → Distinct m → All (InGrid rows cols) m
      → ((j : Job) → is_done j l ≡ is_done j m) → Permᴰ l m
  same_done l m once inside once' inside' same =
      let grid = jobs rows cols in
      Permᴰ.trans (done_kept l once inside)
      (Permᴰ.trans (perm_eq (keep_same (λ j. is_done j l) (λ j. is_done j m) grid (λ j n. same j)))
      (Permᴰ.symm (done_kept m once' inside')))

-- ---- the book's entries

-- The settled jobs' pairs.
abbrev pub book_pairs : List Site → List Site → Book → List Entry
book_pairs a b book = jobs_pairs book.ends book.ends' a b book.done

-- A job of the book's grid.
abbrev pub InBook : Book → Job → Type 0
InBook book = InGrid (length book.ends) (length book.ends')

-- A book of two lists: lawful ends, and each settled job once and inside the grid.
pub record LawfulBook (a b : List Site) (book : Book) : Type 0 where
  pub cut : Cut (length a) book.ends
  pub cut' : Cut (length b) book.ends'
  pub once : Distinct book.done
  pub inside : All (InBook book) book.done

module _ (a b : List Site) (book : Book) (o : LawfulBook a b book) where
  pub settled_pairs_distinct : Distinct (book_pairs a b book)
  settled_pairs_distinct =
      jobs_pairs_distinct book.ends book.ends' a b o.cut o.cut' (λ j. is_done j book.done) book.done
      (done_kept (length book.ends) (length book.ends') book.done o.once o.inside)

  -- Whenever no job is open, the book's entries are the K list.
  pub book_finished : none_open book ≡ true → book_entries a b book ≡ k_list book.k a b
  unfolding none_open book_entries k_list best_k
  book_finished h =
      let all = all_done_lem (length book.ends) (length book.ends') book.done o.once o.inside h in
      best_perm rank_order book.k
      (Permᴰ.trans (jobs_pairs_perm book.ends book.ends' a b all)
      (Permᴰ.symm (grid_pairs book.ends book.ends' a b o.cut o.cut')))

-- There are at most K.
pub length_book : (a b : List Site) (book : Book) → length (book_entries a b book) ≤ book.k
unfolding book_entries best_k
length_book a b book = omega (arith, length_best rank_before book.k (book_pairs a b book))

-- With a smaller K they are the first of them.
pub lowered_book : (a b : List Site) (book : Book) (k : ℕ) → k ≤ book.k
    → take k (book_entries a b book) ≡ book_entries a b (with_k book k)
unfolding book_entries best_k
lowered_book a b book k h = take-take k book.k _ h
