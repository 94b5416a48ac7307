-- A smaller K in mid-campaign, whole.
use mathlib.Core.Path.{◌≡◌, sym, ap, ◌∙◌}
use Prim.Native.Nat.{ℕ}
use lib.ListN.{length}
use Rattle.order.proofs.Best.{best_perm}
use Rattle.site.specs.SiteList.{Columns, sites}
use Rattle.entry.specs.Entry.{best_k}
use Rattle.entry.specs.Results.{Results, below}
use Rattle.entry.proofs.Rank.{rank_order}
use Rattle.entry.proofs.Below.{columns_alone, room_same}
use Rattle.customers.specs.declared.Campaign.{Campaign}
use Rattle.customers.specs.Customers.{campaign_as}
use Rattle.campaign.specs.Soundness.{lawful_grid}
use Rattle.campaign.proofs.Grid.{jobs_pairs_perm}
use Rattle.demands.specs.Book.{Book, book_entries}
use Rattle.demands.specs.Customers.{reading_of, reading, Alike}
use Rattle.demands.specs.History.{Bench}
use Rattle.demands.specs.SmallerK.{AsIf, SameSettled, AsIfAlong, SmallerK}
use Rattle.demands.proofs.Readings.{SameColumns, same}
use Rattle.demands.proofs.Customers.{same_told}
use Rattle.demands.proofs.Book.{same_done}
use Rattle.demands.proofs.Invariant.{Invariant, Fixed, fixed_of, Standing}
use Rattle.demands.proofs.Marks.{same_marks}
use Rattle.demands.proofs.Demand3.{held_below, throughout, opened_standing}

-- What B's customer reads is as the book has it, but for the marks.
module _ {a b : Columns} {c : Campaign} {r : Results} {book : Book} (i : Invariant a b c r book) where
  read_book : reading_of c ≡ record {
    strips = length book.ends;
    strips' = length book.ends';
    ends = book.ends;
    ends' = book.ends';
    k = book.k;
    entries = length (book_entries (sites a) (sites b) book);
    marks = c.marks;
  }
  unfolding reading_of
  read_book = rw (i.firsts, i.seconds, i.rows, i.columns, i.k, i.count)

-- Two benches with the same lists, ends and lengths of columns; the same K is in force and the same jobs are settled.
module _ {customer : ℕ} {a b : Columns} {fixed : Fixed} {bench bench' : Bench} {book book' : Book}
    (s : Standing customer a b fixed bench book) (s' : Standing customer a b fixed bench' book')
    (equal : SameSettled book book') where
  stays : fixed_of bench book ≡ fixed_of bench' book'
  stays = s.stays ∙ sym s'.stays

  ends : book.ends ≡ book'.ends
  ends = ap (λ (x : Fixed). x.ends) stays

  ends' : book.ends' ≡ book'.ends'
  ends' = ap (λ (x : Fixed). x.ends') stays

  -- The entries of both books.
  same_entries : book_entries (sites a) (sites b) book ≡ book_entries (sites a) (sites b) book'
  unfolding book_entries best_k
  same_entries =
      let i = s.campaign in
      let i' = s'.campaign in
      let settled =
      same_done (length book'.ends) (length book'.ends') book.done book'.done i.once
      (rw (ends, ends') at i.inside) i'.once i'.inside equal.jobs in
      rw (equal.k, ends, ends')
      (best_perm rank_order book'.k (jobs_pairs_perm book'.ends book'.ends' (sites a) (sites b) settled))

  -- The customer's marks on both grids.
  same_own : (campaign_as customer bench.grid).marks ≡ (campaign_as customer bench'.grid).marks
  unfolding campaign_as lawful_grid
  same_own =
      let i = s.campaign in
      let i' = s'.campaign in
      let lawful = rw (i.rows, i.columns, ends, ends') at s.lawful in
      let lawful' = rw (i'.rows, i'.columns) at s'.lawful in
      same_marks (length book'.ends) (length book'.ends') customer bench.grid.marks bench'.grid.marks
      lawful lawful' (i.marks.size ∙ sym i'.marks.size)
      (λ j inside. i.marks.settles j (rw (ends, ends') inside) ∙ equal.jobs j ∙ sym (i'.marks.settles j inside))

  same_reading : reading customer bench.grid ≡ reading customer bench'.grid
  unfolding reading
  same_reading =
      read_book s.campaign
      ∙ rw (same_entries, same_own, ends, ends', equal.k) (sym (read_book s'.campaign))

  alike : Alike customer bench.grid bench'.grid
  alike = record { read = same_reading; lawful = s.lawful ∙ sym s'.lawful }

  -- The columns of both benches as far as the entries go.
  same_below : (let count = (campaign_as customer bench'.grid).entries in
      below count bench.results ≡ below count bench'.results)
  same_below =
      ap (λ (n : ℕ). below n bench.results) (sym (same alike).entries)
      ∙ held_below s.campaign
      ∙ ap columns_alone same_entries
      ∙ sym (held_below s'.campaign)

  -- A call finds the same in the columns of both benches.
  same_columns : SameColumns (campaign_as customer bench'.grid).entries bench.results bench'.results
  same_columns = record {
    shown = same_below;
    room = λ k. room_same k bench.results bench'.results (ap (λ (x : Fixed). x.lengths) stays);
  }

  as_if : AsIf customer bench bench'
  unfolding reading reading_of
  as_if = record {
    campaign = same_reading;
    entries = rw (same alike).entries same_below;
    answers = same_told alike same_columns;
  }

pub smaller_k_lem : SmallerK
unfolding SmallerK AsIfAlong
smaller_k_lem customer g size a b k k' ends ends' r h h' opens opens' calls calls' =
    let start = opened_standing customer g size a b k ends ends' r h opens in
    let start' = opened_standing customer g size a b k' ends ends' r h' opens' in
    throughout customer a b _ _
    (λ bench book s. throughout customer a b _ _ (λ bench' book' s'. as_if s s') start' calls') start calls
