-- A list under way in the columns: how it starts, and what finishing it asks.
use mathlib.Core.Path.{◌≡◌, sym, ◌∙◌}
use Prim.Native.Nat.{ℕ, ◌<◌}
use native.Mathlib.Omega.{arith}
use lib.Dec.{eqb}
use lib.ListN.{length}
use borrow.Author.Tests.{eqb-true}
use Rattle.order.specs.Terms.{Sorted}
use Rattle.order.proofs.Order.{by_test}
use Rattle.order.proofs.Best.{length_sort}
use Rattle.order.proofs.Heap.{heap_leaves}
use Rattle.order.proofs.Sorted.{sorted_sort, sort_sorted}
use Rattle.entry.specs.declared.Queue.{Queue}
use Rattle.entry.specs.Entry.{entry, rank_before}
use Rattle.entry.specs.Results.{Results, entries_of, holding}
use Rattle.entry.specs.Terms.{Ready, reach_of, queued, Queueing, FinishAsked, started}
use Rattle.entry.proofs.Rank.{rank_order}
use Rattle.entry.proofs.Results.{room_fewer, length_entries, last_distance_column, holding_self}

-- The list is in rank order.
pub sorted_queued : (q : Queue) (r : Results) → Sorted rank_before (queued q r)
unfolding queued
sorted_queued q r = sorted_sort rank_order (entries_of q.count r)

-- Its length is the queue's count.
pub length_queued : {q : Queue} {r : Results} → FinishAsked q r → length (queued q r) ≡ q.count
unfolding queued
length_queued {q} {r} h =
    let n = q.count in
    length_sort rank_before (entries_of n r) ∙ length_entries n n r h.room (omega arith)

pub queue_finishes : {k : ℕ} {q : Queue} {r : Results} → Queueing k q r → FinishAsked q r
queue_finishes {r = r} h = record { room = room_fewer r h.most h.room; in_order = λ end. (h.in_order end).0 }

-- While the last entry stands at the end there is nothing to finish.
pub finish_none : {q : Queue} {r : Results} → FinishAsked q r → (q.last ≡ 0 → ⊥) → r ≡ holding (queued q r) r
unfolding queued
finish_none {q} {r} h same =
    rw (sort_sorted rank_order (entries_of q.count r) (h.in_order same))
    (sym (holding_self q.count q.count r h.room (omega arith)))

-- Entries in rank order.
module _ {k count : ℕ} {r : Results} (h : Ready k count r) where
  -- They are the list that the queue starts with.
  pub queued_started : queued (started r.distance count k) r ≡ entries_of count r
  unfolding queued
  queued_started = sort_sorted rank_order (entries_of count r) h.sorted

  started_reach : 0 < k → (started r.distance count k).reach ≡ reach_of k (entries_of count r)
  unfolding reach_of
  started_reach some =
      rw (length_entries k count r h.room h.most)
      (by_test (eqb count k)
      (λ t.
      let full = eqb-true count k t in
      rw t (sym (last_distance_column k count r h.room h.most (omega arith))))
      (λ f. rw f))

  pub queue_starts : 0 < k → Queueing k (started r.distance count k) r
  queue_starts some = record {
    some = some;
    room = h.room;
    most = h.most;
    in_order = λ end. (h.sorted, omega arith);
    heap = λ top full.
        heap_leaves rank_before (entry 0 0 0) 0 (entries_of count r)
        (omega (arith, length_entries k count r h.room h.most));
    reach = rw queued_started (started_reach some);
  }
