-- Laws of a queue after an entry has come in.
use mathlib.Core.Path.{◌≡◌, refl, sym, ap, ◌∙◌}
use mathlib.Core.Bool.{Bool, true, false}
use mathlib.Core.List.{List, [], ◌∷◌, ◌++◌}
use Prim.Native.Nat.{ℕ, suc, ◌+◌, ◌-◌, ◌≤◌, ◌<◌, ◌^◌}
use native.Mathlib.Numerals.{add-one}
use native.Mathlib.Omega.{arith}
use lib.Dec.{eqb}
use lib.ListN.{length, take, get_or, set, length-append, length-set, drop_of_length-le}
use lib.Seq.{set_split}
use borrow.Author.Tests.{eq-eqb, ne_eqb, eqb-true, eqb-false}
use Rattle.order.specs.Lists.{last}
use Rattle.order.specs.Sort.{insert, sort}
use Rattle.order.proofs.Order.{by_test}
use Rattle.order.proofs.Lists.{last_map, last_at}
use Rattle.order.proofs.Best.{length_sort}
use Rattle.order.proofs.Sorted.{sort_sorted}
use Rattle.order.proofs.Heap.{heap_later, heap_last, heap_takes, room_takes}
use Rattle.entry.specs.declared.Entry.{Entry}
use Rattle.entry.specs.declared.Queue.{Queue}
use Rattle.entry.specs.Entry.{entry, rank_before, last_distance, offer}
use Rattle.entry.specs.Results.{Results, entries_of, room_for}
use Rattle.entry.specs.Terms.{Within, entry_at, reach_of, queued, Queueing, Offered}
use Rattle.entry.specs.Internal.{put_at, HeapAt, SiftAsked, Sifted, HeapedFrom, PushAsked, QueueOf}
use Rattle.entry.proofs.Rank.{rank_order, offer_weak}
use Rattle.entry.proofs.Results.{room_fewer, room_inside, length_entries, take_entries, read_entry}
use Rattle.entry.proofs.PutAt.{put_entries, put_within}
use Rattle.entry.proofs.Within.{within_none, within_room, within_twice}
use Rattle.entry.proofs.Queueing.{sorted_queued, length_queued, queue_finishes}
use Rattle.entry.proofs.HeapedFrom.{heaped_at}

abbrev none : Entry
none = entry 0 0 0

-- ---- a queue of `k`

-- The squared distance on top of a heap is the last.
top_reach : {k : ℕ} {r : Results} → 0 < k → HeapAt k r
    → get_or r.distance 0 0 ≡ reach_of k (sort rank_before (entries_of k r))
unfolding reach_of last_distance
top_reach {k} {r} some h =
    let l = entries_of k r in
    let size : length l ≡ k = length_entries k k r h.room (omega arith) in
    let full : length (sort rank_before l) ≡ k = length_sort rank_before l ∙ size in
    rw (
      eq-eqb (length (sort rank_before l)) k full,
      last_map (λ e. e.distance) none (sort rank_before l),
      heap_last rank_order none l h.heap (omega arith) none,
      read_entry k r h.room some refl,
    )

-- A heap of `k` entries as a queue.
pub queue_full : {k : ℕ} {l : List Entry} {before after : Results} {v : ℕ} → 0 < k → Within k before after
    → HeapAt k after
    → sort rank_before (entries_of k after) ≡ sort rank_before l → v ≡ get_or after.distance 0 0
    → QueueOf k l before after (record { count = k; last = 0; reach = v })
unfolding queued
queue_full some within h same is = record {
  queue = record {
    some = some;
    room = h.room;
    most = omega arith;
    in_order = λ end. absurd (end refl);
    heap = λ _ _. h.heap;
    reach = is ∙ top_reach some h;
  };
  list = same;
  within = within;
}

-- ---- an entry on top

module _ {k : ℕ} {r : Results} (some : 0 < k) (h : HeapAt k r) where
  pub replace_asks : SiftAsked k 0 r
  replace_asks = record {
    room = h.room;
    inside = some;
    past = heap_later rank_before none (entries_of k r) (omega arith) h.heap;
  }

  module _ {e : Entry} {after : Results} (sifted : Sifted k 0 e r after) where
    sifted_at : HeapAt k after
    sifted_at = record { room = within_room k h.room sifted.within; heap = sifted.heap }

    pub replaced : {v : ℕ} → v ≡ get_or after.distance 0 0
        → QueueOf k (set (entries_of k r) 0 e) r after (record { count = k; last = 0; reach = v })
    replaced is = queue_full some sifted.within sifted_at sifted.same is

-- ---- an entry behind the others

module _ {k count : ℕ} {r : Results} (asked : PushAsked k count r) (e : Entry) {after : Results}
    (put : after ≡ put_at count e r) where
  -- Room for one more.
  more : room_for (suc count) r ≡ true
  more = room_fewer r asked.under asked.room

  push_within : Within (suc count) r after
  push_within = rw put (put_within count e r (suc count) (omega arith) more)

  push_entries : entries_of (suc count) after ≡ entries_of count r ++ (e ∷ [])
  push_entries =
      let l = entries_of (suc count) r in
      let size : length l ≡ suc count = length_entries (suc count) (suc count) r more (omega arith) in
      rw (put, put_entries count e r (suc count) (omega arith))
      (set_split l count e (omega arith) ∙ rw (
        drop_of_length-le l {i = suc count} (omega arith),
        take_entries count (suc count) r (omega arith),
      ))

  pub push_builds : room_for k after ≡ true
  push_builds = within_room k asked.room push_within

  -- There is room for another.
  pub push_room : count + 1 < k
      → QueueOf k (entries_of count r ++ (e ∷ [])) r after (record { count = count + 1; last = 0; reach = 2 ^ 64 - 1 })
  unfolding queued reach_of
  push_room few =
      let l : List Entry = entries_of count r ++ (e ∷ []) in
      let same : entries_of (count + 1) after ≡ l = rw (add-one count) push_entries in
      let size : length (sort rank_before l) ≡ suc count =
      rw (length_sort, ← push_entries) (length_entries (suc count) (suc count) after
      (within_room (suc count) more push_within) (omega arith)) in
      record {
        queue = record {
          some = omega arith;
          room = push_builds;
          most = omega arith;
          in_order = λ end. absurd (end refl);
          heap = λ _ full. absurd (omega arith);
          reach = rw (same, ne_eqb (length (sort rank_before l)) k (λ full. omega arith));
        };
        list = rw same;
        within = rw (add-one count) push_within;
      }

  -- It was the last that there is room for.
  pub push_full : k ≤ count + 1 → {heaped : Results} {v : ℕ} → HeapedFrom 0 k after heaped
      → v ≡ get_or heaped.distance 0 0
      → QueueOf k (entries_of count r ++ (e ∷ [])) r heaped (record { count = k; last = 0; reach = v })
  push_full most {heaped} h is =
      let under = asked.under in
      let all : k ≡ suc count = omega arith in
      let moved : Within k r after = rw all push_within in
      queue_full (omega arith) (within_twice (omega arith) moved h.within) (heaped_at h)
      (h.same ∙ ap (sort rank_before) (rw all push_entries)) is

-- ---- what an offer leaves

-- The count of a queue is the length of its list.
new_count : {k n : ℕ} {l : List Entry} {before after : Results} {new : Queue} → QueueOf k l before after new
    → length l ≡ n → new.count ≡ n
new_count {l = l} q is =
    sym (length_queued (queue_finishes q.queue)) ∙ ap (λ (m : List Entry). length m) q.list
    ∙ length_sort rank_before l ∙ is

module _ {k : ℕ} {old : Queue} {r : Results} (h : Queueing k old r) where
  size : length (entries_of old.count r) ≡ old.count
  size = length_entries k old.count r h.room h.most

  -- The queue of a list that is at least as long.
  offered : (e : Entry) {l : List Entry} {before after : Results} {new : Queue} → Within new.count r after
      → QueueOf k l before after new
      → old.count ≤ length l → sort rank_before l ≡ offer k e (queued old r) → Offered k e old r after new
  offered e {l} within q le is =
      let n = new_count q refl in
      record { queue = q.queue; list = q.list ∙ is; least = omega arith; within = within }

  -- There was room.
  pub offer_pushes : {e : Entry} → old.count < k → {after : Results} {new : Queue}
      → QueueOf k (entries_of old.count r ++ (e ∷ [])) r after new → Offered k e old r after new
  unfolding offer queued
  offer_pushes {e} under q =
      offered e q.within q (rw length-append (omega (arith, size)))
      (sym (room_takes rank_before {k = k} (entries_of old.count r) e (omega (arith, size))))

  module _ (most : k ≤ old.count) where
    full : old.count ≡ k
    full = omega (arith, h.most)

    last_under : old.last < old.count
    last_under =
        let some = h.some in
        by_test (eqb old.last 0)
        (λ t. omega (arith, eqb-true old.last 0 t))
        (λ f. omega (arith, (h.in_order (eqb-false old.last 0 f)).1))

    pub last_inside : (old.last < length r.distance) × (old.last < length r.first)
        × (old.last < length r.second)
    last_inside = room_inside k r h.room (omega (arith, last_under))

    -- The last entry by rank, where the queue has it.
    last_read : {x : Entry} → x ≡ entry_at r old.last → last none (queued old r) ≡ x
    unfolding queued
    last_read {x} is =
        let l = entries_of old.count r in
        let n = size in
        let read = read_entry old.count r (queue_finishes h).room last_under is in
        by_test (eqb old.last 0)
        (λ t.
        let top : old.last ≡ 0 = eqb-true old.last 0 t in
        heap_last rank_order none l (h.heap top full) (omega (arith, h.some)) none ∙ rw top at read)
        (λ f.
        let o = h.in_order (eqb-false old.last 0 f) in
        rw (sort_sorted rank_order l o.0) (last_at none none l old.last (n ∙ o.1) ∙ read))

    module _ {e x : Entry} (is : x ≡ entry_at r old.last) {t : Bool} (test : t ≡ rank_before e x) where
      -- The pair does not come before it.
      pub offer_keeps : t ≡ false → Offered k e old r r old
      offer_keeps weak = record {
        queue = h;
        list = sym (offer_weak k e (queued old r) h.some (length_queued (queue_finishes h) ∙ full)
            (sorted_queued old r)
            (ap (rank_before e) (last_read is) ∙ sym test ∙ weak));
        least = omega arith;
        within = within_none (queue_finishes h).room;
      }

      -- The pair takes its place in a heap of the same entries.
      pub offer_replaces : t ≡ true → {heaped after : Results} {new : Queue} → HeapedFrom 0 k r heaped
          → QueueOf k (set (entries_of k heaped) 0 e) heaped after new → Offered k e old r after new
      unfolding offer queued
      offer_replaces first {heaped} made q =
          let l : List Entry = entries_of k heaped in
          let n : length l ≡ k = length_entries k k heaped (heaped_at made).room (omega arith) in
          let m : length (set l 0 e) ≡ k = length-set l 0 e ∙ n in
          let some = h.some in
          let same : sort rank_before l ≡ sort rank_before (entries_of old.count r) = rw full made.same in
          let top : get_or l 0 none ≡ x =
          sym (heap_last rank_order none l made.heap (omega arith) none) ∙ ap (last none) same ∙ last_read is in
          let taken = heap_takes rank_order none l e made.heap n (ap (rank_before e) top ∙ sym test ∙ first) in
          offered e (within_twice (omega (arith, new_count q m)) made.within q.within) q (omega (arith, full))
          (sym taken ∙ ap (λ (s : List Entry). take k (insert rank_before e s)) same)

    -- The entries are a heap already.
    pub offer_heap : old.last ≡ 0 → HeapedFrom 0 k r r
    offer_heap top = record { within = within_none h.room; heap = rw full at (h.heap top full); same = refl }
