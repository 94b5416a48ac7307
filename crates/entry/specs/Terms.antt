-- Terms of contracts that other crates cite: result columns that hold a list, and a list under way in them.
use Rattle.std.specs.Prelude.{◌≡◌, true, cond, List, ℕ, suc, ◌≤◌, ◌<◌, ◌-◌, ◌^◌, eqb, length, get_or}
use Rattle.order.specs.Sort.{sort}
use Rattle.order.specs.Terms.{Sorted, HeapFrom}
use Rattle.entry.specs.declared.Entry.{Entry}
use Rattle.entry.specs.declared.Queue.{Queue}
use Rattle.entry.specs.Entry.{entry, rank_before, last_distance, offer}
use Rattle.entry.specs.Results.{Results, entries_of, holding, room_for}

-- The columns have room for `k` entries and hold `count` of them, none before an earlier one.
pub record Ready (k count : ℕ) (r : Results) : Type 0 where
  pub room : room_for k r ≡ true
  pub most : count ≤ k
  pub sorted : Sorted rank_before (entries_of count r)

-- The numbers at a place of the columns, 0 past a column's end.
abbrev pub entry_at : Results → ℕ → Entry
entry_at r i = entry (get_or r.distance i 0) (get_or r.first i 0) (get_or r.second i 0)

-- The greatest squared distance at which a pair can still enter: any of 64 bits while there are fewer than `k` entries.
unfoldable pub reach_of : ℕ → List Entry → ℕ
reach_of k l = cond (eqb (length l) k) (last_distance l) (2 ^ 64 - 1)

-- From place `s` on the entries are a heap: none comes before one of its children.
abbrev pub HeapOf : ℕ → List Entry → Type 0
HeapOf s l = HeapFrom rank_before (entry 0 0 0) s l

-- The columns changed within the first `n` places alone.
pub record Within (n : ℕ) (before after : Results) : Type 0 where
  pub room : room_for n before ≡ true
  pub rest : after ≡ holding (entries_of n after) before

-- The list under way that a queue and the columns hold: its entries in rank order.
unfoldable pub queued : Queue → Results → List Entry
queued q r = sort rank_before (entries_of q.count r)

-- A queue of at most `k` entries: in rank order while its last entry stands at the end; else, as soon as there are `k`,
-- a heap, with the last on top, at place 0.
pub record Queueing (k : ℕ) (q : Queue) (r : Results) : Type 0 where
  pub some : 0 < k
  pub room : room_for k r ≡ true
  pub most : q.count ≤ k
  pub in_order : (q.last ≡ 0 → ⊥) → Sorted rank_before (entries_of q.count r) × (q.count ≡ suc q.last)
  pub heap : q.last ≡ 0 → q.count ≡ k → HeapOf 0 (entries_of q.count r)
  pub reach : q.reach ≡ reach_of k (queued q r)

-- Finishing a queue asks for room for its entries, and that they are in rank order while the last stands at the end.
pub record FinishAsked (q : Queue) (r : Results) : Type 0 where
  pub room : room_for q.count r ≡ true
  pub in_order : (q.last ≡ 0 → ⊥) → Sorted rank_before (entries_of q.count r)

-- The queue of `count` entries that stand in rank order, their squared distances in the column.
abbrev pub started : List ℕ → ℕ → ℕ → Queue
started distance count k =
    let last = count - 1 in
    record { count = count; last = last; reach = cond (eqb count k) (get_or distance last 0) (2 ^ 64 - 1) }

-- What an offer leaves: the queue of the new list, and columns that changed within its entries alone.
pub record Offered (k : ℕ) (e : Entry) (old : Queue) (before after : Results) (new : Queue) : Type 0 where
  pub queue : Queueing k new after
  pub list : queued new after ≡ offer k e (queued old before)
  pub least : old.count ≤ new.count
  pub within : Within new.count before after

-- The columns went from `before` with `old` entries to `r` with the queue `q`, and hold nothing else that is new.
pub record Updated (k : ℕ) (before : Results) (old : ℕ) (r : Results) (q : Queue) : Type 0 where
  pub queue : Queueing k q r
  pub least : old ≤ q.count
  pub rest : Within q.count before r
