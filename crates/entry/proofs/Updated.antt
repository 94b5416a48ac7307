-- Result columns that offers have updated.
use mathlib.Core.Path.{◌≡◌, ◌∙◌}
use Prim.Native.Nat.{ℕ, ◌≤◌, ◌<◌}
use native.Mathlib.Omega.{arith}
use Rattle.entry.specs.declared.Entry.{Entry}
use Rattle.entry.specs.declared.Queue.{Queue}
use Rattle.entry.specs.Results.{Results, entries_of, holding}
use Rattle.entry.specs.Terms.{Ready, queued, Queueing, started, FinishAsked, Offered, Updated}
use Rattle.entry.proofs.Within.{within_none, within_twice, within_written}
use Rattle.entry.proofs.Queueing.{queue_starts, queued_started, length_queued, queue_finishes}

pub updated_none : {k : ℕ} {q : Queue} {r : Results} → Queueing k q r → Updated k r q.count r q
updated_none h = record { queue = h; least = omega arith; rest = within_none (queue_finishes h).room }

-- A queue that starts with the entries there are.
pub updated_start : {k old : ℕ} {before : Results} {q : Queue} → Ready k old before → 0 < k → q ≡ started before.distance old k
    → Updated k before old before q × (queued q before ≡ entries_of old before)
updated_start ready some is = rw is (updated_none (queue_starts ready some), queued_started ready)

pub updated_offered : {k : ℕ} {e : Entry} {old new : Queue} {before after : Results} → Offered k e old before after new
    → Updated k before old.count after new
updated_offered h = record { queue = h.queue; least = h.least; rest = h.within }

-- One step and then another.
pub updated_twice : {k old : ℕ} {before r after : Results} {q new : Queue} → Updated k before old r q → Updated k r q.count after new
    → Updated k before old after new
updated_twice h g =
    record { queue = g.queue; least = omega arith; rest = within_twice g.least h.rest g.rest }

-- What finishing it asks, and what the columns hold then.
module _ {k old : ℕ} {before r : Results} {q : Queue} (h : Updated k before old r q) where
  pub updated_asks : k ≤ 4_096 → (q.count ≤ 4_096) × FinishAsked q r
  updated_asks few = (omega (arith, h.queue.most), queue_finishes h.queue)

  pub updated_finished : {after : Results} → after ≡ holding (queued q r) r → after ≡ holding (queued q r) before
  updated_finished e =
      let n = length_queued (queue_finishes h.queue) in
      e ∙ within_written (queued q r) (omega arith) h.rest
