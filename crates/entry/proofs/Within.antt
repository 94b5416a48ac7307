-- Columns that changed within their first places alone.
use mathlib.Core.Path.{◌≡◌, sym, ap, ◌∙◌}
use mathlib.Core.Bool.{true}
use mathlib.Core.List.{List}
use Prim.Native.Nat.{ℕ, ◌≤◌}
use native.Mathlib.Omega.{arith}
use lib.ListN.{length, drop, length-take}
use Rattle.entry.specs.declared.Entry.{Entry}
use Rattle.entry.specs.Results.{Results, entries_of, holding, room_for}
use Rattle.entry.specs.Terms.{Within}
use Rattle.entry.proofs.Results.{room_lengths, lengths_room, past_holding, length_entries, holding_self, holding_again, holding_lengths}

-- The columns have the same lengths.
abbrev pub SameLengths : Results → Results → Type 0
SameLengths before after =
    (length after.distance ≡ length before.distance)
    × (length after.first ≡ length before.first)
    × (length after.second ≡ length before.second)

entries_most : (n : ℕ) (r : Results) → length (entries_of n r) ≤ n
unfolding entries_of
entries_most n r = simp length-take (omega arith)

pub within_none : {n : ℕ} {r : Results} → room_for n r ≡ true → Within n r r
within_none {n} {r} room = record { room = room; rest = sym (holding_self n n r room (omega arith)) }

pub within_lengths : {n : ℕ} {before after : Results} → Within n before after → SameLengths before after
within_lengths {n} {before} {after} w =
    let l = entries_of n after in
    let h = room_lengths n before w.room in
    let m = entries_most n after in
    let room = lengths_room (length l) before (omega arith) (omega arith) (omega arith) in
    rw w.rest (holding_lengths l before room)

-- Room stays.
pub within_room : (k : ℕ) {n : ℕ} {before after : Results} → room_for k before ≡ true → Within n before after
    → room_for k after ≡ true
within_room k {n} {before} {after} room w =
    let h = room_lengths k before room in
    let same = within_lengths w in
    lengths_room k after (omega arith) (omega arith) (omega arith)

-- A list that is written at least as far leaves nothing of the change.
pub within_written : {n : ℕ} {before r : Results} (l : List Entry) → n ≤ length l → Within n before r
    → holding l r ≡ holding l before
within_written {n} {before} {r} l le w =
    ap (holding l) w.rest ∙ holding_again (entries_of n r) l before (omega (arith, entries_most n r))

-- One change and then another, at least as far.
pub within_twice : {n m : ℕ} {before r after : Results} → n ≤ m → Within n before r → Within m r after
    → Within m before after
within_twice {n} {m} {before} {r} {after} le h g =
    let w = room_lengths m r g.room in
    let same = within_lengths h in
    let all = length_entries m m after (within_room m g.room g) (omega arith) in
    record {
      room = lengths_room m before (omega arith) (omega arith) (omega arith);
      rest = g.rest ∙ within_written (entries_of m after) (omega arith) h;
    }

-- What changed within fewer places changed within more.
pub within_more : {n m : ℕ} {before after : Results} → n ≤ m → room_for m before ≡ true → Within n before after
    → Within m before after
within_more {m = m} le room w = within_twice le w (within_none (within_room m room w))

-- Entries past the first `n` are as before.
pub within_past : {n : ℕ} {before after : Results} → Within n before after → (count : ℕ)
    → drop n (entries_of count after) ≡ drop n (entries_of count before)
within_past {n} {before} {after} w count =
    let l = entries_of n after in
    let size : length l ≡ n = length_entries n n after (within_room n w.room w) (omega arith) in
    ap (λ (r : Results). drop n (entries_of count r)) w.rest ∙ rw size at (past_holding l before count)
