-- The lines of the entries, one by one.
use mathlib.Core.Path.{◌≡◌, refl, ◌∙◌}
use mathlib.Core.Bool.{true}
use mathlib.Core.List.{List, [], ◌∷◌, ◌++◌}
use Prim.Native.Nat.{ℕ, suc, ◌+◌, ◌*◌, ◌≤◌, ◌<◌}
use native.Mathlib.Numerals.{add-one}
use native.Mathlib.Omega.{arith}
use lib.ListN.{length, drop, length-append, drop_of_length-le}
use lib.Seq.{drop-cons}
use Rattle.entry.specs.declared.Entry.{Entry}
use Rattle.entry.specs.Entry.{entry}
use Rattle.entry.specs.Terms.{entry_at}
use Rattle.entry.specs.Results.{Results, entries_of, room_for}
use Rattle.entry.proofs.Results.{room_lengths, length_entries, entry_at_lem}
use Rattle.listing.specs.Listing.{entry_lines}
use Rattle.listing.specs.Internal.{entry_line, heading, number_at, entries_text, Put}
use Rattle.listing.proofs.Lines.{entry_length, heading_length}
use Rattle.listing.proofs.Put.{Writing, put_length, put_then, writing_starts, writing_more, writing_ends}

lines_none : (a b : ℕ → ℕ) (rank : ℕ) → entry_lines a b rank [] ≡ []
unfolding entry_lines
lines_none a b rank = refl

lines_first : (a b : ℕ → ℕ) (rank : ℕ) (e : Entry) (l : List Entry)
    → entry_lines a b rank (e ∷ l)
    ≡ entry_line rank e.distance (a e.first) (b e.second) ++ entry_lines a b (suc rank) l
unfolding entry_lines entry_line
lines_first a b rank e l = refl

-- All lines fit at 84 bytes each.
pub lines_length : (a b : ℕ → ℕ) (rank : ℕ) (l : List Entry) → length (entry_lines a b rank l) ≤ 84 * length l
lines_length a b rank [] = rw (lines_none a b rank) (omega arith)
lines_length a b rank (e ∷ l) =
    let piece = entry_line rank e.distance (a e.first) (b e.second) in
    rw (lines_first a b rank e l, length-append piece (entry_lines a b (suc rank) l))
    (omega (arith, entry_length rank e.distance (a e.first) (b e.second), lines_length a b (suc rank) l))

-- The lines from the entry at place `i` on are still to be written.
pub record LinesLeft (a b : ℕ → ℕ) (count : ℕ) (r : Results) (at : ℕ) (before now : List ℕ) (next i : ℕ) : Type 0 where
  pub enough : room_for count r ≡ true
  pub most : i ≤ count
  pub room : next + 84 * count ≤ length now + 84 * i
  pub same : length now ≡ length before
  pub writing : Writing at (entry_lines a b 1 (entries_of count r)) before
      (entry_lines a b (suc i) (drop i (entries_of count r))) now next

module _ (a b : ℕ → ℕ) (count : ℕ) (r : Results) (at : ℕ) (before : List ℕ) where
  size : room_for count r ≡ true → length (entries_of count r) ≡ count
  size enough = length_entries count count r enough (omega arith)

  pub lines_starts : room_for count r ≡ true → at + 84 * count ≤ length before
      → LinesLeft a b count r at before before at 0
  lines_starts enough h =
      record {
        enough = enough;
        most = omega arith;
        room = omega arith;
        same = refl;
        writing = writing_starts (omega (arith, lines_length a b 1 (entries_of count r), size enough));
      }

  -- The next entry stands in the columns.
  pub lines_here : {next i : ℕ} {now : List ℕ} → i < count → LinesLeft a b count r at before now next i
      → (i < length r.distance) × (i < length r.first) × (i < length r.second)
  lines_here h w = let n = room_lengths count r w.enough in (omega arith, omega arith, omega arith)

  pub lines_more : {next past i : ℕ} {now after : List ℕ} → i < count → LinesLeft a b count r at before now next i
      → let e = entry_at r i in
      Put next (entry_line (suc i) e.distance (a e.first) (b e.second)) now after past
      → LinesLeft a b count r at before after past (i + 1)
  lines_more {next} {past} {i} {now} {after} h w p =
      let none = entry 0 0 0 in
      let here = entry_at_lem count count r w.enough (omega arith) i none h in
      let left = drop-cons (entries_of count r) i none (omega (arith, size w.enough)) in
      let e = entry_at r i in
      let piece = entry_line (suc i) e.distance (a e.first) (b e.second) in
      let short = entry_length (suc i) e.distance (a e.first) (b e.second) in
      let rest = drop (suc i) (entries_of count r) in
      let kept = put_length p (omega (arith, w.room, short)) in
      record {
        enough = w.enough;
        most = omega arith;
        room = omega (arith, w.room, p.position, short, kept);
        same = kept ∙ w.same;
        writing = rw add-one (writing_more piece (rw (left, here, lines_first a b (suc i) e rest) at w.writing) p);
      }

  pub lines_ends : {next i : ℕ} {now : List ℕ} → count ≤ i → LinesLeft a b count r at before now next i
      → Put at (entry_lines a b 1 (entries_of count r)) before now next
  lines_ends {next} {i} {now} h w =
      let none = drop_of_length-le (entries_of count r) {i = i} (omega (arith, size w.enough)) in
      writing_ends (rw (none, lines_none a b (suc i)) at w.writing)

pub heading_next : (a b : ℕ) {at next : ℕ} {before after : List ℕ} → Put at (heading a b) before after next
    → next ≤ at + 51
heading_next a b p = omega (arith, p.position, heading_length a b)

-- The first line and the lines of the entries.
pub text_put : (an bn : List ℕ) (total count : ℕ) (r : Results) {p z : ℕ} {before l m : List ℕ} → room_for count r ≡ true
    → 51 ≤ length before → Put 0 (heading count total) before l p
    → Put p (entry_lines (number_at an) (number_at bn) 1 (entries_of count r)) l m z
    → Put 0 (entries_text an bn total (entries_of count r)) before m z
unfolding entries_text
text_put an bn total count r enough h one two =
    rw (length_entries count count r enough (omega arith))
    (put_then one two (omega (arith, heading_length count total)))
