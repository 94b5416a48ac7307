-- Terms that only this crate's functions cite: the parts of the text, and what those that write it ask and promise.
use Rattle.std.specs.Prelude.{◌≡◌, true, List, [], ◌∷◌, ◌++◌, map, ℕ, ◌+◌, ◌/◌, ◌%◌, ◌≤◌, ◌<◌, ℤ, pos, length, get_or}
use Rattle.column.specs.Column.{stored}
use Rattle.column.specs.Lent.{LentMut}
use Rattle.site.specs.SiteList.{Columns}
use Rattle.site.specs.Refusal.{lists_refusal}
use Rattle.entry.specs.declared.Entry.{Entry}
use Rattle.entry.specs.Entry.{lawful_k}
use Rattle.site_file.specs.declared.Which.TheVariants.{First, Second}
use Rattle.site_file.specs.File.{sites_in}
use Rattle.site_file.specs.Calls.{read_refusal}
use Rattle.listing.specs.Decimal.{powers_below, decimal}
use Rattle.listing.specs.Listing.{bytes, line, entry_lines, listing_text}

-- The decimal digit of `n` at a power of ten.
unfoldable pub digit_at : ℕ → ℕ → ℕ
digit_at n power = 48 + n / power % 10

-- The first line.
unfoldable pub heading : ℕ → ℕ → List ℕ
heading entries total = line (bytes "pairs" ∷ decimal entries ∷ bytes "of" ∷ decimal total ∷ [])

-- The line of one entry.
unfoldable pub entry_line : ℕ → ℕ → ℕ → ℕ → List ℕ
entry_line rank distance first second =
    line (decimal rank ∷ decimal distance ∷ decimal first ∷ decimal second ∷ [])

-- The number at a place of a column, 0 past its end.
abbrev pub number_at : List ℕ → ℕ → ℕ
number_at numbers place = get_or numbers place 0

-- The text for some of `total` pairs of two lists, from their columns of numbers.
unfoldable pub entries_text : List ℕ → List ℕ → ℕ → List Entry → List ℕ
entries_text an bn total entries =
    heading (length entries) total ++ entry_lines (number_at an) (number_at bn) 1 entries

-- The text for the two lists of a file.
abbrev pub file_text : ℕ → List ℕ → List ℕ
file_text k file = listing_text k (sites_in file First) (sites_in file Second)

-- The buffer holds the text from position `at` on and is otherwise as it was `before`; `next` is the position past it.
pub record Put (at : ℕ) (text before after : List ℕ) (next : ℕ) : Type 0 where
  pub position : next ≡ at + length text
  pub buffer : after ≡ stored at text before

-- The same of a buffer as it is lent.
abbrev pub Puts : ℕ → List ℕ → LentMut (List ℕ) → ℕ → Type 0
Puts at text out next = Put at text out.entry.now out.exit.now next

-- The number has `count` decimal digits.
pub record Digits (n count : ℕ) : Type 0 where
  pub least : 0 < count
  pub most : count ≤ 20
  pub digits : decimal n ≡ map (digit_at n) (powers_below count)

-- Two lists and a K that no test refuses, and a buffer with room for any text of them.
pub record Lawful (a b : Columns) (k : ℕ) (buffer : List ℕ) : Type 0 where
  pub lists : lists_refusal a b ≡ 0
  pub some : lawful_k k ≡ true
  pub room : 344_115 ≤ length buffer

-- A column of heights that are all 0, as many as the sites.
abbrev pub Grounded : List ℤ → List ℤ → Type 0
Grounded xs hs = hs ≡ map (λ x. pos 0) xs

-- Columns of a given length.
pub record Sized (n : ℕ) (c : Columns) : Type 0 where
  pub x : length c.x ≡ n
  pub y : length c.y ≡ n
  pub number : length c.number ≡ n

-- A file and a K that no test refuses, and a buffer with room for any text of them.
pub record FileLists (file : List ℕ) (k : ℕ) (buffer : List ℕ) : Type 0 where
  pub accepted : read_refusal file ≡ 0
  pub some : lawful_k k ≡ true
  pub room : 344_115 ≤ length buffer
