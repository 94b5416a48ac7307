-- Lines, written field by field.
use mathlib.Core.Path.{◌≡◌, refl, ap}
use mathlib.Core.List.{List, [], ◌∷◌, ◌++◌, append_assoc}
use Prim.Native.Nat.{ℕ, ◌+◌, ◌≤◌, ◌<◌}
use native.Mathlib.Omega.{arith}
use lib.ListN.{length, set, length-append}
use Rattle.listing.specs.Decimal.{decimal}
use Rattle.listing.specs.Listing.{bytes, line, refused_text}
use Rattle.listing.specs.Internal.{entry_line, heading, Put}
use Rattle.listing.proofs.Decimal.{decimal_length}
use Rattle.listing.proofs.Put.{put_byte, put_length, put_then}

-- ---- a number and the byte after it

abbrev pub field : ℕ → ℕ → List ℕ
field n after = decimal n ++ (after ∷ [])

pub field_length : (n after : ℕ) → length (field n after) ≤ 21
field_length n after = omega (arith, length-append (decimal n) (after ∷ []), decimal_length n)

module _ (n : ℕ) {at next : ℕ} {before between : List ℕ} (room : at + 21 ≤ length before)
    (p : Put at (decimal n) before between next) where
  pub decimal_room : next < length between
  decimal_room = omega (arith, p.position, decimal_length n, put_length p (omega (arith, decimal_length n)))

  pub field_put : (after : ℕ) → Put at (field n after) before (set between next after) (next + 1)
  field_put after = put_then p (put_byte next after between decimal_room) (omega (arith, decimal_length n))

-- Where a field ends.
pub field_next : (n after : ℕ) {at next : ℕ} {before between : List ℕ} → Put at (field n after) before between next
    → next ≤ at + 21
field_next n after p = omega (arith, p.position, field_length n after)

-- ---- the lines as pieces

pub entry_pieces : (a b c d : ℕ) → entry_line a b c d ≡ field a 32 ++ (field b 32 ++ (field c 32 ++ field d 10))
unfolding entry_line line
entry_pieces a b c d = simp append_assoc

pub heading_pieces : (a b : ℕ) → heading a b ≡ bytes "pairs " ++ (field a 32 ++ (bytes "of " ++ field b 10))
unfolding heading line bytes
heading_pieces a b = simp append_assoc

pub refused_pieces : (a : ℕ) → refused_text a ≡ bytes "refused " ++ field a 10
unfolding refused_text line bytes
refused_pieces a = refl

pub entry_length : (a b c d : ℕ) → length (entry_line a b c d) ≤ 84
entry_length a b c d =
    rw (entry_pieces a b c d)
    (simp length-append (omega (arith, decimal_length a, decimal_length b, decimal_length c, decimal_length d)))

pub heading_length : (a b : ℕ) → length (heading a b) ≤ 51
unfolding bytes
heading_length a b =
    rw (heading_pieces a b) (simp length-append (omega (arith, decimal_length a, decimal_length b)))

-- Four pieces in a row.
pub four_put : {at p q r z : ℕ} {s t u v before l m n o : List ℕ}
    → at + length (s ++ (t ++ (u ++ v))) ≤ length before
    → Put at s before l p → Put p t l m q → Put q u m n r → Put r v n o z
    → Put at (s ++ (t ++ (u ++ v))) before o z
four_put {at} {p} {q} {r} {z} {s} {t} {u} {v} {before} {l} {m} h one two three four =
    let size : at + length s + length t + length u + length v ≤ length before =
    omega (arith, length-append s (t ++ (u ++ v)), length-append t (u ++ v), length-append u v) in
    let e : length l ≡ length before = put_length one (omega arith) in
    let f : length m ≡ length l = put_length two (omega arith) in
    put_then one (put_then two (put_then three four (omega arith)) (omega arith)) (omega arith)

pub entry_put : (a b c d : ℕ) {at p q r z : ℕ} {before l m n o : List ℕ} → at + 84 ≤ length before
    → Put at (field a 32) before l p → Put p (field b 32) l m q → Put q (field c 32) m n r → Put r (field d 10) n o z
    → Put at (entry_line a b c d) before o z
entry_put a b c d h one two three four =
    let pieces = entry_pieces a b c d in
    rw pieces (four_put (omega (arith, entry_length a b c d, ap length pieces)) one two three four)

pub heading_put : (a b : ℕ) {at p q r z : ℕ} {before l m n o : List ℕ} → at + 51 ≤ length before
    → Put at (bytes "pairs ") before l p → Put p (field a 32) l m q → Put q (bytes "of ") m n r
    → Put r (field b 10) n o z
    → Put at (heading a b) before o z
heading_put a b h one two three four =
    let pieces = heading_pieces a b in
    rw pieces (four_put (omega (arith, heading_length a b, ap length pieces)) one two three four)

pub refused_put : (a : ℕ) {at p z : ℕ} {before l m : List ℕ} → at + 29 ≤ length before
    → Put at (bytes "refused ") before l p → Put p (field a 10) l m z
    → Put at (refused_text a) before m z
unfolding bytes
refused_put a h one two = rw (refused_pieces a) (put_then one two (omega arith))
