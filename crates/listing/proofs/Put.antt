-- Text that is written piece by piece.
use mathlib.Core.Path.{◌≡◌, refl, sym, ap, ◌∙◌}
use mathlib.Core.List.{List, [], ◌∷◌, ◌++◌, append_assoc, append-nil}
use Prim.Native.Nat.{ℕ, ◌+◌, ◌≤◌, ◌<◌}
use native.Mathlib.Omega.{arith}
use lib.ListN.{length, set, length-append}
use Rattle.column.specs.Column.{stored}
use Rattle.column.proofs.Stored.{stored_length, stored_none, stored_after, sets_stored}
use Rattle.listing.specs.Internal.{Put}

-- Of a text that fits from `at` on, all but `left` is written, up to `next`.
pub record Writing (at : ℕ) (text before left now : List ℕ) (next : ℕ) : Type 0 where
  pub fits : at + length text ≤ length before
  pub done : List ℕ
  pub parts : done ++ left ≡ text
  pub put : Put at done before now next

-- One byte.
pub put_byte : (at b : ℕ) (l : List ℕ) → at < length l → Put at (b ∷ []) l (set l at b) (at + 1)
put_byte at b l h = record { position = refl; buffer = sets_stored (b ∷ []) l at (omega arith) }

-- A text keeps the buffer's length.
pub put_length : {at next : ℕ} {text before after : List ℕ} → Put at text before after next
    → at + length text ≤ length before → length after ≡ length before
put_length {at} {next} {text} {before} p h = rw p.buffer (stored_length at text before h)

-- One text after another.
pub put_then : {at next past : ℕ} {s t before between after : List ℕ} → Put at s before between next
    → Put next t between after past → at + length s ≤ length before → Put at (s ++ t) before after past
put_then {at} {next} {past} {s} {t} {before} p q h =
    record {
      position = omega (arith, length-append s t, p.position, q.position);
      buffer =
          q.buffer
          ∙ ap (stored next t) p.buffer
          ∙ stored_after at next s t before (sym p.position) (omega (arith, p.position));
    }

module _ {at : ℕ} {text before : List ℕ} where
  pub writing_starts : at + length text ≤ length before → Writing at text before text before at
  writing_starts h =
      record {
        fits = h;
        done = [];
        parts = refl;
        put = record { position = omega arith; buffer = sym (stored_none at before) };
      }

  -- The rest fits.
  pub writing_room : {left now : List ℕ} {next : ℕ} → Writing at text before left now next
      → (next + length left ≤ length now) × (length now ≡ length before)
  writing_room {left} {now} {next} w =
      let size : length w.done + length left ≡ length text =
      sym (length-append w.done left) ∙ ap length w.parts in
      let same : length now ≡ length before = put_length w.put (omega (arith, w.fits)) in
      (omega (arith, w.fits, w.put.position), same)

  -- One more piece.
  pub writing_more : {left now after : List ℕ} {next past : ℕ} (piece : List ℕ)
      → Writing at text before (piece ++ left) now next → Put next piece now after past
      → Writing at text before left after past
  writing_more {left} {now} {after} {next} {past} piece w p =
      let size : length w.done + (length piece + length left) ≡ length text =
      rw (← length-append piece left, ← length-append w.done (piece ++ left)) (ap length w.parts) in
      record {
        fits = w.fits;
        done = w.done ++ piece;
        parts = append_assoc w.done piece left ∙ w.parts;
        put = put_then w.put p (omega (arith, w.fits));
      }

  pub writing_ends : {now : List ℕ} {next : ℕ} → Writing at text before [] now next → Put at text before now next
  writing_ends w = let e : w.done ≡ text = sym (append-nil w.done) ∙ w.parts in rw e at w.put
