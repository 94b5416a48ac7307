-- The refusal of an input, one test after another.
use mathlib.Core.Path.{◌≡◌, refl, sym, ap, ◌∙◌}
use mathlib.Core.Bool.{Bool, true, not}
use mathlib.Core.List.{List}
use Prim.Native.Nat.{ℕ, zero, suc, ◌-◌, ◌≤◌, ◌<◌}
use native.Mathlib.Omega.{arith}
use borrow.Author.Tests.{lt-ltb, le-ltb, ltb-false}
use lib.Dec.{ltb}
use lib.ListN.{length, take, drop, length-drop}
use Rattle.std.specs.Prelude.{Ok, Err}
use Rattle.site.specs.declared.refusals.Refusal.{Refusal}
use Rattle.site.specs.Answer.{refuse_if, or_else, number, answer_of}
use Rattle.site.proofs.Answer.{
  answered_values,
  refused_number,
  first_refused,
  next_decides,
  or_else_first,
  or_else_second,
  no_fault,
  fault_none,
}
use Rattle.column.specs.Column.{overwritten}
use Rattle.column.proofs.Stored.{stored_start}
use Rattle.entry.specs.Entry.{lawful_k}
use Rattle.site_file.specs.Bytes.{word}
use Rattle.site_file.specs.Calls.{ReadValues, read_refusal, read_answer}
use Rattle.site_file.proofs.Word.{rest_of}
use Rattle.listing.specs.Listing.{listing_refusal, refused_text, listing}
use Rattle.listing.specs.Internal.{file_text, Put, FileLists}

-- What reading a file says of its refusal.
module _ (file : List ℕ) {A : Type 0} (values : A → ReadValues) where
  pub read_none : (told : A) → answer_of values (Ok told) ≡ read_answer file → 0 ≡ read_refusal file
  unfolding answer_of read_answer
  read_none told e = sym (answered_values (read_refusal file) _ _ (sym e)).0

  pub read_number : (r : Refusal) → answer_of values (Err r) ≡ read_answer file → number r ≡ read_refusal file
  unfolding answer_of read_answer
  read_number r e = (refused_number (read_refusal file) (number r) _ e).0

-- ---- the tests in their order

module _ (input : List ℕ) where
  pub input_long : 48_020 < length input → 6 ≡ listing_refusal input
  unfolding listing_refusal or_else
  input_long h = rw (lt-ltb 48_020 (length input) h)

  pub input_short : length input < 4 → 10 ≡ listing_refusal input
  unfolding listing_refusal or_else
  input_short h = rw (le-ltb 48_020 (length input) (omega arith), lt-ltb (length input) 4 h)

  module _ (most : length input ≤ 48_020) (least : 4 ≤ length input) where
    left : listing_refusal input ≡ or_else (read_refusal (drop 4 input)) (refuse_if (not (lawful_k (word input 0))) 4)
    unfolding listing_refusal or_else
    left = rw (le-ltb 48_020 (length input) most, le-ltb (length input) 4 least)

    module _ {r : ℕ} (p : r ≡ read_refusal (take (length input - 4) (drop 4 input))) where
      same : r ≡ read_refusal (drop 4 input)
      same = p ∙ ap read_refusal (rest_of input 4)

      pub input_file : (r ≡ 0 → ⊥) → r ≡ listing_refusal input
      input_file h = rw left (first_refused _ same h)

      pub input_k : r ≡ 0 → {k : ℕ} {b : Bool} (lawful : Bool) → k ≡ word input 0 → b ≡ lawful_k k → b ≡ lawful
          → refuse_if (not lawful) 4 ≡ listing_refusal input
      input_k z lawful pk pb t = rw left (next_decides same z (rw (← pk, ← pb, t)))

-- What is known of an input that is not refused.
pub record Accepted (input : List ℕ) : Type 0 where
  pub most : length input ≤ 48_020
  pub least : 4 ≤ length input
  pub file : read_refusal (drop 4 input) ≡ 0
  pub k : lawful_k (word input 0) ≡ true

pub accepted : (input : List ℕ) → listing_refusal input ≡ 0 → Accepted input
unfolding listing_refusal
accepted input h =
    let later = or_else_second (refuse_if (ltb 48_020 (length input)) 6) _ h in
    let last = or_else_second (refuse_if (ltb (length input) 4) 10) _ later in
    record {
      most = ltb-false 48_020 (length input) (no_fault (ltb 48_020 (length input)) 5 (or_else_first _ _ h));
      least = ltb-false (length input) 4 (no_fault (ltb (length input) 4) 9 (or_else_first _ _ later));
      file = or_else_first _ _ last;
      k = fault_none (lawful_k (word input 0)) 3 (or_else_second (read_refusal (drop 4 input)) _ last);
    }

-- ---- the whole listing

-- What a text from the start on means for the answer.
pub put_start : {t text before after : List ℕ} {z : ℕ} → t ≡ text → Put 0 text before after z
    → (z ≡ length t) × (after ≡ overwritten t before)
put_start {t} {text} {before} e p =
    rw e (omega (arith, p.position), p.buffer ∙ stored_start text before)

module _ (input : List ℕ) where
  pub listing_refused : (r : ℕ) → r ≡ listing_refusal input → (r ≡ 0 → ⊥) → listing input ≡ refused_text r
  unfolding listing
  listing_refused zero p h = absurd (h refl)
  listing_refused (suc r) p h = rw (← p)

  module _ {r : ℕ} (p : r ≡ listing_refusal input) (h : r ≡ 0) where
    pub taken : Accepted input
    taken = accepted input (sym p ∙ h)

    pub listing_taken : listing input ≡ file_text (word input 0) (drop 4 input)
    unfolding listing
    listing_taken = rw (← p, h)

    -- The same of the part that the code lends.
    module _ {k : ℕ} (q : k ≡ word input 0) where
      pub part_ready : {buffer : List ℕ} → 344_115 ≤ length buffer
          → let file = take (length input - 4) (drop 4 input) in FileLists file k buffer × (length file ≤ 48_016)
      part_ready room =
          let part = rest_of input 4 in (
            record { accepted = rw part taken.file; some = rw q taken.k; room = room },
            rw part (omega (arith, length-drop 4 input, taken.most)),
          )

      pub part_listed : listing input ≡ file_text k (take (length input - 4) (drop 4 input))
      part_listed = rw (rest_of input 4, q) listing_taken
