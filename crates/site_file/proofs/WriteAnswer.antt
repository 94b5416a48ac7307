-- Writing: its refusals, and the parts of a file stored one after another.
use mathlib.Core.Path.{◌≡◌, refl, sym, ap, ◌∙◌}
use mathlib.Core.List.{List, [], ◌∷◌, ◌++◌, flat_map, append_assoc}
use Prim.Native.Nat.{ℕ, ◌+◌, ◌*◌, ◌≤◌, ◌<◌}
use native.Mathlib.Nat.{zero-add}
use native.Mathlib.Omega.{arith}
use borrow.Author.Tests.{lt-ltb, le-ltb, ltb-false}
use lib.ListN.{length, length-append}
use Rattle.column.specs.Column.{overwritten, stored}
use Rattle.column.proofs.Stored.{stored_start, stored_after}
use Rattle.site.specs.Site.{Site}
use Rattle.std.specs.Prelude.{Ok, Err}
use Rattle.site.specs.declared.refusals.Refusal.{Refusal}
use Rattle.site.specs.Answer.{afterwards, number, answer_of}
use Rattle.site.specs.SiteList.{Columns, sites}
use Rattle.site.specs.Refusal.{list_refusal, lists_refusal}
use Rattle.site.proofs.Answer.{
  result_ok,
  result_err,
  after_err,
  after_answered,
  first_refused,
  next_decides,
  or_else_first,
  or_else_second,
  no_fault,
}
use Rattle.site.proofs.Accepted.{accepted_few, accepted_length, both_accepted}
use Rattle.site_file.specs.Bytes.{bytes4}
use Rattle.site_file.specs.File.{site_bytes, contents_bytes, file_bytes}
use Rattle.site_file.specs.Calls.{write_values, write_refusal, write_answer}

-- A body has 12 bytes for each site.
body_length : (l : List Site) → length (flat_map site_bytes l) ≡ 12 * length l
unfolding flat_map site_bytes bytes4
body_length [] = refl
body_length (s ∷ l) = omega (arith, body_length l)

-- Four words stored in a row are a file's contents.
pub contents_stored : (l : List ℕ) (n m : ℕ) {p q r s : List ℕ} → 16 ≤ length l → p ≡ stored 0 (bytes4 16) l
    → q ≡ stored 4 (bytes4 n) p → r ≡ stored 8 (bytes4 (16 + 12 * n)) q → s ≡ stored 12 (bytes4 m) r
    → s ≡ stored 0 (contents_bytes n m) l
unfolding contents_bytes bytes4
contents_stored l n m h e f g k =
    let w : List ℕ = bytes4 16 ++ bytes4 n in
    let two : stored 4 (bytes4 n) (stored 0 (bytes4 16) l) ≡ stored 0 w l =
    stored_after 0 4 (bytes4 16) (bytes4 n) l refl (omega arith) in
    let three : stored 8 (bytes4 (16 + 12 * n)) (stored 0 w l) ≡ stored 0 (w ++ bytes4 (16 + 12 * n)) l =
    stored_after 0 8 w (bytes4 (16 + 12 * n)) l refl (omega arith) in
    rw (k, g, f, e, two, three) (stored_after 0 12 (w ++ bytes4 (16 + 12 * n)) (bytes4 m) l refl (omega arith))

-- Two accepted lists are not long.
pub both_few : (a b : Columns) → lists_refusal a b ≡ 0 → (length a.x ≤ 65_535) × (length b.x ≤ 65_535)
both_few a b h = let lists = both_accepted a b h in (accepted_few a lists.0, accepted_few b lists.1)

pub contents_length : (n m : ℕ) → length (contents_bytes n m) ≡ 16
unfolding contents_bytes bytes4
contents_length n m = refl

-- The length of a file's contents and first body, and of a whole file.
module _ (a b : List Site) where
  pub body_end : length (contents_bytes (length a) (length b) ++ flat_map site_bytes a) ≡ 16 + 12 * length a
  body_end =
      let c : List ℕ = contents_bytes (length a) (length b) in
      omega (arith, length-append c (flat_map site_bytes a), contents_length (length a) (length b), body_length a)

  pub file_length : length (file_bytes a b) ≡ 16 + 12 * length a + 12 * length b
  unfolding file_bytes
  file_length =
      let c : List ℕ = contents_bytes (length a) (length b) in
      let first : List ℕ = flat_map site_bytes a in
      rw (← append_assoc c first (flat_map site_bytes b))
      (omega (arith, length-append (c ++ first) (flat_map site_bytes b), body_end, body_length b))

  -- Contents and two bodies stored one after another are a file.
  file_stored : (l : List ℕ) → 16 + 12 * length a + 12 * length b ≤ length l
      → stored (16 + 12 * length a) (flat_map site_bytes b)
      (stored 16 (flat_map site_bytes a) (stored 0 (contents_bytes (length a) (length b)) l))
      ≡ overwritten (file_bytes a b) l
  unfolding file_bytes
  file_stored l h =
      let c : List ℕ = contents_bytes (length a) (length b) in
      let first : List ℕ = flat_map site_bytes a in
      let two : stored 16 first (stored 0 c l) ≡ stored 0 (c ++ first) l =
      stored_after 0 16 c first l (rw zero-add (contents_length (length a) (length b))) (omega arith) in
      rw two
      (stored_after 0 (16 + 12 * length a) (c ++ first) (flat_map site_bytes b) l (rw zero-add body_end) (omega arith)
      ∙ stored_start ((c ++ first) ++ flat_map site_bytes b) l
      ∙ ap (λ (v : List ℕ). overwritten v l) (append_assoc c first (flat_map site_bytes b)))

-- The length of the file of two accepted lists.
pub lists_length : (a b : Columns) → lists_refusal a b ≡ 0
    → length (file_bytes (sites a) (sites b)) ≡ 16 + 12 * length a.x + 12 * length b.x
lists_length a b h =
    let lists = both_accepted a b h in
    omega (arith, file_length (sites a) (sites b), accepted_length a lists.0, accepted_length b lists.1)

-- The refusal of two lists: the first one's, else the second one's.
module _ (a b : Columns) {r : ℕ} where
  pub lists_first : r ≡ list_refusal a → (r ≡ 0 → ⊥) → r ≡ lists_refusal a b
  unfolding lists_refusal
  lists_first p h = first_refused _ p h

  pub lists_second : 0 ≡ list_refusal a → r ≡ list_refusal b → r ≡ lists_refusal a b
  unfolding lists_refusal
  lists_second p q = next_decides p refl q

-- The refusals of writing, one test after another.
module _ (a b : Columns) (room : ℕ) where
  pub write_lists : {r : ℕ} → r ≡ lists_refusal a b → (r ≡ 0 → ⊥) → r ≡ write_refusal a b room
  unfolding write_refusal
  write_lists p h = first_refused _ p h

  pub write_short : 0 ≡ lists_refusal a b → room < 16 + 12 * length a.x + 12 * length b.x → 6 ≡ write_refusal a b room
  unfolding write_refusal
  write_short p h =
      let e = lists_length a b (sym p) in
      next_decides p refl (rw (lt-ltb room (length (file_bytes (sites a) (sites b))) (omega arith)))

  pub write_ready : 0 ≡ lists_refusal a b → 16 + 12 * length a.x + 12 * length b.x ≤ room → 0 ≡ write_refusal a b room
  unfolding write_refusal
  write_ready p h =
      let e = lists_length a b (sym p) in
      next_decides p refl (rw (le-ltb room (length (file_bytes (sites a) (sites b))) (omega arith)))

-- What is known where nothing refuses.
pub record Ready (a b : Columns) (room : ℕ) : Type 0 where
  pub first : list_refusal a ≡ 0
  pub second : list_refusal b ≡ 0
  pub n : length a.x ≤ 65_535
  pub m : length b.x ≤ 65_535
  pub size : length (file_bytes (sites a) (sites b)) ≡ 16 + 12 * length a.x + 12 * length b.x
  pub space : 16 + 12 * length a.x + 12 * length b.x ≤ room

pub ready : (a b : Columns) (room : ℕ) → write_refusal a b room ≡ 0 → Ready a b room
unfolding write_refusal
ready a b room h =
    let none = or_else_first (lists_refusal a b) _ h in
    let lists = both_accepted a b none in
    let few = both_few a b none in
    let size = lists_length a b none in
    let space = ltb-false room _ (no_fault _ 5 (or_else_second (lists_refusal a b) _ h)) in
    record {
      first = lists.0;
      second = lists.1;
      n = few.0;
      m = few.1;
      size = size;
      space = omega arith;
    }

-- The answers of writing, and what the buffer then holds.
module _ (a b : Columns) (buffer : List ℕ) where
  pub write_refused : (r : Refusal) → number r ≡ write_refusal a b (length buffer)
      → (answer_of (write_values buffer) (Err r) ≡ write_answer a b buffer) × (buffer ≡ afterwards (λ v. v.buffer) (write_answer a b buffer) buffer)
  unfolding write_answer
  write_refused r p = (result_err (write_values buffer) _ r p, after_err (write_values buffer) _ _ _ r p)

  -- The parts of a file were stored one after another.
  module _ (p : 0 ≡ write_refusal a b (length buffer)) {q s t : List ℕ}
      (e : q ≡ stored 0 (contents_bytes (length a.x) (length b.x)) buffer)
      (f : s ≡ stored 16 (flat_map site_bytes (sites a)) q)
      (g : t ≡ stored (16 + 12 * length a.x) (flat_map site_bytes (sites b)) s) where
    stored_file : t ≡ overwritten (file_bytes (sites a) (sites b)) buffer
    stored_file =
        let k = ready a b (length buffer) (sym p) in
        let na : length (sites a) ≡ length a.x = accepted_length a k.first in
        let nb : length (sites b) ≡ length b.x = accepted_length b k.second in
        rw (g, f, e, ← na, ← nb) (file_stored (sites a) (sites b) buffer (omega arith))

    pub write_answered :
        (answer_of (write_values t) (Ok (16 + 12 * length a.x + 12 * length b.x)) ≡ write_answer a b buffer)
        × (t ≡ afterwards (λ v. v.buffer) (write_answer a b buffer) buffer)
    unfolding write_answer
    write_answered =
        let size = (ready a b (length buffer) (sym p)).size in (
          result_ok (write_values t) _ (sym p) (rw (stored_file, size)),
          stored_file ∙ after_answered _ _ _ (sym p),
        )
