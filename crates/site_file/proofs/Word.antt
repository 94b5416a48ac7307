-- A number written as four bytes and read again, and four bytes read and written again.
use mathlib.Core.Path.{◌≡◌, refl, sym, ap, ◌∙◌}
use mathlib.Core.List.{List, [], ◌∷◌, ◌++◌}
use Prim.Native.Nat.{ℕ, zero, suc, ◌+◌, ◌*◌, ◌-◌, ◌/◌, ◌%◌, ◌≤◌, ◌<◌}
use native.Mathlib.Nat.{
  add-zero,
  zero-add,
  mod-eq_of_lt,
  div-eq_of_lt,
  div-div-eq-div-mul,
  add-mul-div_left,
  add-mul-mod_self_left,
}
use native.Mathlib.Omega.{arith}
use borrow.Author.Tests.{leb-true}
use lib.Dec.{leb}
use lib.IntN.{ℤ, pos, negsuc}
use lib.ListN.{length, take, drop, get_or, length-drop, drop_of_length-le}
use lib.Seq.{get_or-append-add, get_or-drop, take_all}
use mir.Syntax.{w32}
use mir.Val.{SFits}
use mir.Facts.{to_z-of_z, of_z-to_z}
use mathlib.Core.Bool.{true}
use Rattle.order.specs.Lists.{All}
use Rattle.site.specs.Site.{between, within}
use Rattle.order.proofs.Lists.{all_drop}
use Rattle.site.proofs.Tests.{and_first}
use Rattle.site_file.specs.Bytes.{bytes4, word, unsigned, signed}
use Rattle.site_file.proofs.Bytes.{signed_bits, unsigned_bits, unsigned_fits}

-- What a slice of bytes can hold.
abbrev pub Bytes : List ℕ → Type 0
Bytes l = All (λ b. b < 256) l

-- Digits to base 256.
second_byte : (n : ℕ) → n / 65_536 ≡ n / 256 / 256
second_byte n = sym (div-div-eq-div-mul n 256 256)

third_byte : (n : ℕ) → n / 16_777_216 ≡ n / 256 / 256 / 256
third_byte n = sym (div-div-eq-div-mul n 65_536 256) ∙ ap (λ (k : ℕ). k / 256) (second_byte n)

pub digits : (n : ℕ) → n < 4_294_967_296
    → n % 256 + 256 * (n / 256 % 256) + 65_536 * (n / 65_536 % 256) + 16_777_216 * (n / 16_777_216 % 256) ≡ n
digits n h =
    let small : n / 256 / 256 / 256 < 256 = omega arith in
    rw (second_byte, third_byte, mod-eq_of_lt small) (omega arith)

low_byte : (a m : ℕ) → a < 256 → (a + 256 * m) % 256 ≡ a
low_byte a m h = add-mul-mod_self_left a 256 m ∙ mod-eq_of_lt h

high_bytes : (a m : ℕ) → a < 256 → (a + 256 * m) / 256 ≡ m
high_bytes a m h =
    add-mul-div_left a m {y = 256} (omega arith) ∙ ap (λ (k : ℕ). k + m) (div-eq_of_lt h) ∙ zero-add m

-- What is read past a part of a list is read in the rest of it.
pub word_past : (p l : List ℕ) (k : ℕ) → word (p ++ l) (length p + k) ≡ word l k
unfolding word
word_past p l k =
    let e : length p + k + 1 ≡ length p + (k + 1) = omega arith in
    let f : length p + k + 2 ≡ length p + (k + 2) = omega arith in
    let g : length p + k + 3 ≡ length p + (k + 3) = omega arith in
    rw (
      e,
      f,
      g,
      get_or-append-add p l k 0,
      get_or-append-add p l (k + 1) 0,
      get_or-append-add p l (k + 2) 0,
      get_or-append-add p l (k + 3) 0,
    )

-- Four bytes that were read are written.
bytes_first : (l : List ℕ) → Bytes l → 4 ≤ length l → bytes4 (word l 0) ≡ take 4 l
unfolding bytes4 word All
bytes_first [] h k = absurd (omega arith)
bytes_first (a ∷ []) h k = absurd (omega arith)
bytes_first (a ∷ b ∷ []) h k = absurd (omega arith)
bytes_first (a ∷ b ∷ c ∷ []) h k = absurd (omega arith)
bytes_first (a ∷ b ∷ c ∷ d ∷ l) h k =
    let m : ℕ = b + 256 * (c + 256 * d) in
    let n : a + 256 * b + 65_536 * c + 16_777_216 * d ≡ a + 256 * m = omega arith in
    let f : (a + 256 * m) / 256 ≡ m = high_bytes a m h.0 in
    let g : m / 256 ≡ c + 256 * d = high_bytes b (c + 256 * d) h.1.0 in
    let i : (c + 256 * d) / 256 ≡ d = high_bytes c d h.1.1.0 in
    rw (
      n,
      second_byte,
      third_byte,
      f,
      g,
      i,
      low_byte a m h.0,
      low_byte b (c + 256 * d) h.1.0,
      low_byte c d h.1.1.0,
      mod-eq_of_lt h.1.1.1.0,
    )

-- A coordinate inside the limits fits 32 bits, and comes back.
within_fits : (z : ℤ) → within z ≡ true → SFits w32 z
unfolding within between
within_fits (pos n) h = record { sfits = omega (arith, leb-true n 1_000_000_000 h) }
within_fits (negsuc n) h =
    record { sfits = omega (arith, leb-true n 999_999_999 (and_first (leb n 999_999_999) true h)) }

pub signed_back : (z : ℤ) → within z ≡ true → signed (unsigned z) ≡ z
signed_back z h =
    let fits = within_fits z h in
    signed_bits (unsigned z) (unsigned_fits z fits) ∙ rw unsigned_bits (to_z-of_z fits)

pub unsigned_back : (n : ℕ) → n < 4_294_967_296 → unsigned (signed n) ≡ n
unsigned_back n h = unsigned_bits (signed n) ∙ rw (signed_bits n h) (of_z-to_z {w = w32} (record { fits = h }))

pub coordinate_fits : (z : ℤ) → within z ≡ true → unsigned z < 4_294_967_296
coordinate_fits z h = unsigned_fits z (within_fits z h)

-- Each element of a list of bytes, and the 0 past its end, is below 256.
byte : (l : List ℕ) (i : ℕ) → Bytes l → get_or l i 0 < 256
unfolding All
byte [] i h = omega arith
byte (b ∷ l) zero h = h.0
byte (b ∷ l) (suc i) h = byte l i h.1

-- Four bytes at a position.
pub word_drop : (l : List ℕ) (at : ℕ) → word l at ≡ word (drop at l) 0
unfolding word
word_drop l at = rw (get_or-drop at l 0 0, get_or-drop at l 1 0, get_or-drop at l 2 0, get_or-drop at l 3 0, add-zero at)

-- The rest of a list, as the code lends it.
pub rest_of : {A : Type 0} (l : List A) (at : ℕ) → take (length l - at) (drop at l) ≡ drop at l
rest_of l at = take_all (length l - at) (drop at l) (omega (arith, length-drop at l))

-- A word is made of bytes of the rest of a list, and is 0 past its end.
pub word_made : (l : List ℕ) (at : ℕ) {r : ℕ} → r ≡ word (take (length l - at) (drop at l)) 0 → r ≡ word l at
word_made l at p = p ∙ ap (λ (m : List ℕ). word m 0) (rest_of l at) ∙ sym (word_drop l at)

word_nothing : word [] 0 ≡ 0
unfolding word
word_nothing = refl

pub word_none : (l : List ℕ) (at : ℕ) → length l < at → 0 ≡ word l at
word_none l at h = rw (word_drop l at, drop_of_length-le l {i = at} (omega arith), word_nothing)

pub bytes_back : (l : List ℕ) (at : ℕ) → Bytes l → at + 4 ≤ length l → bytes4 (word l at) ≡ take 4 (drop at l)
bytes_back l at h k =
    rw (word_drop l at) (bytes_first (drop at l) (all_drop _ at l h) (omega (arith, length-drop at l)))

pub word_fits : (l : List ℕ) (at : ℕ) → Bytes l → word l at < 4_294_967_296
unfolding word
word_fits l at h =
    omega (arith, byte l at h, byte l (at + 1) h, byte l (at + 2) h, byte l (at + 3) h)
