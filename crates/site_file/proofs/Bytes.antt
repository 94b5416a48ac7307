-- Numbers as bytes, and back.
use mathlib.Core.Path.{◌≡◌, refl, sym, ◌∙◌}
use mathlib.Core.List.{List}
use Prim.Native.Nat.{ℕ, suc, ◌+◌, ◌-◌, ◌<◌}
use native.Mathlib.Omega.{arith}
use borrow.Rule.Slice.PartMut.{put_mid}
use lib.Dec.{ltb}
use lib.IntN.{ℤ, pos, negsuc}
use lib.ListN.{length}
use lib.Seq.{drop-drop}
use mir.Syntax.{w32}
use mir.Val.{Fits, SFits, to_z, of_z}
use mir.Facts.{to_z-of_z, of_z-to_z}
use Rattle.order.proofs.Order.{by_test}
use Rattle.site_file.specs.Bytes.{unsigned, signed}
use Rattle.column.specs.Column.{stored}

-- Values put in the place of as many are stored there.
pub part_stored : {A : Type 0} (at : ℕ) (v l : List A) {w : List A} → w ≡ v
    → put_mid at (at + length v - at) l w ≡ stored at v l
unfolding stored
part_stored at v l e = let size : at + length v - at ≡ length v = omega arith in rw (e, size, drop-drop (length v) at l)

-- A number of 32 bits by its bits, and what the machine's conversions make of one.
pub signed_bits : (n : ℕ) → n < 4_294_967_296 → signed n ≡ to_z w32 n
unfolding signed
signed_bits n h =
    by_test (ltb n 2_147_483_648) (λ t. rw t)
    (λ t. let e : 4_294_967_295 - n ≡ 4_294_967_296 - suc n = omega arith in rw (t, e))

pub unsigned_bits : (z : ℤ) → unsigned z ≡ of_z w32 z
unfolding unsigned
unsigned_bits (pos n) = refl
unsigned_bits (negsuc n) = omega arith

pub signed_made : (n : ℕ) → Fits w32 n → {z : ℤ} → z ≡ to_z w32 n → to_z w32 (of_z w32 z) ≡ signed n
signed_made n h p = rw (p, of_z-to_z h) (sym (signed_bits n h.fits))

pub unsigned_made : (z : ℤ) → SFits w32 z → {n : ℕ} → n ≡ of_z w32 (to_z w32 (of_z w32 z)) → n ≡ unsigned z
unsigned_made z h p = p ∙ rw (to_z-of_z h) (sym (unsigned_bits z))

pub unsigned_fits : (z : ℤ) → SFits w32 z → unsigned z < 4_294_967_296
unfolding unsigned
unsigned_fits (pos n) h = omega (arith, h.sfits)
unsigned_fits (negsuc n) h = omega arith
