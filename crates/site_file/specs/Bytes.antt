-- Numbers as bytes: "all numbers little-endian", "two's complement", "4 bytes each".
use Rattle.std.specs.Prelude.{cond, List, [], ◌∷◌, ℕ, ◌+◌, ◌*◌, ◌-◌, ◌/◌, ◌%◌, ltb, ℤ, pos, negsuc, get_or}

-- Four bytes, the lowest first.
unfoldable pub bytes4 : ℕ → List ℕ
bytes4 n = n % 256 ∷ n / 256 % 256 ∷ n / 65_536 % 256 ∷ n / 16_777_216 % 256 ∷ []

-- The number in the four bytes at a position.
unfoldable pub word : List ℕ → ℕ → ℕ
word l at = get_or l at 0 + 256 * get_or l (at + 1) 0 + 65_536 * get_or l (at + 2) 0 + 16_777_216 * get_or l (at + 3) 0

-- A signed number of 32 bits as an unsigned one.
unfoldable pub unsigned : ℤ → ℕ
unsigned (pos n) = n
unsigned (negsuc n) = 4_294_967_295 - n

-- An unsigned number of 32 bits as a signed one.
unfoldable pub signed : ℕ → ℤ
signed n = cond (ltb n 2_147_483_648) (pos n) (negsuc (4_294_967_295 - n))
