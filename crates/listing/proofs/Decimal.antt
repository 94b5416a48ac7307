-- The powers of ten, the digits of a number, and how they are written.
use mathlib.Core.Path.{◌≡◌, refl, ap, ◌∙◌}
use mathlib.Core.Bool.{Bool, false}
use mathlib.Core.List.{List, [], ◌∷◌, map}
use Prim.Native.Nat.{ℕ, zero, suc, ◌+◌, ◌-◌, ◌^◌, ◌≤◌, ◌<◌, max}
use native.Mathlib.Nat.{one-le-pow, pow-le-pow_right}
use native.Mathlib.Omega.{arith}
use borrow.Author.Tests.{eqb-true, leb-true, leb-false, le-leb, lt-leb}
use lib.Dec.{eqb, leb}
use lib.ListN.{length, get_or, set, length-map}
use Rattle.std.specs.Prelude.{MatchOption, Option, Some, None}
use Rattle.std.specs.Option.{unwrap_or}
use Rattle.order.specs.Lists.{keep}
use Rattle.order.proofs.Order.{by_test}
use Rattle.order.proofs.Lists.{keep_yes, keep_no, keep_nil, length_keep}
use Rattle.listing.specs.Decimal.{powers_below, decimal}
use Rattle.listing.specs.Internal.{digit_at, Put, Digits}
use Rattle.listing.proofs.Every.{every_at}
use Rattle.listing.proofs.Put.{Writing, put_byte, writing_starts, writing_room, writing_more, writing_ends}

-- The table, as the code has it.
abbrev pub powers : List ℕ
powers =
    1
    ∷ 10
    ∷ 100
    ∷ 1_000
    ∷ 10_000
    ∷ 100_000
    ∷ 1_000_000
    ∷ 10_000_000
    ∷ 100_000_000
    ∷ 1_000_000_000
    ∷ 10_000_000_000
    ∷ 100_000_000_000
    ∷ 1_000_000_000_000
    ∷ 10_000_000_000_000
    ∷ 100_000_000_000_000
    ∷ 1_000_000_000_000_000
    ∷ 10_000_000_000_000_000
    ∷ 100_000_000_000_000_000
    ∷ 1_000_000_000_000_000_000
    ∷ 10_000_000_000_000_000_000
    ∷ []

-- Its rule, by one computed test of all entries.
pub power_of_ten : (i : ℕ) → i < 20 → get_or powers i 0 ≡ 10 ^ i
power_of_ten i h = eqb-true (get_or powers i 0) (10 ^ i) (every_at (λ k x. eqb x (10 ^ k)) powers i refl h)

pub power_positive : (i : ℕ) → 0 < 10 ^ i
power_positive i = one-le-pow i 10 (omega arith)

power_grows : {i j : ℕ} → i ≤ j → 10 ^ i ≤ 10 ^ j
power_grows h = pow-le-pow_right (omega arith) h

-- ---- the digits of a number

-- The powers of ten that have a digit: 1, and those up to the number.
abbrev reached : ℕ → ℕ → Bool
reached n power = leb power (max n 1)

-- A number of `suc c` digits.
module _ (n c : ℕ) (few : n < 10 ^ suc c) (many : 0 < c → 10 ^ c ≤ n) where
  power_reached : (m : ℕ) → m ≤ c → 10 ^ m ≤ max n 1
  power_reached zero h = omega arith
  power_reached (suc m) h = omega (arith, power_grows h, many (omega arith))

  power_above : (m : ℕ) → suc c ≤ m → reached n (10 ^ m) ≡ false
  power_above m h =
      let ten : 10 ^ 1 ≤ 10 ^ m = power_grows {i = 1} {j = m} (omega arith) in
      lt-leb (10 ^ m) (max n 1) (omega (arith, power_grows {i = suc c} {j = m} h, few))

  powers_all : (m : ℕ) → m ≤ suc c → keep (reached n) (powers_below m) ≡ powers_below m
  unfolding powers_below
  powers_all zero h = keep_nil (reached n)
  powers_all (suc m) h =
      keep_yes (reached n) (10 ^ m) (powers_below m) (le-leb (10 ^ m) (max n 1) (power_reached m (omega arith)))
      ∙ ap (λ (l : List ℕ). 10 ^ m ∷ l) (powers_all m (omega arith))

  powers_kept : (m : ℕ) → suc c ≤ m → keep (reached n) (powers_below m) ≡ powers_below (suc c)
  unfolding powers_below
  powers_kept zero h = absurd (omega arith)
  powers_kept (suc m) h =
      by_test (leb (suc c) m)
      (λ t.
      let g = leb-true (suc c) m t in
      keep_no (reached n) (10 ^ m) (powers_below m) (power_above m g) ∙ powers_kept m g)
      (λ t. let e : m ≡ c = omega (arith, leb-false (suc c) m t) in rw e (powers_all (suc c) (omega arith)))

-- The digits of a number of 64 bits, where `count` is the least that holds it.
pub digits_found : (n count : ℕ) → 0 < count → count ≤ 20 → n < 10 ^ count → (1 < count → 10 ^ (count - 1) ≤ n)
    → Digits n count
unfolding decimal digit_at
digits_found n zero p q b l = absurd (omega arith)
digits_found n (suc c) p q b l =
    let e : suc c - 1 ≡ c = omega arith in
    record {
      least = p;
      most = q;
      digits = ap (map (digit_at n)) (powers_kept n c b (λ h. rw e at (l (omega arith))) 20 q);
    }

-- The count is the first power of ten above the number, and twenty digits hold any number of 64 bits.
pub digits_first : (n : ℕ) → n < 2 ^ 64 → (r : Option ℕ)
    → MatchOption r ((k : ℕ) → 1 ≤ k → k < 20 → 10 ^ k ≤ n)
    (λ i. (1 ≤ i) × (i < 20) × (n < 10 ^ i) × ((k : ℕ) → 1 ≤ k → k < i → 10 ^ k ≤ n))
    → Digits n (unwrap_or r 20)
digits_first n h None e =
    digits_found n 20 (omega arith) (omega arith) (omega arith) (λ l. e 19 (omega arith) (omega arith))
digits_first n h (Some i) e =
    digits_found n i e.0 (omega (arith, e.1)) e.2 (λ l. e.3 (i - 1) (omega arith) (omega arith))

pub length_powers : (m : ℕ) → length (powers_below m) ≡ m
unfolding powers_below
length_powers zero = refl
length_powers (suc m) = ap suc (length_powers m)

-- No number has more than twenty digits.
pub decimal_length : (n : ℕ) → length (decimal n) ≤ 20
unfolding decimal digit_at
decimal_length n =
    let kept = keep (reached n) (powers_below 20) in
    let size : length (decimal n) ≡ length kept = length-map kept (digit_at n) in
    omega (arith, size, length_keep (reached n) (powers_below 20), length_powers 20)

-- ---- written one by one

-- The lowest `left` digits are still to be written.
pub record DigitsLeft (n at : ℕ) (before : List ℕ) (left : ℕ) (now : List ℕ) (next : ℕ) : Type 0 where
  pub most : left ≤ 20
  pub room : next + left ≤ length now
  pub same : length now ≡ length before
  pub writing : Writing at (decimal n) before (map (digit_at n) (powers_below left)) now next

module _ (n at : ℕ) (before : List ℕ) where
  digits_left : {left next : ℕ} {now : List ℕ} → left ≤ 20
      → Writing at (decimal n) before (map (digit_at n) (powers_below left)) now next
      → DigitsLeft n at before left now next
  digits_left {left} {next} {now} h w =
      let r = writing_room w in
      record {
        most = h;
        room = omega (arith, r.0, length-map (powers_below left) (digit_at n), length_powers left);
        same = r.1;
        writing = w;
      }

  pub digits_starts : {count : ℕ} → at + 20 ≤ length before → Digits n count → DigitsLeft n at before count before at
  digits_starts h d =
      digits_left d.most (rw (← d.digits) (writing_starts (omega (arith, decimal_length n))))

  pub digits_more : (left next d : ℕ) {now : List ℕ} → 0 < left → d ≡ digit_at n (10 ^ (left - 1))
      → DigitsLeft n at before left now next → DigitsLeft n at before (left - 1) (set now next d) (next + 1)
  unfolding powers_below
  digits_more zero next d h e w = absurd (omega arith)
  digits_more (suc left) next d {now} h e w =
      let s : suc left - 1 ≡ left = omega arith in
      rw s
      (digits_left (omega (arith, w.most))
      (rw (e, s)
      (writing_more (digit_at n (10 ^ left) ∷ []) w.writing
      (put_byte next (digit_at n (10 ^ left)) now (omega (arith, w.room))))))

  pub digits_ends : (left next : ℕ) {now : List ℕ} → left ≤ 0 → DigitsLeft n at before left now next
      → Put at (decimal n) before now next
  unfolding powers_below
  digits_ends zero next h w = writing_ends w.writing
  digits_ends (suc left) next h w = absurd (omega arith)
