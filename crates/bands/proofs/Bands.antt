-- What is known of bands that are accepted: each begins where the one before it ends, so that every squared distance is in
-- exactly one of them, which is also found by the ends alone.
use mathlib.Core.Path.{◌≡◌, refl, ap, ◌∙◌}
use mathlib.Core.Bool.{Bool, true, false, not, ◌&&◌}
use mathlib.Core.List.{List, [], ◌∷◌, ◌++◌, map}
use Prim.Native.Nat.{ℕ, ◌≤◌, ◌<◌}
use native.Mathlib.Omega.{arith}
use borrow.Author.Tests.{ltb-true, ltb-false, leb-true, leb-false, le-leb, lt-leb, lt-ltb, le-ltb}
use lib.Dec.{leb, ltb, eqb}
use lib.ListN.{length}
use Rattle.order.specs.Lists.{all, keep, All}
use Rattle.order.specs.Terms.{Sorted}
use Rattle.order.proofs.Order.{by_test}
use Rattle.order.proofs.Lists.{all_append, all_weaken, all_map, keep_yes, keep_no, keep_none}
use Rattle.site.specs.Answer.{refuse_if}
use Rattle.site.specs.Site.{square}
use Rattle.site.proofs.Answer.{or_else_first, or_else_second, no_fault, fault_none}
use Rattle.site.proofs.Distance.{square_le}
use Rattle.site.proofs.Tests.{and_first, and_second, or_first, or_second}
use Rattle.bands.specs.declared.Band.{Band}
use Rattle.bands.specs.Bands.{
  holds,
  last_to,
  lawful_number,
  lawful_price,
  overlaps,
  leaves_gap,
  band_refusal,
  chain_refusal,
  bands_refusal,
  price_of,
}
use Rattle.bands.specs.Cover.{OneBand}
use Rattle.bands.specs.Internal.{band_at, price_at}

-- The squares of the ends of some bands, and their prices.
abbrev pub ends_in : List Band → List ℕ
ends_in bands = map (λ b. square b.to) bands

abbrev pub prices_in : List Band → List ℕ
prices_in bands = map (λ b. b.price) bands

-- ---- accepted bands

-- Each band begins where the one before it ends, at `before` for the first, and the last ends at the end.
unfoldable pub Chain : ℕ → List Band → Type 0
Chain before [] = before ≡ last_to
Chain before (band ∷ rest) = (band.from ≡ before) × (before < band.to) × Chain band.to rest

-- What a band that is not refused tells.
module _ (before : ℕ) (is_last : Bool) (band : Band) where
  -- It does not overlap,
  apart : overlaps before band ≡ false → (before ≤ band.from) × (band.from < band.to) × (band.to ≤ last_to)
  unfolding overlaps
  apart h =
      let rest = or_second (ltb band.from before) _ h in (
        ltb-false band.from before (or_first _ _ h),
        leb-false band.to band.from (or_first _ _ rest),
        ltb-false last_to band.to (or_second (leb band.to band.from) _ rest),
      )

  -- it leaves no gap,
  joined : leaves_gap before is_last band ≡ false → (band.from ≤ before) × (is_last ≡ true → last_to ≤ band.to)
  unfolding leaves_gap
  joined h = (
    ltb-false before band.from (or_first _ _ h),
    λ e. ltb-false band.to last_to (rw e at (or_second (ltb before band.from) _ h)),
  )

  -- so it begins where the one before ends, and the last ends at the end.
  band_joins : band_refusal before is_last band ≡ 0
      → (band.from ≡ before) × (before < band.to) × (is_last ≡ true → band.to ≡ last_to)
  unfolding band_refusal
  band_joins h =
      let over = refuse_if (overlaps before band) 13 in
      let gap = refuse_if (leaves_gap before is_last band) 12 in
      let p = apart (no_fault (overlaps before band) 12 (or_else_first over gap h)) in
      let q = joined (no_fault (leaves_gap before is_last band) 11 (or_else_second over gap h)) in
      (omega arith, omega arith, λ e. omega (arith, q.1 e))

-- So the bands of a chain that is not refused.
chained : (before : ℕ) (band : Band) (rest : List Band) → chain_refusal before (band ∷ rest) ≡ 0 → Chain before (band ∷ rest)
unfolding chain_refusal Chain
chained before band [] h =
    let j = band_joins before true band (or_else_first (band_refusal before true band) 0 h) in
    (j.0, j.1, j.2 refl)
chained before band (next ∷ rest) h =
    let is_last = eqb (length (next ∷ rest)) 0 in
    let first = band_refusal before is_last band in
    let others = chain_refusal band.to (next ∷ rest) in
    let j = band_joins before is_last band (or_else_first first others h) in
    (j.0, j.1, chained band.to next rest (or_else_second first others h))

-- Bands that are not refused.
pub record Accepted (bands : List Band) : Type 0 where
  pub number : lawful_number (length bands) ≡ true
  pub prices : all lawful_price bands ≡ true
  pub chain : Chain 0 bands

-- A lawful number is not 0.
some_chained : (bands : List Band) → lawful_number (length bands) ≡ true → chain_refusal 0 bands ≡ 0 → Chain 0 bands
unfolding lawful_number
some_chained [] n h = absurd (omega (arith, leb-true 1 0 (and_first (leb 1 0) (leb 0 64) n)))
some_chained (band ∷ rest) n h = chained 0 band rest h

-- They are accepted.
pub accepted : (bands : List Band) → bands_refusal bands ≡ 0 → Accepted bands
unfolding bands_refusal
accepted bands h =
    let number = lawful_number (length bands) in
    let lawful = number && all lawful_price bands in
    let both = fault_none lawful 13 (or_else_first (refuse_if (not lawful) 14) _ h) in
    let n = and_first number _ both in
    record {
      number = n;
      prices = and_second number _ both;
      chain = some_chained bands n (or_else_second (refuse_if (not lawful) 14) _ h);
    }

-- ---- the band of a squared distance

-- All bands of a chain begin and end at `before` or after it.
chain_after : (before : ℕ) (l : List Band) → Chain before l → All (λ b. (before ≤ b.from) × (before ≤ b.to)) l
unfolding Chain All
chain_after before [] c = tt
chain_after before (band ∷ rest) c = (
  (omega arith, omega arith),
  all_weaken (λ b. (band.to ≤ b.from) × (band.to ≤ b.to)) (λ b. (before ≤ b.from) × (before ≤ b.to))
      (λ b h. (omega arith, omega arith)) rest (chain_after band.to rest c.2),
)

-- A chain begins at the end or before it.
chain_within : (before : ℕ) (l : List Band) → Chain before l → before ≤ last_to
unfolding Chain
chain_within before [] c = omega arith
chain_within before (band ∷ rest) c = omega (arith, c.1, chain_within band.to rest c.2)

-- So their ends never fall, also where further ends stand behind them at the end,
pub chain_rises : (before : ℕ) (l : List Band) (m : List ℕ) → Chain before l → All (λ e. e ≡ square last_to) m → Sorted ltb m
    → Sorted ltb (ends_in l ++ m)
unfolding Chain Sorted
chain_rises before [] m c ends s = s
chain_rises before (band ∷ rest) m c ends s = (
  all_append (λ e. ltb e (square band.to) ≡ false) (ends_in rest) m
      (all_map (λ e. ltb e (square band.to) ≡ false) (λ b. square b.to) rest
      (all_weaken (λ b. (band.to ≤ b.from) × (band.to ≤ b.to)) (λ b. ltb (square b.to) (square band.to) ≡ false)
      (λ b h. le-ltb _ _ (square_le h.1)) rest (chain_after band.to rest c.2)))
      (all_weaken (λ e. e ≡ square last_to) (λ e. ltb e (square band.to) ≡ false)
      (λ e h. le-ltb e _ (omega (arith, h, square_le (chain_within band.to rest c.2)))) m ends),
  chain_rises band.to rest m c.2 ends s,
)

-- and what is below `before` is in none of them.
module _ (before : ℕ) (l : List Band) (c : Chain before l) (d : ℕ) (h : d < square before) where
  none_holds : keep (λ b. holds b d) l ≡ []
  unfolding holds
  none_holds =
      keep_none (λ b. holds b d) l
      (all_weaken (λ b. (before ≤ b.from) × (before ≤ b.to)) (λ b. holds b d ≡ false)
      (λ b g. rw (lt-leb (square b.from) d (omega (arith, square_le g.0)))) l (chain_after before l c))

  none_ended : keep (λ e. leb e d) (ends_in l) ≡ []
  none_ended =
      keep_none (λ e. leb e d) (ends_in l)
      (all_map (λ e. leb e d ≡ false) (λ b. square b.to) l
      (all_weaken (λ b. (before ≤ b.from) × (before ≤ b.to)) (λ b. leb (square b.to) d ≡ false)
      (λ b g. lt-leb (square b.to) d (omega (arith, square_le g.1))) l (chain_after before l c)))

-- A squared distance in exactly one of some bands, which is also found by the ends.
pub record Found (bands : List Band) (d : ℕ) : Type 0 where
  pub one : OneBand bands d
  pub below : band_at (ends_in bands) d < length bands
  pub same : price_at (ends_in bands) (prices_in bands) d ≡ price_of bands d

module _ (before : ℕ) (band : Band) (rest : List Band) (c : Chain before (band ∷ rest)) (d : ℕ) where
  -- The first band holds it, or does not.
  holds_first : square before ≤ d → d < square band.to → holds band d ≡ true
  unfolding Chain holds
  holds_first h g = rw (le-leb (square band.from) d (rw c.0 h)) (lt-ltb d (square band.to) g)

  holds_later : square band.to ≤ d → holds band d ≡ false
  unfolding holds
  holds_later h =
      let out = le-ltb d (square band.to) h in
      by_test (leb (square band.from) d) (λ t. rw (t, out)) (λ t. rw t)

  -- It is in the first band,
  found_first : square before ≤ d → d < square band.to → Found (band ∷ rest) d
  unfolding Chain price_of band_at price_at
  found_first h g =
      let inside = holds_first h g in
      let none : keep (λ e. leb e d) (ends_in (band ∷ rest)) ≡ [] =
      keep_no (λ e. leb e d) (square band.to) (ends_in rest) (lt-leb _ _ g) ∙ none_ended band.to rest c.2 d g in
      record {
        one = record {
          band = band;
          alone = rw (keep_yes (λ b. holds b d) band rest inside, none_holds band.to rest c.2 d g);
          price = rw inside;
        };
        below = rw none (omega arith);
        same = rw (none, inside);
      }

  -- or past it.
  found_later : square band.to ≤ d → Found rest d → Found (band ∷ rest) d
  unfolding price_of band_at price_at
  found_later h f =
      let outside = holds_later h in
      let more = keep_yes (λ e. leb e d) (square band.to) (ends_in rest) (le-leb _ _ h) in
      record {
        one = record {
          band = f.one.band;
          alone = rw (keep_no (λ b. holds b d) band rest outside) f.one.alone;
          price = rw outside f.one.price;
        };
        below = rw more (omega (arith, f.below));
        same = rw (more, outside) f.same;
      }

-- So every squared distance from `before` up to the end is in one band of a chain,
found : (before : ℕ) (l : List Band) → Chain before l → (d : ℕ) → square before ≤ d → d < square last_to → Found l d
unfolding Chain
found before [] c d h g = absurd (omega (arith, ap square c))
found before (band ∷ rest) c d h g =
    by_test (ltb d (square band.to))
    (λ t. found_first before band rest c d h (ltb-true _ _ t))
    (λ t.
    let past = ltb-false d (square band.to) t in
    found_later before band rest c d past (found band.to rest c.2 d past g))

-- and every one below the end in one of accepted bands.
pub accepted_found : {bands : List Band} → Accepted bands → (d : ℕ) → d < square last_to → Found bands d
unfolding square
accepted_found {bands} a d h = found 0 bands a.chain d (omega arith) h
