-- The tariff of a table of bands: its refusal is the table's, and where there is none it prices as the table does.
use mathlib.Core.Path.{◌≡◌, refl, sym, ap, ◌∙◌}
use mathlib.Core.Bool.{Bool, true, false, cond, ◌&&◌}
use mathlib.Core.List.{List, [], ◌∷◌, ◌++◌, append-nil}
use Prim.Native.Nat.{ℕ, zero, suc, ◌+◌, ◌≤◌, ◌<◌}
use native.Mathlib.Nat.{le_refl}
use native.Mathlib.Omega.{arith}
use borrow.Author.Tests.{leb-true, lt-leb, le-ltb, eq-eqb, ne_eqb}
use lib.Dec.{leb, ltb, eqb}
use lib.ListN.{length, take, drop, replicate, length-map, length-append, length-drop, length-replicate, get_or-append}
use lib.Seq.{sets, take-length}
use Rattle.order.specs.Lists.{all, All}
use Rattle.order.specs.Terms.{Sorted}
use Rattle.order.proofs.Order.{by_test}
use Rattle.order.proofs.Lists.{all_append, all_drop, all_holds, all_weaken, all_map, keep_append, keep_none, map_same}
use Rattle.order.proofs.Sorted.{sorted_drop}
use Rattle.column.proofs.Stored.{sets_over}
use Rattle.site.specs.Answer.{or_else}
use Rattle.site.specs.Site.{square}
use Rattle.site.proofs.Answer.{answer_same, or_nothing, or_groups, or_else_first, or_else_second}
use Rattle.bands.specs.declared.Band.{Band}
use Rattle.bands.specs.Bands.{
  last_to,
  lawful_number,
  lawful_price,
  band_refusal,
  chain_refusal,
  bands_refusal,
  price_of,
}
use Rattle.bands.specs.Calls.{entries_refusal, priced_by, price_answer}
use Rattle.bands.specs.Internal.{Tariff, begun, taken, taken_from, gathered, band_at, price_at, Covered, Tiers, Priceable}
use Rattle.bands.proofs.Bands.{ends_in, prices_in, Accepted, accepted, accepted_found, chain_rises}
use Rattle.bands.proofs.Entries.{entries_accepted}
use Rattle.bands.proofs.Gathered.{begun_few}

-- ---- bands taken one after another

-- Which band is the last, by its place and by what is left.
last_place : (i n : ℕ) → eqb (i + 1) (i + suc n) ≡ eqb n 0
last_place i zero = eq-eqb (i + 1) (i + 1) refl
last_place i (suc n) = ne_eqb (i + 1) (i + suc (suc n)) (λ e. omega arith) ∙ sym (ne_eqb (suc n) 0 (λ e. omega arith))

-- One more band taken, with so many left.
one_refusal : (t : Tariff) (i : ℕ) (band : Band) (left : ℕ) → t.bands ≡ i + suc left
    → (taken t i band).refusal ≡ cond (lawful_price band) (or_else t.refusal (band_refusal t.to (eqb left 0) band)) 14
unfolding taken
one_refusal t i band left h = rw (h, last_place i left)

-- Too high a price of this band or of a later one.
price_first : (this later : Bool) (before band rest : ℕ)
    → cond later (or_else (cond this (or_else before band) 14) rest) 14 ≡ cond (this && later) (or_else before (or_else band rest)) 14
unfolding or_else
price_first true true before band rest = or_groups before band rest
price_first true false before band rest = refl
price_first false true before band rest = refl
price_first false false before band rest = refl

-- The refusal: too high a price before all, then the one before, then that of the chain.
taken_refusal : (t : Tariff) (i : ℕ) (l : List Band) → t.bands ≡ i + length l
    → (taken_from t i l).refusal ≡ cond (all lawful_price l) (or_else t.refusal (chain_refusal t.to l)) 14
unfolding taken_from taken chain_refusal all
taken_refusal t i [] h = sym (or_nothing t.refusal)
taken_refusal t i (band ∷ rest) h =
    taken_refusal (taken t i band) (suc i) rest (omega arith)
    ∙ ap (λ (n : ℕ). cond (all lawful_price rest) (or_else n (chain_refusal band.to rest)) 14) (one_refusal t i band (length rest) h)
    ∙ price_first (lawful_price band) (all lawful_price rest) t.refusal _ _

-- The number of bands, the ends and the prices.
taken_bands : (t : Tariff) (i : ℕ) (l : List Band) → (taken_from t i l).bands ≡ t.bands
unfolding taken_from taken
taken_bands t i [] = refl
taken_bands t i (band ∷ rest) = taken_bands (taken t i band) (suc i) rest

taken_ends : (t : Tariff) (i : ℕ) (l : List Band) → (taken_from t i l).ends ≡ sets t.ends i (ends_in l)
unfolding taken_from taken
taken_ends t i [] = refl
taken_ends t i (band ∷ rest) = taken_ends (taken t i band) (suc i) rest

taken_prices : (t : Tariff) (i : ℕ) (l : List Band) → (taken_from t i l).prices ≡ sets t.prices i (prices_in l)
unfolding taken_from taken
taken_prices t i [] = refl
taken_prices t i (band ∷ rest) = taken_prices (taken t i band) (suc i) rest

-- ---- a whole table

-- A tariff with none taken has all of a lawful number of them, and no refusal,
begun_lawful : (n : ℕ) → lawful_number n ≡ true → ((begun n).bands ≡ n) × ((begun n).refusal ≡ 0)
unfolding begun
begun_lawful n h = (rw h, rw h)

-- none of a wrong number, and 14,
begun_unlawful : (n : ℕ) → lawful_number n ≡ false → ((begun n).bands ≡ 0) × ((begun n).refusal ≡ 14)
unfolding begun
begun_unlawful n h = (rw h, rw h)

-- and its first band begins at 0.
begun_to : (n : ℕ) → (begun n).to ≡ 0
unfolding begun
begun_to n = refl

-- Values and the places left behind them are all places.
filled_up : (v : List ℕ) (x : ℕ) {n : ℕ} → length v ≡ n → n ≤ 64 → length (v ++ drop n (replicate 64 x)) ≡ 64
filled_up v x {n} e h =
    omega (arith, length-append v (drop n (replicate 64 x)), length-drop n (replicate 64 x), length-replicate 64 x)

-- Places that all hold the same are in order.
module _ (v : ℕ) where
  same_all : (P : ℕ → Type 0) → P v → (n : ℕ) → All P (replicate n v)
  unfolding All
  same_all P h zero = tt
  same_all P h (suc n) = (h, same_all P h n)

  same_sorted : (n : ℕ) → Sorted ltb (replicate n v)
  unfolding Sorted
  same_sorted zero = tt
  same_sorted (suc n) = (same_all (λ b. ltb b v ≡ false) (le-ltb v v (le_refl v)) n, same_sorted n)

module _ (bands : List Band) where
  abbrev start : Tariff
  start = begun (length bands)

  -- A lawful number of bands: all are taken, with the table's refusal, its ends and its prices.
  module _ (n : lawful_number (length bands) ≡ true) where
    begins : (start.bands ≡ length bands) × (start.refusal ≡ 0)
    begins = begun_lawful (length bands) n

    all_taken : gathered bands ≡ taken_from start 0 bands
    unfolding gathered
    all_taken = rw (begins.0, take-length)

    all_refusal : (taken_from start 0 bands).refusal ≡ bands_refusal bands
    unfolding bands_refusal or_else
    all_refusal =
        rw (taken_refusal start 0 bands (omega (arith, begins.0)), begins.1, begun_to, n)
        (by_test (all lawful_price bands) (λ p. rw p) (λ p. rw p))

    enough : length bands ≤ 64
    enough = omega (arith, (begun_few (length bands)).1, begins.0)

    -- The table's own ends stand first, and behind them the end's as often as there is a place left; likewise the prices.
    all_ends : (gathered bands).ends ≡ ends_in bands ++ drop (length bands) (replicate 64 (square last_to))
    unfolding begun
    all_ends =
        rw (all_taken, taken_ends)
        (sets_over (ends_in bands) (replicate 64 (square last_to)) (length bands) (length-map bands _) enough)

    all_prices : (gathered bands).prices ≡ prices_in bands ++ drop (length bands) (replicate 64 0)
    unfolding begun
    all_prices =
        rw (all_taken, taken_prices)
        (sets_over (prices_in bands) (replicate 64 0) (length bands) (length-map bands _) enough)

  -- A wrong number: none is.
  none_taken : lawful_number (length bands) ≡ false → (gathered bands).refusal ≡ bands_refusal bands
  unfolding gathered taken_from bands_refusal or_else
  none_taken n = let b = begun_unlawful (length bands) n in rw (b.0, n) b.1

  -- The refusal is the table's.
  pub gathered_refusal : (gathered bands).refusal ≡ bands_refusal bands
  gathered_refusal = by_test (lawful_number (length bands)) (λ n. rw (all_taken n) (all_refusal n)) none_taken

  unrefused : (gathered bands).refusal ≡ 0 → Accepted bands
  unrefused h = accepted bands (sym gathered_refusal ∙ h)

  module _ (a : Accepted bands) where
    abbrev ends : List ℕ
    ends = ends_in bands ++ drop (length bands) (replicate 64 (square last_to))

    abbrev prices : List ℕ
    prices = prices_in bands ++ drop (length bands) (replicate 64 0)

    -- Ends in order, and no price too high.
    tiers_in : Tiers ends prices
    unfolding lawful_price
    tiers_in =
        let few = enough a.number in
        record {
          rising = record {
            sorted = chain_rises 0 bands _ a.chain (all_drop _ (length bands) _ (same_all _ (λ e. e ≡ square last_to) refl 64))
                (sorted_drop ltb (length bands) _ (same_sorted _ 64));
            long = filled_up (ends_in bands) (square last_to) (length-map bands _) few;
          };
          long = filled_up (prices_in bands) 0 (length-map bands _) few;
          lawful = all_append (λ p. p ≤ 1_000_000) (prices_in bands) _
              (all_map (λ p. p ≤ 1_000_000) (λ b. b.price) bands
              (all_weaken (λ b. lawful_price b ≡ true) (λ b. b.price ≤ 1_000_000)
              (λ b. leb-true b.price 1_000_000) bands (all_holds lawful_price bands a.prices)))
              (all_drop (λ p. p ≤ 1_000_000) (length bands) _ (same_all 0 (λ p. p ≤ 1_000_000) (omega arith) 64));
        }

    -- The places that are left hold no squared distance.
    same_band : (d : ℕ) → d < square last_to → band_at ends d ≡ band_at (ends_in bands) d
    unfolding band_at
    same_band d h =
        rw (
          keep_append (λ e. leb e d) (ends_in bands) (drop (length bands) (replicate 64 (square last_to))),
          keep_none (λ e. leb e d) _ (all_drop (λ e. leb e d ≡ false) (length bands) _ (same_all _ (λ e. leb e d ≡ false) (lt-leb _ d h) 64)),
          append-nil,
        )

    covers_in : (d : ℕ) → d < square last_to → Covered ends d
    unfolding Covered
    covers_in d h = omega (arith, same_band d h, (accepted_found a d h).below, enough a.number)

    prices_in_lem : (d : ℕ) → d < square last_to → price_at ends prices d ≡ price_of bands d
    unfolding price_at
    prices_in_lem d h =
        let f = accepted_found a d h in
        rw (same_band d h) (get_or-append (prices_in bands) _ 0 _ (omega (arith, f.below, length-map bands (λ b. b.price))) ∙ f.same)

  -- What is asked of a tariff holds of every table's.
  pub gathered_priceable : Priceable (gathered bands)
  gathered_priceable = record {
    tiers = λ h. let a = unrefused h in rw (all_ends a.number, all_prices a.number) (tiers_in a);
    covers = λ h d g. let a = unrefused h in rw (all_ends a.number) (covers_in a d g);
  }

-- ---- prices

-- Prices that agree wherever bands are not refused and a squared distance is below the end give the same answer.
priced_same : (fault : ℕ) (p q : ℕ → ℕ) (distance : List ℕ) (count : ℕ) (prices : List ℕ)
    → (fault ≡ 0 → (d : ℕ) → d < square last_to → p d ≡ q d)
    → priced_by fault p distance count prices ≡ priced_by fault q distance count prices
unfolding priced_by
priced_same fault p q distance count prices same =
    answer_same (or_else fault (entries_refusal distance count prices)) (λ h.
    let e = entries_accepted distance count prices (or_else_second fault _ h) in
    rw (map_same p q (take count distance)
    (all_weaken (λ d. d < square last_to) (λ d. p d ≡ q d) (same (or_else_first fault _ h)) (take count distance) e.below)))

-- Pricing by the tariff answers what pricing by the table does.
pub gathered_answer : (bands : List Band) (distance : List ℕ) (count : ℕ) (prices : List ℕ)
    → priced_by (gathered bands).refusal (price_at (gathered bands).ends (gathered bands).prices) distance count prices
    ≡ price_answer bands distance count prices
unfolding price_answer
gathered_answer bands distance count prices =
    rw (gathered_refusal bands)
    (priced_same (bands_refusal bands) _ (price_of bands) distance count prices (λ h d g.
    let a = accepted bands h in
    rw (all_ends bands a.number, all_prices bands a.number) (prices_in_lem bands a d g)))
