-- Accepted bands cover every squared distance exactly once, and a priced case list holds what they tell.
use mathlib.Core.Path.{◌≡◌, sym, ap, ◌∙◌}
use mathlib.Core.List.{List, map}
use Prim.Native.Nat.{ℕ, ◌<◌}
use lib.ListN.{length, take, get_or, length-map}
use lib.Seq.{length-take-le, get_or-take}
use native.Mathlib.Omega.{arith}
use Rattle.order.specs.Lists.{sum}
use Rattle.order.proofs.Lists.{all_at, map_at}
use Rattle.column.specs.Column.{overwritten}
use Rattle.column.proofs.Overwritten.{take_overwritten, drop_overwritten, get_d_overwritten}
use Rattle.site.specs.Answer.{answered, or_else}
use Rattle.site.specs.Site.{square}
use Rattle.site.proofs.Answer.{answer_values, answered_values, or_none, or_else_first, or_else_second}
use Rattle.bands.specs.declared.Band.{Band}
use Rattle.bands.specs.Bands.{last_to, bands_refusal, price_of}
use Rattle.bands.specs.Calls.{entries_refusal, PriceValues, price_values, priced_by, price_answer}
use Rattle.bands.specs.Cover.{OneBand, EveryDistanceOnce, Prices, EveryEntryPriced}
use Rattle.bands.proofs.Bands.{Accepted, accepted, accepted_found}
use Rattle.bands.proofs.Entries.{Entries, entries_accepted, accepted_entries}

-- Each squared distance is in exactly one band.
pub every_distance_once : EveryDistanceOnce
unfolding EveryDistanceOnce
every_distance_once bands d h g = (accepted_found (accepted bands h) d g).one

module _ (bands : List Band) (distance : List ℕ) (count : ℕ) (prices : List ℕ) where
  -- The price of each entry, and what an accepted call answers.
  abbrev each : List ℕ
  each = map (price_of bands) (take count distance)

  abbrev values : PriceValues
  values = price_values (overwritten each prices) (sum each)

  module _ (a : Accepted bands) (e : Entries distance count prices) where
    -- There are as many prices as entries.
    long : length each ≡ count
    long = length-map (take count distance) (price_of bands) ∙ length-take-le count distance e.room.entries

    -- An entry's squared distance is in one band, and its price is that band's.
    entry_priced : (i : ℕ) → i < count
        → (one : OneBand bands (get_or distance i 0)) × (get_or (overwritten each prices) i 0 ≡ one.band.price)
    entry_priced i h =
        let few = length-take-le count distance e.room.entries in
        let here = get_or-take count distance i 0 h in
        let below = all_at (λ d. d < square last_to) (take count distance) i 0 (omega arith) e.below in
        let f = accepted_found a (get_or distance i 0) (rw here at below) in (
          f.one,
          get_d_overwritten each prices i 0 (omega (arith, long))
              ∙ map_at (price_of bands) (take count distance) i 0 0 (omega arith)
              ∙ ap (price_of bands) here
              ∙ f.one.price,
        )

    -- The whole column.
    all_priced : Prices bands distance count prices values
    all_priced = record {
      each = entry_priced;
      total = ap sum (sym (rw long at (take_overwritten each prices)));
      rest = rw long at (drop_overwritten each prices);
    }

-- Accepted bands and entries are answered.
pub accepted_priced : (bands : List Band) (distance : List ℕ) (count : ℕ) (prices : List ℕ) → bands_refusal bands ≡ 0
    → Entries distance count prices → (w : PriceValues) × (price_answer bands distance count prices ≡ answered w)
unfolding price_answer priced_by
accepted_priced bands distance count prices h e = (
  values bands distance count prices,
  sym (answer_values (or_none (bands_refusal bands) _ h ∙ accepted_entries distance count prices e)),
)

-- What an answered call holds.
pub every_entry_priced : EveryEntryPriced
unfolding EveryEntryPriced price_answer priced_by
every_entry_priced bands distance count prices v h =
    let w = answered_values (or_else (bands_refusal bands) (entries_refusal distance count prices)) (values bands distance count prices) v h in
    rw (← w.1)
    (all_priced bands distance count prices (accepted bands (or_else_first (bands_refusal bands) _ w.0))
    (entries_accepted distance count prices (or_else_second (bands_refusal bands) _ w.0)))
