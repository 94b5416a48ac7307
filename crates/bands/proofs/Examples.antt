-- Examples of bands, each computed: which refusal a table gets, and which prices.
use mathlib.Core.Path.{◌≡◌, refl}
use mathlib.Core.List.{List, [], ◌∷◌, map}
use Prim.Native.Nat.{ℕ}
use Rattle.order.specs.Lists.{all, sum}
use Rattle.column.specs.Column.{overwritten}
use Rattle.site.specs.Answer.{refused, answered, answer_unless, or_else}
use Rattle.site.specs.Site.{square}
use Rattle.bands.specs.declared.Band.{Band}
use Rattle.bands.specs.Bands.{
  band,
  holds,
  lawful_number,
  lawful_price,
  overlaps,
  leaves_gap,
  band_refusal,
  chain_refusal,
  bands_refusal,
  price_of,
}
use Rattle.bands.specs.Calls.{price_values, entries_refusal, priced_by, price_answer, edit_values, edit_answer}

-- Two bands, the first up to 10.
abbrev two : List Band
two = band 0 10 5 ∷ band 10 2_828_427_125 7 ∷ []

-- A squared distance of 100 is 10 squared, and so in the second band; the last is 2,828,427,125² less 1.
abbrev far : List ℕ
far = 0 ∷ 99 ∷ 100 ∷ 8_000_000_001_435_765_624 ∷ []

-- Prices 5, 5, 7 and 7, 24 in all; the column past the count stays. With the end's own square 7.
priced : price_answer two far 4 (1 ∷ 2 ∷ 3 ∷ 4 ∷ 9 ∷ []) ≡ answered (price_values (5 ∷ 5 ∷ 7 ∷ 7 ∷ 9 ∷ []) 24)
unfolding price_answer priced_by answer_unless or_else bands_refusal lawful_number lawful_price chain_refusal band_refusal overlaps leaves_gap all entries_refusal square price_of holds overwritten sum
priced = refl

past : price_answer two (8_000_000_001_435_765_625 ∷ []) 1 (0 ∷ []) ≡ refused 7
unfolding price_answer priced_by answer_unless or_else bands_refusal lawful_number lawful_price chain_refusal band_refusal overlaps leaves_gap all entries_refusal square
past = refl

-- The first fault decides, and 13 before 12 at one band: 13, 12, 13, 12, 13; too high a price before all, 14.
faults : map bands_refusal (
    (band 0 4 1 ∷ band 5 5 1 ∷ [])
    ∷ (band 0 4 1 ∷ band 5 9 1 ∷ band 8 2_828_427_125 1 ∷ [])
    ∷ (band 1 1 1 ∷ [])
    ∷ (band 1 2_828_427_125 1 ∷ [])
    ∷ (band 0 2_828_427_125 1 ∷ band 2_828_427_125 2_828_427_125 1 ∷ [])
    ∷ (band 1 1 1 ∷ band 0 0 1_000_001 ∷ [])
    ∷ [])
    ≡ 13 ∷ 12 ∷ 13 ∷ 12 ∷ 13 ∷ 14 ∷ []
unfolding or_else bands_refusal lawful_number lawful_price chain_refusal band_refusal overlaps leaves_gap all
faults = refl

-- An edit is not judged, and a place past the table gets 8.
edited : edit_answer two 1 (band 9 3 4_000_000_000) ≡ answered (edit_values (band 0 10 5 ∷ band 9 3 4_000_000_000 ∷ []) 1)
unfolding edit_answer answer_unless
edited = refl

past_table : edit_answer two 2 (band 0 0 0) ≡ refused 8
unfolding edit_answer answer_unless
past_table = refl
