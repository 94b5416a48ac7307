-- A table of price bands: which squared distances a band holds, and which refusal a table gets. (02 b)
use Rattle.std.specs.Prelude.{Bool, not, ◌&&◌, ◌||◌, cond, List, [], ◌∷◌, ℕ, leb, ltb, eqb, length}
use Rattle.order.specs.Lists.{all}
use Rattle.site.specs.Answer.{refuse_if, or_else}
use Rattle.site.specs.Site.{square}
use Rattle.bands.specs.declared.Band.{Band}

-- "A band has a from, a to and a price".
abbrev pub band : ℕ → ℕ → ℕ → Band
band from to price = record { from = from; to = to; price = price }

-- "A pair is in the band where from² is at most its squared distance and to² is greater."
unfoldable pub holds : Band → ℕ → Bool
holds band d = leb (square band.from) d && ltb d (square band.to)

-- "the last to is 2,828,427,125"
abbrev pub last_to : ℕ
last_to = 2_828_427_125

-- "There are 1 to 64 bands".
unfoldable pub lawful_number : ℕ → Bool
lawful_number n = leb 1 n && leb n 64

-- "prices go up to 1,000,000"
unfoldable pub lawful_price : Band → Bool
lawful_price band = leb band.price 1_000_000

-- "13 for an overlap or a band that is empty (to not above from) or runs past the end". `before` is the band before's to, and
-- 0 at the first.
unfoldable pub overlaps : ℕ → Band → Bool
overlaps before band = ltb band.from before || (leb band.to band.from || ltb last_to band.to)

-- "12 for a gap, a first from above 0 and a last to that is too low included"
unfoldable pub leaves_gap : ℕ → Bool → Band → Bool
leaves_gap before is_last band = ltb before band.from || (is_last && ltb band.to last_to)

-- "13 before 12 at one band"
unfoldable pub band_refusal : ℕ → Bool → Band → ℕ
band_refusal before is_last band =
    or_else (refuse_if (overlaps before band) 13) (refuse_if (leaves_gap before is_last band) 12)

-- "Pricing judges each band against the one before, from the first on; the first fault decides".
unfoldable pub chain_refusal : ℕ → List Band → ℕ
chain_refusal before [] = 0
chain_refusal before (band ∷ rest) =
    or_else (band_refusal before (eqb (length rest) 0) band) (chain_refusal band.to rest)

-- "14 for a wrong number of bands or too high a price; then 12 .. or 13"
unfoldable pub bands_refusal : List Band → ℕ
bands_refusal bands =
    or_else (refuse_if (not (lawful_number (length bands) && all lawful_price bands)) 14) (chain_refusal 0 bands)

-- The price of the band that holds a squared distance. Accepted bands have exactly one (`EveryDistanceOnce`).
unfoldable pub price_of : List Band → ℕ → ℕ
price_of [] d = 0
price_of (band ∷ rest) d = cond (holds band d) band.price (price_of rest d)
