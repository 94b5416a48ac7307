-- What editing a table of bands and pricing a case list answer. (02 b)
use Rattle.std.specs.Prelude.{not, ◌||◌, List, map, ℕ, leb, ltb, length, take, set}
use Rattle.order.specs.Lists.{all, sum}
use Rattle.column.specs.Column.{overwritten}
use Rattle.site.specs.Answer.{Answer, answer_unless, refuse_if, or_else}
use Rattle.site.specs.Site.{square}
use Rattle.bands.specs.declared.Band.{Band}
use Rattle.bands.specs.Bands.{last_to, bands_refusal, price_of}

-- The table after an edit, and the edit's place.
pub record EditValues : Type 0 where
  pub bands : List Band
  pub place : ℕ

abbrev pub edit_values : List Band → ℕ → EditValues
edit_values bands place = record { bands = bands; place = place }

-- "An edit replaces the record at a place, unjudged, and answers that place; a place past the table gets 8."
unfoldable pub edit_answer : List Band → ℕ → Band → Answer EditValues
edit_answer bands place band =
    answer_unless (refuse_if (leb (length bands) place) 8) (edit_values (set bands place band) place)

-- "A price column or distance column shorter than the entry count, or a count above 4,096, gets 6, a squared distance not below
-- the square of 2,828,427,125 gets 7": in this order.
unfoldable pub entries_refusal : List ℕ → ℕ → List ℕ → ℕ
entries_refusal distance count prices =
    or_else (refuse_if (ltb (length prices) count || (ltb (length distance) count || ltb 4_096 count)) 6)
    (refuse_if (not (all (λ d. ltb d (square last_to)) (take count distance))) 7)

-- The price column after pricing, and the total.
pub record PriceValues : Type 0 where
  pub prices : List ℕ
  pub total : ℕ

abbrev pub price_values : List ℕ → ℕ → PriceValues
price_values prices total = record { prices = prices; total = total }

-- "each entry's price and the total", or the refusal: that of the bands first.
unfoldable pub priced_by : ℕ → (ℕ → ℕ) → List ℕ → ℕ → List ℕ → Answer PriceValues
priced_by bandsFault price distance count prices =
    let each = map price (take count distance) in
    answer_unless (or_else bandsFault (entries_refusal distance count prices))
    (price_values (overwritten each prices) (sum each))

unfoldable pub price_answer : List Band → List ℕ → ℕ → List ℕ → Answer PriceValues
price_answer bands distance count prices = priced_by (bands_refusal bands) (price_of bands) distance count prices
