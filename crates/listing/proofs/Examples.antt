-- Own examples beside the definitions of the case listing: each is computed.
use mathlib.Core.Path.{◌≡◌, refl}
use mathlib.Core.List.{List, [], ◌∷◌, ◌++◌, zip_with, flat_map}
use Prim.Native.Nat.{ℕ}
use lib.IntN.{pos}
use lib.ListN.{take, drop, replicate}
use Rattle.listing.specs.Decimal.{powers_below, decimal}
use Rattle.listing.specs.Listing.{bytes, line, entry_lines, listing_text, refused_text, listing_refusal, listing}
use Rattle.site_file.specs.Bytes.{word, signed}
use Rattle.site_file.specs.File.{start_in, count_in, site_in, sites_from, sites_in}
use Rattle.site_file.specs.Calls.{contents_refusal, read_refusal}
use Rattle.site.specs.Answer.{or_else}
use Rattle.site.specs.SiteList.{site, site_at}
use Rattle.site.specs.Refusal.{content_refusal}
use Rattle.site.specs.Site.{between, within, height_within, all_within, lawful_site, gap, square, squared_distance, site_before}
use Rattle.order.specs.Lists.{keep, all, sum}
use Rattle.order.specs.Order.{lex, ascending}
use Rattle.order.specs.Sort.{insert, sort}
use Rattle.entry.specs.Entry.{rank_before, apart, best_k, lawful_k}
use Rattle.sweep.specs.Strip.{placed_from, whole, pair, product, pairs}
use Rattle.pairs.specs.KList.{k_list}

-- 0, a number with a zero inside, and the greatest of 64 bits.
decimals : (decimal 0 ≡ bytes "0") × (decimal 1_024 ≡ bytes "1024")
    × (decimal 18_446_744_073_709_551_615 ≡ bytes "18446744073709551615")
unfolding bytes powers_below decimal keep
decimals = (refl, refl, refl)

-- Document 01's sample: lists F with K = 3.
sample_input : List ℕ
sample_input =
    3 ∷ 0 ∷ 0 ∷ 0 ∷ 16 ∷ 0 ∷ 0 ∷ 0 ∷ 3 ∷ 0 ∷ 0 ∷ 0 ∷ 52 ∷ 0 ∷ 0 ∷ 0 ∷ 3 ∷ 0 ∷ 0 ∷ 0 ∷ 0 ∷ 0 ∷ 0 ∷ 0
    ∷ 0 ∷ 0 ∷ 0 ∷ 0 ∷ 11 ∷ 0 ∷ 0 ∷ 0 ∷ 4 ∷ 0 ∷ 0 ∷ 0 ∷ 3 ∷ 0 ∷ 0 ∷ 0 ∷ 12 ∷ 0 ∷ 0 ∷ 0 ∷ 10 ∷ 0 ∷ 0 ∷ 0
    ∷ 0 ∷ 0 ∷ 0 ∷ 0 ∷ 13 ∷ 0 ∷ 0 ∷ 0 ∷ 0 ∷ 0 ∷ 0 ∷ 0 ∷ 5 ∷ 0 ∷ 0 ∷ 0 ∷ 21 ∷ 0 ∷ 0 ∷ 0 ∷ 4 ∷ 0 ∷ 0 ∷ 0
    ∷ 0 ∷ 0 ∷ 0 ∷ 0 ∷ 22 ∷ 0 ∷ 0 ∷ 0 ∷ 9 ∷ 0 ∷ 0 ∷ 0 ∷ 2 ∷ 0 ∷ 0 ∷ 0 ∷ 23 ∷ 0 ∷ 0 ∷ 0 ∷ []

sample_text : List ℕ
sample_text = bytes "pairs 3 of 9\n1 5 13 23\n2 9 12 22\n3 16 11 22\n"

-- The sample; then its file with K = 0, with K = 0 and cut short, and less than K.
listings : (listing sample_input ≡ sample_text)
    × (listing (replicate 4 0 ++ drop 4 sample_input) ≡ bytes "refused 4\n")
    × (listing (replicate 4 0 ++ take 75 (drop 4 sample_input)) ≡ bytes "refused 10\n")
    × (listing (take 3 sample_input) ≡ bytes "refused 10\n")
unfolding
    sample_input sample_text bytes powers_below decimal keep line site_at entry_lines listing_text refused_text
    listing_refusal listing word signed start_in count_in site_in sites_from sites_in contents_refusal read_refusal or_else
    content_refusal between within height_within all_within lawful_site gap square squared_distance site_before all sum lex ascending insert sort
    rank_before apart k_list best_k placed_from whole pair product flat_map zip_with pairs lawful_k
listings = (refl, refl, refl, refl)

-- An input that is too long, whatever it holds.
too_long : listing (replicate 48_021 0) ≡ refused_text 6
unfolding listing listing_refusal or_else
too_long = refl

-- A pair of co-sited cells is neither listed nor counted; where all sites stand at one position, there is none.
co_sited_lem : (listing_text 1 (site (pos 0) (pos 0) 5 ∷ []) (site (pos 0) (pos 0) 6 ∷ site (pos 3) (pos 4) 7 ∷ []) ≡ bytes "pairs 1 of 1\n1 25 5 7\n")
    × (listing_text 9 (site (pos 2) (pos 3) 5 ∷ site (pos 2) (pos 3) 6 ∷ []) (site (pos 2) (pos 3) 5 ∷ []) ≡ bytes "pairs 0 of 0\n")
unfolding
    bytes powers_below decimal keep line site_at entry_lines listing_text gap square squared_distance sum lex insert sort
    rank_before apart k_list best_k placed_from whole pair product flat_map zip_with pairs
co_sited_lem = (refl, refl)
