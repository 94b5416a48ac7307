-- The text of the case listing, as bytes.
use Rattle.std.specs.Prelude.{not, List, [], ◌∷◌, ◌++◌, ℕ, zero, suc, ltb, length, drop}
use Prim.Native.Char.{code}
use Prim.Native.String.{String, [] as noText, ◌∷◌ as ◌before◌}
use Rattle.site.specs.Site.{Site}
use Rattle.site.specs.Answer.{refuse_if, or_else}
use Rattle.site.specs.SiteList.{site_at}
use Rattle.entry.specs.declared.Entry.{Entry}
use Rattle.entry.specs.Entry.{lawful_k}
use Rattle.sweep.specs.Strip.{all_pairs}
use Rattle.pairs.specs.KList.{k_list}
use Rattle.site_file.specs.declared.Which.TheVariants.{First, Second}
use Rattle.site_file.specs.Bytes.{word}
use Rattle.site_file.specs.File.{sites_in}
use Rattle.site_file.specs.Calls.{read_refusal}
use Rattle.listing.specs.Decimal.{decimal}

-- The bytes of a word, one for each character.
unfoldable pub bytes : String → List ℕ
bytes noText = []
bytes (c before s) = code c ∷ bytes s

-- "Fields are one space apart, and each line ends in a line feed."
unfoldable pub line : List (List ℕ) → List ℕ
line [] = 10 ∷ []
line (f ∷ []) = f ++ (10 ∷ [])
line (f ∷ (g ∷ l)) = f ++ (32 ∷ line (g ∷ l))

-- "a line per entry: rank from 1, squared distance, first site's number, second site's number"; `a` and `b` give those.
unfoldable pub entry_lines : (ℕ → ℕ) → (ℕ → ℕ) → ℕ → List Entry → List ℕ
entry_lines a b rank [] = []
entry_lines a b rank (e ∷ l) =
    line (decimal rank ∷ decimal e.distance ∷ decimal (a e.first) ∷ decimal (b e.second) ∷ [])
    ++ entry_lines a b (suc rank) l

-- The text for two lists: "one line, `pairs`, entries, `of`" and how many pairs there are, "then a line per entry".
unfoldable pub listing_text : ℕ → List Site → List Site → List ℕ
listing_text k a b =
    let entries = k_list k a b in
    line (bytes "pairs" ∷ decimal (length entries) ∷ bytes "of" ∷ decimal (length (all_pairs a b)) ∷ [])
    ++ entry_lines (λ i. (site_at a i).number) (λ i. (site_at b i).number) 1 entries

-- "A refusal prints one line only, as `refused 4`."
unfoldable pub refused_text : ℕ → List ℕ
refused_text number = line (bytes "refused" ∷ decimal number ∷ [])

-- "Input above 48,020 bytes gets 6 before anything else, below 4 bytes 10; otherwise the file is tested before K."
unfoldable pub listing_refusal : List ℕ → ℕ
listing_refusal input =
    or_else (refuse_if (ltb 48_020 (length input)) 6)
    (or_else (refuse_if (ltb (length input) 4) 10)
    (or_else (read_refusal (drop 4 input)) (refuse_if (not (lawful_k (word input 0))) 4)))

-- "K (4 bytes, little-endian, unsigned), then a site file."
unfoldable pub listing : List ℕ → List ℕ
listing input = text (listing_refusal input)
  where
    text : ℕ → List ℕ
    text zero = listing_text (word input 0) (sites_in (drop 4 input) First) (sites_in (drop 4 input) Second)
    text (suc n) = refused_text (suc n)
