-- The bytes of a site file, and the sites in a file's bytes.
use mathlib.Core.List.{List, [], ◌∷◌, ◌++◌, flat_map}
use Rattle.std.specs.Prelude.{ℕ, zero, suc, ◌+◌, ◌*◌, length}
use Rattle.site.specs.Site.{Site}
use Rattle.site.specs.SiteList.{site}
use Rattle.site_file.specs.declared.FileSite.{FileSite}
use Rattle.site_file.specs.declared.Which.{Which}
use Rattle.site_file.specs.declared.Which.TheVariants.{First, Second}
use Rattle.site_file.specs.Bytes.{bytes4, word, unsigned, signed}

-- The site of the plane that the struct of the code is: no height is filed.
abbrev pub site_of_file : FileSite → Site
site_of_file s = site s.x s.y s.number

-- "A site is x, y (two's complement) and number, 4 bytes each."
unfoldable pub site_bytes : Site → List ℕ
site_bytes s = bytes4 (unsigned s.x) ++ (bytes4 (unsigned s.y) ++ bytes4 s.number)

-- "Contents: for each list, start and site count. The first start is 16, the second 16 + 12 × n."
unfoldable pub contents_bytes : ℕ → ℕ → List ℕ
contents_bytes n m = bytes4 16 ++ (bytes4 n ++ (bytes4 (16 + 12 * n) ++ bytes4 m))

-- "A table of contents, then the bodies."
unfoldable pub file_bytes : List Site → List Site → List ℕ
file_bytes a b = contents_bytes (length a) (length b) ++ (flat_map site_bytes a ++ flat_map site_bytes b)

-- What a file's contents say of a list: its start and its site count.
unfoldable pub start_in : List ℕ → Which → ℕ
start_in file First = word file 0
start_in file Second = word file 8

unfoldable pub count_in : List ℕ → Which → ℕ
count_in file First = word file 4
count_in file Second = word file 12

-- The site whose bytes begin at a position.
unfoldable pub site_in : List ℕ → ℕ → Site
site_in file at = site (signed (word file at)) (signed (word file (at + 4))) (word file (at + 8))

unfoldable pub sites_from : List ℕ → ℕ → ℕ → List Site
sites_from file at zero = []
sites_from file at (suc n) = site_in file at ∷ sites_from file (at + 12) n

-- The sites of one list of a file.
unfoldable pub sites_in : List ℕ → Which → List Site
sites_in file which = sites_from file (start_in file which) (count_in file which)
