-- A list of sites in lent columns: three in the plane, a fourth with heights.
use Rattle.std.specs.Prelude.{◌≡◌, ℕ, ℤ, pos, take, get_or}
use mathlib.Core.List.{List, [], ◌∷◌, map, zip_with}
use Rattle.column.specs.Lent.{Lent, LentMut, Held, the, ◌of◌, ◌of_mut◌}
use Rattle.site.specs.declared.SiteColumns as told
use Rattle.site.specs.declared.Spots.{Spots}
use Rattle.site.specs.Site.{Site}

-- The columns of a list, as they are lent; `further` has one for each coordinate beside x and y. (01: list.)
pub record Columns : Type 0 where
  pub x : List ℤ
  pub y : List ℤ
  pub number : List ℕ
  pub further : List (List ℤ)

-- The three columns of the plane, and the four with heights.
abbrev pub columns : List ℤ → List ℤ → List ℕ → Columns
columns x y number = record { x = x; y = y; number = number; further = [] }

abbrev pub raised : List ℤ → List ℤ → List ℕ → List ℤ → Columns
raised x y number height = record { x = x; y = y; number = number; further = height ∷ [] }

-- A list as it is lent, in the plane and with heights; and one with heights as it is lent to be changed.
abbrev pub lent_plane : Lent (List ℤ) → Lent (List ℤ) → Lent (List ℕ) → Held Columns
lent_plane x y number = the columns of x of y of number

abbrev pub lent_list : Lent (List ℤ) → Lent (List ℤ) → Lent (List ℕ) → Lent (List ℤ) → Held Columns
lent_list x y number height = the raised of x of y of number of height

-- The list that the struct of the code lends.
abbrev pub list_of : told.SiteColumns → Columns
list_of l = raised l.x.now l.y.now l.number.now l.height.now

abbrev pub lent_list_mut :
    LentMut (List ℤ) → LentMut (List ℤ) → LentMut (List ℕ) → LentMut (List ℤ) → Held Columns
lent_list_mut x y number height = the raised of_mut x of_mut y of_mut number of_mut height

-- Where the sites of a list stand, as the struct of the code lends it.
abbrev pub spots_of : told.SiteColumns → Spots
spots_of l = record { x = l.x; y = l.y; height = l.height }

-- A list of the plane, and the same with every height 0.
abbrev pub Plane : Columns → Type 0
Plane c = c.further ≡ []

abbrev pub on_ground : Columns → Columns
on_ground c = raised c.x c.y c.number (map (λ x. pos 0) c.x)

-- A site of the plane, and one with a height.
abbrev pub site : ℤ → ℤ → ℕ → Site
site x y number = record { x = x; y = y; number = number; further = [] }

abbrev pub raised_site : ℤ → ℤ → ℕ → ℤ → Site
raised_site x y number height = record { x = x; y = y; number = number; further = height ∷ [] }

-- Sites with the coordinates of further columns.
abbrev pub with_coordinate : ℤ → Site → Site
with_coordinate c s = record { x = s.x; y = s.y; number = s.number; further = c ∷ s.further }

unfoldable pub with_columns : List (List ℤ) → List Site → List Site
with_columns [] l = l
with_columns (column ∷ further) l = zip_with with_coordinate column (with_columns further l)

-- The sites of some columns, by place.
unfoldable pub sites : Columns → List Site
sites c = with_columns c.further (zip_with (λ make n. make n) (zip_with site c.x c.y) c.number)

-- The site at a place; at the origin, with number 0, where there is none. (01: place.)
unfoldable pub site_at : List Site → ℕ → Site
site_at l place = get_or l place (site (pos 0) (pos 0) 0)

-- The columns that some sites of the plane fill.
unfoldable pub columns_of : List Site → Columns
columns_of l = columns (map (λ s. s.x) l) (map (λ s. s.y) l) (map (λ s. s.number) l)

-- The first `n` elements of each column: "the sites are those in use".
unfoldable pub in_use : ℕ → Columns → Columns
in_use n c =
    record {
      x = take n c.x;
      y = take n c.y;
      number = take n c.number;
      further = map (take n) c.further;
    }
