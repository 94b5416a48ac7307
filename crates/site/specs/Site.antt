-- A site, its limits, and the squared distance of two, over any number of coordinates.
use Rattle.std.specs.Prelude.{Bool, ◌&&◌, ℕ, ◌*◌, ltb, ℤ, pos, negsuc, nat_abs, ◌-ℤ◌}
use mathlib.Core.List.{List, [], ◌∷◌, zip_with}
use Rattle.std.specs.Int.Signed.{lt_z, le_z}
use Rattle.order.specs.Order.{on, lex}
use Rattle.order.specs.Lists.{all, sum}

-- A position and a number. The plane has no coordinate beside x and y, a list with heights has one. (01: site.)
pub record Site : Type 0 where
  pub x : ℤ
  pub y : ℤ
  pub number : ℕ
  pub further : List ℤ

abbrev pub coordinates : Site → List ℤ
coordinates s = s.x ∷ s.y ∷ s.further

-- Inside two limits, "both allowed".
unfoldable pub between : ℤ → ℤ → ℤ → Bool
between low high c = le_z low c && le_z c high

-- "The coordinate limits of a site are -1,000,000,000 and 1,000,000,000, both allowed."
unfoldable pub within : ℤ → Bool
within c = between (negsuc 999_999_999) (pos 1_000_000_000) c

-- "heights, signed, from -10,000 to 10,000" (02 l)
unfoldable pub height_within : ℤ → Bool
height_within h = between (negsuc 9_999) (pos 10_000) h

-- The limits of the coordinates, in their order: those of x and y, and of the ones beside them.
abbrev pub further_limits : List (ℤ → Bool)
further_limits = height_within ∷ []

-- Whether each is inside its limits.
unfoldable pub all_within : List (ℤ → Bool) → List ℤ → Bool
all_within limits l = all (λ ok. ok) (zip_with (λ judge c. judge c) limits l)

-- "2: a coordinate outside the limits": a site that has none.
unfoldable pub lawful_site : Site → Bool
lawful_site s = all_within (within ∷ within ∷ further_limits) (coordinates s)

-- The difference of two coordinates.
unfoldable pub gap : ℤ → ℤ → ℕ
gap a b = nat_abs (a -ℤ b)

unfoldable pub square : ℕ → ℕ
square n = n * n

-- "The squared distance is (difference of x)² + (difference of y)²", and "gains the square of the height difference".
unfoldable pub squared_distance : Site → Site → ℕ
squared_distance s t = sum (zip_with (λ a b. square (gap a b)) (coordinates s) (coordinates t))

-- "strictly ascending by x, then y, then number": the order of a list's sites, which looks at no other coordinate.
unfoldable pub site_before : Site → Site → Bool
site_before = lex (on lt_z (λ s. s.x)) (lex (on lt_z (λ s. s.y)) (on ltb (λ s. s.number)))
