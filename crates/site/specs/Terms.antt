-- Terms of contracts that other crates cite: columns of one length, and lists whatever the numbers of their sites.
use Rattle.std.specs.Prelude.{◌≡◌, true, false, List, ℕ, ◌≤◌, ◌<◌, ℤ, pos, length, get_or}
use Rattle.order.specs.Lists.{all, All}
use Rattle.column.specs.Lent.{Lent}
use Rattle.site.specs.Site.{Site, within, height_within, site_before}
use Rattle.site.specs.SiteList.{Columns, raised, site, sites}

-- The columns are of one length.
pub record Level (c : Columns) : Type 0 where
  pub y : length c.y ≡ length c.x
  pub number : length c.number ≡ length c.x
  pub further : All (λ column. length column ≡ length c.x) c.further

-- The position at a place of the columns of x and y, as a site of the plane that needs no number.
abbrev pub position_at : List ℤ → List ℤ → ℕ → Site
position_at xs ys i = site (get_or xs i (pos 0)) (get_or ys i (pos 0)) 0

-- The columns of x and y of a lawful list, whatever the numbers of its sites: no position comes before an earlier one.
pub record Coordinates (xs ys : List ℤ) : Type 0 where
  pub equal : length xs ≡ length ys
  pub few : length xs ≤ 65_535
  pub xs_within : all within xs ≡ true
  pub ys_within : all within ys ≡ true
  pub rising : (i j : ℕ) → i ≤ j → j < length xs → site_before (position_at xs ys j) (position_at xs ys i) ≡ false

-- The heights of as many sites, inside the limits.
pub record Heights (n : ℕ) (hs : List ℤ) : Type 0 where
  pub equal : n ≡ length hs
  pub within : all height_within hs ≡ true

-- What holds of two lists with these coordinates, whatever the numbers of their sites.
pub record Numbered (ax ay ah bx by bh : List ℤ) (holds : List Site → List Site → Type 0) : Type 0 where
  pub numbered : (an bn : List ℕ) → Level (raised ax ay an ah) → Level (raised bx by bn bh)
      → holds (sites (raised ax ay an ah)) (sites (raised bx by bn bh))

-- What holds of the two lists that were lent, whatever the numbers of their sites.
abbrev pub NumberedLent :
    Lent (List ℤ) → Lent (List ℤ) → Lent (List ℤ) → Lent (List ℤ) → Lent (List ℤ) → Lent (List ℤ) →
    (List Site → List Site → Type 0) → Type 0
NumberedLent ax ay ah bx by bh holds =
    Numbered ax.entry.now ay.entry.now ah.entry.now bx.entry.now by.entry.now bh.entry.now holds
