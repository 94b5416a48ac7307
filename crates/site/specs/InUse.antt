-- The sites in use: the refusal that they get, the place of a site among them, and what adding or removing one answers.
use Rattle.std.specs.Prelude.{Bool, not, ◌||◌, List, ℕ, length}
use Rattle.order.specs.Lists.{all, keep}
use Rattle.site.specs.declared.Changed.{Changed}
use Rattle.site.specs.Answer.{refuse_if, or_else}
use Rattle.site.specs.Site.{Site, site_before}
use Rattle.site.specs.SiteList.{Columns, sites, in_use}
use Rattle.site.specs.Refusal.{size_fault, content_refusal}

-- "Where a count in use is given, the sites are those in use, and only they are tested": 1, 2, 3 in that order.
unfoldable pub used_refusal : Columns → ℕ → ℕ
used_refusal c count = or_else (refuse_if (size_fault c count) 1) (content_refusal (sites (in_use count c)))

-- The place of a site in a list: how many of its sites come before it.
unfoldable pub place_of : Site → List Site → ℕ
place_of s l = length (keep (λ t. site_before t s) l)

-- "the same x, y and number is already in the list": some site of it comes neither before nor after.
unfoldable pub present : Site → List Site → Bool
present s l = not (all (λ t. site_before t s || site_before s t) l)

-- The columns afterwards, "the site's place and the new count in use".
pub record ChangeValues : Type 0 where
  pub columns : Columns
  pub place : ℕ
  pub count : ℕ

abbrev pub change_values : Columns → ℕ → ℕ → ChangeValues
change_values c place count = record { columns = c; place = place; count = count }

-- The values that the struct of the code stands for, with the columns at exit.
abbrev pub changed : Columns → Changed → ChangeValues
changed c told = change_values c told.place told.count
