-- Which refusal a list gets, and in which order.
use Rattle.std.specs.Prelude.{Bool, not, ◌&&◌, List, ℕ, leb, eqb, length}
use Rattle.order.specs.Order.{ascending}
use Rattle.order.specs.Lists.{all}
use Rattle.site.specs.Answer.{Answer, answer_unless, refuse_if, or_else}
use Rattle.site.specs.Site.{Site, lawful_site, site_before}
use Rattle.site.specs.SiteList.{Columns, sites}

unfoldable pub equal_lengths : Columns → Bool
equal_lengths c =
    eqb (length c.x) (length c.y) && eqb (length c.x) (length c.number)
    && all (λ column. eqb (length c.x) (length column)) c.further

-- "1: columns unequal, more than 65,535 sites, or (adding) a count of sites in use above the columns' length."
unfoldable pub size_fault : Columns → ℕ → Bool
size_fault c count = not (equal_lengths c && (leb count 65_535 && leb count (length c.x)))

-- "2: a coordinate outside the limits. 3: not strictly ascending."
unfoldable pub content_refusal : List Site → ℕ
content_refusal l = or_else (refuse_if (not (all lawful_site l)) 2) (refuse_if (not (ascending site_before l)) 3)

-- The refusal of a list, 1, 2, 3 in that order.
unfoldable pub list_refusal : Columns → ℕ
list_refusal c = or_else (refuse_if (size_fault c (length c.x)) 1) (content_refusal (sites c))

-- "Order: first list 1, 2, 3, then the second list, then the rest by number."
unfoldable pub lists_refusal : Columns → Columns → ℕ
lists_refusal a b = or_else (list_refusal a) (list_refusal b)

-- "a list check, the site count", or the refusal.
unfoldable pub check_answer : Columns → Answer ℕ
check_answer c = answer_unless (list_refusal c) (length c.x)
