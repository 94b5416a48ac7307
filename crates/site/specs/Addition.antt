-- Adding a site to the sites in use.
use Rattle.std.specs.Prelude.{not, ◌||◌, ℕ, ◌+◌, leb, length}
use mathlib.Core.List.{zip_with}
use Rattle.column.specs.Column.{inserted}
use Rattle.site.specs.declared.Site as told
use Rattle.site.specs.Answer.{Answer, answer_unless, refuse_if, or_else}
use Rattle.site.specs.Site.{Site, lawful_site}
use Rattle.site.specs.SiteList.{Columns, raised_site, sites, in_use}
use Rattle.site.specs.InUse.{used_refusal, place_of, present, ChangeValues, change_values}

-- 1, 2, 3 for the sites in use, 2 for the new one, "6: the columns are full or 65,535 sites are in use", 11.
unfoldable pub add_refusal : Columns → ℕ → Site → ℕ
add_refusal c count s =
    or_else (used_refusal c count)
    (or_else (refuse_if (not (lawful_site s)) 2)
    (or_else (refuse_if (leb (length c.x) count || leb 65_535 count) 6)
    (refuse_if (present s (sites (in_use count c))) 11)))

-- "Adding puts the site at its place and moves later ones up by one."
unfoldable pub insert_site : ℕ → ℕ → Site → Columns → Columns
insert_site p count s c =
    record {
      x = inserted p count s.x c.x;
      y = inserted p count s.y c.y;
      number = inserted p count s.number c.number;
      further = zip_with (inserted p count) s.further c.further;
    }

unfoldable pub add_answer : Columns → ℕ → Site → Answer ChangeValues
add_answer c count s =
    let p = place_of s (sites (in_use count c)) in
    answer_unless (add_refusal c count s) (change_values (insert_site p count s c) p (count + 1))

-- The site that the struct of the code is.
abbrev pub site_of : told.Site → Site
site_of s = raised_site s.x s.y s.number s.height
