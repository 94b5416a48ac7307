-- Removing a site from the sites in use. (02 f: taking a site out.)
use Rattle.std.specs.Prelude.{not, map, ℕ, ◌-◌}
use Rattle.column.specs.Column.{removed}
use Rattle.site.specs.Answer.{Answer, answer_unless, refuse_if, or_else}
use Rattle.site.specs.Site.{Site}
use Rattle.site.specs.SiteList.{Columns, sites, in_use}
use Rattle.site.specs.InUse.{used_refusal, place_of, present, ChangeValues, change_values}

-- "16 when no such site is in the list, coordinates outside the limits included, after the list's 1, 2 and 3."
unfoldable pub remove_refusal : Columns → ℕ → Site → ℕ
remove_refusal c count s = or_else (used_refusal c count) (refuse_if (not (present s (sites (in_use count c)))) 16)

-- "later ones move down by one, and the element freed at the end keeps its old contents"
unfoldable pub remove_site : ℕ → ℕ → Columns → Columns
remove_site p count c =
    record {
      x = removed p count c.x;
      y = removed p count c.y;
      number = removed p count c.number;
      further = map (removed p count) c.further;
    }

-- "The answer is the place it had and the new count."
unfoldable pub remove_answer : Columns → ℕ → Site → Answer ChangeValues
remove_answer c count s =
    let p = place_of s (sites (in_use count c)) in
    answer_unless (remove_refusal c count s) (change_values (remove_site p count c) p (count - 1))
