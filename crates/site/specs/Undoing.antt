-- What adding and removing are to each other.
use Rattle.std.specs.Prelude.{◌≡◌, ℕ, length}
use Rattle.site.specs.Answer.{Answer, answered}
use Rattle.site.specs.Site.{Site}
use Rattle.site.specs.SiteList.{Columns, site, sites, site_at, in_use}
use Rattle.site.specs.Refusal.{list_refusal}
use Rattle.site.specs.InUse.{ChangeValues}
use Rattle.site.specs.Addition.{add_answer}
use Rattle.site.specs.Removal.{remove_answer}

-- A place and the old count are answered, and the used part is that of `c`.
pub record GivenBack (c : Columns) (n place : ℕ) (answer : Answer ChangeValues) : Type 0 where
  pub values : ChangeValues
  pub answers : answer ≡ answered values
  pub same_place : values.place ≡ place
  pub same_count : values.count ≡ n
  pub same_used : in_use n values.columns ≡ in_use n c

-- "Adding and at once removing one site, or the reverse, gives back the columns' used part." (02 f)
pub record Undoing : Type 0 where
  -- The site that is added has as many further coordinates as the list has columns of them; it is removed by x, y and number.
  pub adding_undone : (c : Columns) (n : ℕ) (s : Site) (v : ChangeValues) → length s.further ≡ length c.further
      → add_answer c n s ≡ answered v → GivenBack c n v.place (remove_answer v.columns v.count (site s.x s.y s.number))
  -- The site that was taken out is added, with the height that it had.
  pub removing_undone : (c : Columns) (n : ℕ) (s : Site) (v : ChangeValues) → remove_answer c n s ≡ answered v
      → GivenBack c n v.place (add_answer v.columns v.count (site_at (sites (in_use n c)) v.place))
  -- It is "the site with a given x, y and number".
  pub asked : (c : Columns) (n : ℕ) (s : Site) (v : ChangeValues) → remove_answer c n s ≡ answered v
      → (let t = site_at (sites (in_use n c)) v.place in (t.x ≡ s.x) × (t.y ≡ s.y) × (t.number ≡ s.number))
  -- Removing leaves a lawful list.
  pub lawful : (c : Columns) (n : ℕ) (s : Site) (v : ChangeValues) → remove_answer c n s ≡ answered v
      → list_refusal (in_use v.count v.columns) ≡ 0
