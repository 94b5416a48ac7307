-- After a removal: the sites in use are those there were without the one asked for, and they are a lawful list.
use mathlib.Core.Path.{◌≡◌, ap, ◌∙◌}
use mathlib.Core.Bool.{true}
use mathlib.Core.List.{List}
use Prim.Native.Nat.{ℕ, ◌-◌, ◌≤◌, ◌<◌}
use native.Mathlib.Omega.{arith}
use borrow.Author.Tests.{not-true}
use lib.ListN.{length}
use lib.Seq.{length-take-le}
use Rattle.order.proofs.Places.{without, all_without, ascends_without, place_found}
use Rattle.site.specs.Answer.{answered}
use Rattle.site.specs.Site.{Site, lawful_site}
use Rattle.site.specs.SiteList.{Columns, sites, site_at, in_use}
use Rattle.site.specs.Terms.{Level}
use Rattle.site.specs.Refusal.{list_refusal}
use Rattle.site.specs.InUse.{used_refusal, place_of, present, ChangeValues, change_values}
use Rattle.site.specs.Removal.{remove_refusal, remove_site, remove_answer}
use Rattle.site.proofs.SiteBefore.{SameSite, site_order}
use Rattle.site.proofs.SiteList.{nowhere}
use Rattle.site.proofs.Answer.{answered_values}
use Rattle.site.proofs.Accepted.{LawfulList, lawful_accepted}
use Rattle.site.proofs.InUse.{used_level, used_few, used_inside, used_lawful, used_accepted, in_use_level, in_use_length}
use Rattle.site.proofs.Removal.{removed_used, removed_present}
use Rattle.site.proofs.Rows.{sites_without, in_use_removed, length_removed_x, level_removed}

module _ (c : Columns) (n : ℕ) (s : Site) where
  abbrev old : List Site
  old = sites (in_use n c)

  abbrev spot : ℕ
  spot = place_of s old

  abbrev after : Columns
  after = remove_site spot n c

  module _ (ok : remove_refusal c n s ≡ 0) where
    level : Level c
    level = used_level c n (removed_used c n s ok)

    lawful : LawfulList (in_use n c)
    lawful = used_lawful c n (removed_used c n s ok)

    within : n ≤ length c.x
    within = used_inside c n (removed_used c n s ok)

    found : (spot < length old) × SameSite (site_at old spot) s
    unfolding place_of present site_at
    found = place_found site_order s nowhere old lawful.ascends (not-true _ (removed_present c n s ok))

    pub removed_low : spot < n
    removed_low = omega (arith, found.0, in_use_length c n level within)

    pub removed_without : sites (in_use (n - 1) after) ≡ without spot old
    removed_without = ap sites (in_use_removed c level spot n removed_low within) ∙ sites_without spot (in_use n c)

    after_level : Level after
    after_level = level_removed c level spot n removed_low within

    after_within : n - 1 ≤ length after.x
    after_within = omega (arith, within, length_removed_x c level spot n removed_low within)

    after_lawful : LawfulList (in_use (n - 1) after)
    unfolding in_use
    after_lawful = record {
      level = in_use_level after (n - 1) after_level after_within;
      few = omega (arith, used_few c n (removed_used c n s ok), length-take-le (n - 1) after.x after_within);
      inside = rw removed_without (all_without (λ t. lawful_site t ≡ true) spot old lawful.inside);
      ascends = rw removed_without (ascends_without site_order spot old lawful.ascends);
    }

    pub after_used : used_refusal after (n - 1) ≡ 0
    after_used = used_accepted after (n - 1) after_level after_within after_lawful

  -- What a removal that answers its values leaves.
  module _ {v : ChangeValues} (told : remove_answer c n s ≡ answered v) where
    pub removed_values : (remove_refusal c n s ≡ 0) × (change_values after spot (n - 1) ≡ v)
    unfolding remove_answer
    removed_values = answered_values (remove_refusal c n s) _ v told

    -- The site that was taken out is the one asked for.
    pub removed_site : SameSite (site_at (sites (in_use n c)) v.place) s
    removed_site = let e = removed_values in rw (← e.1) (found e.0).1

    -- The sites in use afterwards.
    pub removed_sites : sites (in_use v.count v.columns) ≡ without v.place (sites (in_use n c))
    removed_sites = let e = removed_values in rw (← e.1) (removed_without e.0)

    -- They are a lawful list.
    pub removed_accepted : list_refusal (in_use v.count v.columns) ≡ 0
    removed_accepted = let e = removed_values in rw (← e.1) (lawful_accepted _ (after_lawful e.0))
