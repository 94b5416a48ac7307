-- After an addition: the sites in use are those there were with the new one at its place, and they are a lawful list.
use mathlib.Core.Path.{◌≡◌, sym, ap, ◌∙◌}
use mathlib.Core.Bool.{Bool, true, ◌||◌}
use mathlib.Core.List.Permᴰ
use mathlib.Core.List.{List}
use Prim.Native.Nat.{ℕ, ◌+◌, ◌≤◌}
use native.Mathlib.Omega.{arith}
use borrow.Author.Tests.{not-false}
use lib.ListN.{length, take, length-map}
use lib.Seq.{length-take-le}
use Rattle.order.specs.Lists.{all, All}
use Rattle.order.specs.Sort.{insert}
use Rattle.order.proofs.Lists.{all_holds, perm_all}
use Rattle.order.proofs.Sorted.{insert_is_perm}
use Rattle.order.proofs.Places.{put, insert_at_place, ascends_insert}
use Rattle.site.specs.Answer.{answered}
use Rattle.site.specs.Site.{Site, lawful_site, site_before}
use Rattle.site.specs.SiteList.{Columns, sites, in_use}
use Rattle.site.specs.Terms.{Level}
use Rattle.site.specs.Refusal.{list_refusal}
use Rattle.site.specs.InUse.{used_refusal, place_of, present, ChangeValues, change_values}
use Rattle.site.specs.Addition.{add_refusal, insert_site, add_answer}
use Rattle.site.proofs.SiteBefore.{site_order}
use Rattle.site.proofs.PlaceOf.{place_le}
use Rattle.site.proofs.Answer.{answered_values}
use Rattle.site.proofs.Accepted.{LawfulList, lawful_accepted}
use Rattle.site.proofs.InUse.{used_level, used_lawful, used_accepted, in_use_level, in_use_length}
use Rattle.site.proofs.Addition.{added_used, added_lawful, added_new, added_room, added_few}
use Rattle.site.proofs.Rows.{sites_put, in_use_inserted, length_inserted_x, level_inserted}

module _ (c : Columns) (n : ℕ) (s : Site) where
  abbrev old : List Site
  old = sites (in_use n c)

  abbrev spot : ℕ
  spot = place_of s old

  abbrev after : Columns
  after = insert_site spot n s c

  -- The new site has as many coordinates as there are columns of them.
  module _ (fit : length s.further ≡ length c.further) (ok : add_refusal c n s ≡ 0) where
    level : Level c
    level = used_level c n (added_used c n s ok)

    lawful : LawfulList (in_use n c)
    lawful = used_lawful c n (added_used c n s ok)

    within : n ≤ length c.x
    within = omega (arith, added_room c n s ok)

    pub added_low : spot ≤ n
    added_low = omega (arith, place_le s old, in_use_length c n level within)

    pub added_put : sites (in_use (n + 1) after) ≡ put spot s old
    unfolding in_use
    added_put =
        ap sites (in_use_inserted c level spot n s added_low (added_room c n s ok))
        ∙ sites_put (in_use n c) (in_use_level c n level within) spot s (fit ∙ sym (length-map c.further (take n)))
        (omega (arith, length-take-le n c.x within, added_low))

    added_insert : sites (in_use (n + 1) after) ≡ insert site_before s old
    unfolding place_of
    added_insert = added_put ∙ sym (insert_at_place site_order s old lawful.ascends)

    new : All (λ t. (site_before t s || site_before s t) ≡ true) old
    unfolding present
    new =
        let test : Site → Bool = λ t. site_before t s || site_before s t in
        all_holds test old (not-false (all test old) (added_new c n s ok))

    after_level : Level after
    after_level = level_inserted c level spot n s added_low (added_room c n s ok)

    after_within : n + 1 ≤ length after.x
    after_within = omega (arith, added_room c n s ok, length_inserted_x c level spot n s added_low (added_room c n s ok))

    after_lawful : LawfulList (in_use (n + 1) after)
    unfolding in_use All
    after_lawful = record {
      level = in_use_level after (n + 1) after_level after_within;
      few = omega (arith, added_few c n s ok, length-take-le (n + 1) after.x after_within);
      inside =
          rw added_insert
          (perm_all (λ t. lawful_site t ≡ true) (Permᴰ.symm (insert_is_perm site_before s old)) (added_lawful c n s ok, lawful.inside));
      ascends = rw added_insert (ascends_insert site_order s old lawful.ascends new);
    }

    pub after_used : used_refusal after (n + 1) ≡ 0
    after_used = used_accepted after (n + 1) after_level after_within after_lawful

  -- What an addition that answers its values leaves.
  module _ {v : ChangeValues} (fit : length s.further ≡ length c.further) (told : add_answer c n s ≡ answered v) where
    pub added_values : (add_refusal c n s ≡ 0) × (change_values after spot (n + 1) ≡ v)
    unfolding add_answer
    added_values = answered_values (add_refusal c n s) _ v told

    -- The sites in use afterwards.
    pub added_sites : sites (in_use v.count v.columns) ≡ insert site_before s (sites (in_use n c))
    added_sites = let e = added_values in rw (← e.1) (added_insert fit e.0)

    -- They are a lawful list.
    pub added_accepted : list_refusal (in_use v.count v.columns) ≡ 0
    added_accepted = let e = added_values in rw (← e.1) (lawful_accepted _ (after_lawful fit e.0))
