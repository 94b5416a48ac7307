-- Adding and removing undo each other.
use mathlib.Core.Path.{◌≡◌, refl, sym, ap, ◌∙◌}
use mathlib.Core.Bool.{true, false, not}
use mathlib.Core.List.{List}
use Prim.Native.Nat.{ℕ, ◌+◌, ◌-◌, ◌≤◌, ◌<◌}
use native.Mathlib.Omega.{arith}
use lib.ListN.{length, take, length-map}
use lib.Seq.{length-take-le}
use Rattle.order.specs.Order.{lex}
use Rattle.order.proofs.Lists.{all_at, holds_all}
use Rattle.order.proofs.Places.{put, without, place_by, put_found, place_put, without_new, place_without}
use Rattle.site.specs.Site.{Site, lawful_site, site_before}
use Rattle.site.specs.SiteList.{Columns, sites, site_at, in_use}
use Rattle.site.specs.Terms.{Level}
use Rattle.site.specs.InUse.{place_of, present, change_values}
use Rattle.site.specs.Addition.{add_refusal, insert_site, add_answer}
use Rattle.site.specs.Removal.{remove_refusal, remove_site, remove_answer}
use Rattle.site.specs.Undoing.{GivenBack, Undoing}
use Rattle.site.proofs.SiteBefore.{site_order}
use Rattle.site.proofs.SiteList.{nowhere, flat_site, site_at_lem}
use Rattle.site.proofs.Answer.{answer_values}
use Rattle.site.proofs.Accepted.{LawfulList}
use Rattle.site.proofs.InUse.{used_level, used_few, used_inside, used_lawful, in_use_level, in_use_length}
use Rattle.site.proofs.Addition.{add_ok, added_used, added_room}
use Rattle.site.proofs.Removal.{remove_ok, removed_used}
use Rattle.site.proofs.Rows.{put_row, without_row, without_row_put, put_row_without, in_use_inserted, in_use_removed, length_inserted_x, level_inserted, length_removed_x, level_removed}
use Rattle.site.proofs.InsertSite as inserting
use Rattle.site.proofs.RemoveSite as removing

-- No height is given to a removal: it looks at x, y and number alone.
remove_flat : (c : Columns) (n : ℕ) (s : Site) → remove_answer c n (flat_site s) ≡ remove_answer c n s
unfolding remove_answer remove_refusal place_of present site_before lex
remove_flat c n s = refl

-- ---- adding, then removing

module _ (c : Columns) (n : ℕ) (s : Site) (fit : length s.further ≡ length c.further) (ok : add_refusal c n s ≡ 0) where
  abbrev p : ℕ
  p = place_of s (sites (in_use n c))

  -- The columns after the addition, and their sites in use.
  abbrev d : Columns
  d = insert_site p n s c

  abbrev larger : List Site
  larger = sites (in_use (n + 1) d)

  level : Level c
  level = used_level c n (added_used c n s ok)

  low : p ≤ n
  low = inserting.added_low c n s fit ok

  room : n < length c.x
  room = added_room c n s ok

  larger_is : larger ≡ put p s (sites (in_use n c))
  larger_is = inserting.added_put c n s fit ok

  there : present s larger ≡ true
  unfolding present
  there = rw larger_is (ap not (put_found site_order p s (sites (in_use n c))))

  its_place : place_of s larger ≡ p
  unfolding place_of
  its_place = ap (place_by site_before s) larger_is ∙ place_put site_order p s (sites (in_use n c))

  shrunk : in_use n (remove_site p (n + 1) d) ≡ in_use n c
  unfolding in_use
  shrunk =
      let one : (n + 1) - 1 ≡ n = omega arith in
      let long : n + 1 ≤ length d.x = omega (arith, room, length_inserted_x c level p n s low room) in
      let used = in_use_level c n level (omega (arith, room)) in
      rw one at (in_use_removed d (level_inserted c level p n s low room) p (n + 1) (omega (arith, low)) long)
      ∙ ap (without_row p) (in_use_inserted c level p n s low room)
      ∙ without_row_put (in_use n c) used p s (fit ∙ sym (length-map c.further (take n)))
      (omega (arith, low, length-take-le n c.x (omega (arith, room))))

  back : GivenBack c n p (remove_answer d (n + 1) s)
  unfolding remove_answer
  back = record {
    values = change_values (remove_site (place_of s larger) (n + 1) d) (place_of s larger) ((n + 1) - 1);
    answers = sym (answer_values (sym (remove_ok d (n + 1) s (inserting.after_used c n s fit ok) there)));
    same_place = its_place;
    same_count = omega arith;
    same_used = ap (λ (q : ℕ). in_use n (remove_site q (n + 1) d)) its_place ∙ shrunk;
  }

-- ---- removing, then adding

module _ (c : Columns) (n : ℕ) (s : Site) (ok : remove_refusal c n s ≡ 0) where
  abbrev whole : List Site
  whole = sites (in_use n c)

  abbrev gone : ℕ
  gone = place_of s whole

  -- The site that was taken out, and the columns after that.
  abbrev t : Site
  t = site_at whole gone

  abbrev rest : Columns
  rest = remove_site gone n c

  abbrev smaller : List Site
  smaller = sites (in_use (n - 1) rest)

  old_level : Level c
  old_level = used_level c n (removed_used c n s ok)

  inside : n ≤ length c.x
  inside = used_inside c n (removed_used c n s ok)

  gone_low : gone < n
  gone_low = removing.removed_low c n s ok

  gone_there : gone < length whole
  gone_there = omega (arith, gone_low, in_use_length c n old_level inside)

  lawful : LawfulList (in_use n c)
  lawful = used_lawful c n (removed_used c n s ok)

  smaller_is : smaller ≡ without gone whole
  smaller_is = removing.removed_without c n s ok

  t_lawful : lawful_site t ≡ true
  unfolding site_at
  t_lawful = all_at (λ u. lawful_site u ≡ true) whole gone nowhere gone_there lawful.inside

  t_new : present t smaller ≡ false
  unfolding present site_at
  t_new = rw smaller_is (ap not (holds_all _ (without gone whole) (without_new site_order gone nowhere whole gone_there lawful.ascends)))

  t_place : place_of t smaller ≡ gone
  unfolding place_of site_at
  t_place = ap (place_by site_before t) smaller_is ∙ place_without site_order gone nowhere whole gone_there lawful.ascends

  long : length rest.x ≡ length c.x
  long = length_removed_x c old_level gone n gone_low inside

  acceptable : add_refusal rest (n - 1) t ≡ 0
  acceptable =
      sym (add_ok rest (n - 1) t (removing.after_used c n s ok) t_lawful (omega (arith, long, inside, gone_low))
      (omega (arith, gone_low, used_few c n (removed_used c n s ok))) t_new)

  grown : in_use n (insert_site gone (n - 1) t rest) ≡ in_use n c
  unfolding in_use
  grown =
      let one : (n - 1) + 1 ≡ n = omega (arith, gone_low) in
      let used = in_use_level c n old_level inside in
      let low : gone < length (in_use n c).x = omega (arith, gone_low, length-take-le n c.x inside) in
      rw one at
      (in_use_inserted rest (level_removed c old_level gone n gone_low inside) gone (n - 1) t (omega (arith, gone_low))
      (omega (arith, long, inside, gone_low)))
      ∙ ap (put_row gone t) (in_use_removed c old_level gone n gone_low inside)
      ∙ ap (λ (u : Site). put_row gone u (without_row gone (in_use n c))) (site_at_lem (in_use n c) used gone low)
      ∙ put_row_without (in_use n c) used gone low

  again : GivenBack c n gone (add_answer rest (n - 1) t)
  unfolding add_answer
  again = record {
    values = change_values (insert_site (place_of t smaller) (n - 1) t rest) (place_of t smaller) ((n - 1) + 1);
    answers = sym (answer_values acceptable);
    same_place = t_place;
    same_count = omega (arith, gone_low);
    same_used = ap (λ (q : ℕ). in_use n (insert_site q (n - 1) t rest)) t_place ∙ grown;
  }

pub undoing : Undoing
undoing = record {
  adding_undone = λ c n s v fit told.
      let e = inserting.added_values c n s fit told in
      rw (← e.1, remove_flat) (back c n s fit e.0);
  removing_undone = λ c n s v told.
      let e = removing.removed_values c n s told in
      rw (← e.1) (again c n s e.0);
  asked = λ c n s v told. removing.removed_site c n s told;
  lawful = λ c n s v told. removing.removed_accepted c n s told;
}
