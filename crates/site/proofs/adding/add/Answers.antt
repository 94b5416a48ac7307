-- `site::add` meets its contract.
use mathlib.Core.Path.{◌≡◌, refl, sym, ap, ◌∙◌}
use Prim.Native.Nat.{ℕ, ◌+◌}
use native.Mathlib.Omega.{arith}
use borrow.Author.Rules.{rules, sfits_of}
use mir.Syntax.{w32}
use mir.Val.{SFits}
use mir.Facts.{to_z-of_z}
use Rattle.order.specs.Lists.{All}
use Rattle.site.specs.Answer.{refusal_of}
use Rattle.site.specs.SiteList.{raised, site, sites, in_use}
use Rattle.site.specs.InUse.{place_of, change_values}
use Rattle.site.specs.Addition.{add_refusal, insert_site, site_of, add_answer}
use Rattle.site.proofs.SiteList.{flattened}
use Rattle.site.proofs.Answer.{passed_on}
use Rattle.site.proofs.InUse.{used_level, used_inside, used_asked, in_use_place, change_made, change_refused}
use Rattle.site.proofs.Addition.{added_used, added_room, added_few}
use Rattle.site.proofs.InsertSite.{added_low}
use Rattle.site.proofs.adding.add.Goals as goal

pub returns-in_err-add_refusal : goal.returns-in_err-add_refusal
unfolding add_answer refusal_of
returns-in_err-add_refusal c =
    let a = c.args in
    let l = raised a.x.now a.y.now a.number.now a.height.now in
    rw (passed_on c.from_residual.ensures) (change_refused _ l _ c.in_err-add_refusal.ensures)

pub place_of-place-requires : goal.place_of-place-requires
unfolding refusal_of
place_of-place-requires c =
    let a = c.args in
    let l = raised a.x.now a.y.now a.number.now a.height.now in
    let s = site_of a.s in
    let accepted : add_refusal l a.count s ≡ 0 = sym c.in_ok-add_refusal.ensures in
    let used = added_used l a.count s accepted in
    (used_asked l a.count used).0

pub insert_site-requires : goal.insert_site-requires
unfolding refusal_of All
insert_site-requires c =
    let a = c.args in
    let l = raised a.x.now a.y.now a.number.now a.height.now in
    let s = site_of a.s in
    let accepted : add_refusal l a.count s ≡ 0 = sym c.in_ok-add_refusal.ensures in
    let used = added_used l a.count s accepted in
    let x : SFits w32 a.s.x = sfits_of (search rules) in
    let y : SFits w32 a.s.y = sfits_of (search rules) in
    let level = used_level l a.count used in
    let place : c.place_of-place.result ≡ place_of s (sites (in_use a.count l)) =
    c.place_of-place.ensures
    ∙ (λ i. place_of (site (to_z-of_z x i) (to_z-of_z y i) a.s.number) (sites (in_use a.count (flattened l))))
    ∙ in_use_place l a.count level (used_inside l a.count used) s in
    let low = added_low l a.count s refl accepted in
    let room = added_room l a.count s accepted in (
      omega (arith, place, low),
      room,
      omega (arith, room, level.y),
      omega (arith, room, level.number),
      omega (arith, room, level.further.0),
    )

pub overflow_add-result : goal.overflow_add-result
unfolding refusal_of
overflow_add-result c =
    let a = c.args in
    let l = raised a.x.now a.y.now a.number.now a.height.now in
    let s = site_of a.s in
    let accepted : add_refusal l a.count s ≡ 0 = sym c.in_ok-add_refusal.ensures in
    let used = added_used l a.count s accepted in
    omega (arith, added_few l a.count s accepted)

pub returns : goal.returns
unfolding refusal_of add_answer
returns c =
    let a = c.args in
    let l = raised a.x.now a.y.now a.number.now a.height.now in
    let s = site_of a.s in
    let accepted : add_refusal l a.count s ≡ 0 = sym c.in_ok-add_refusal.ensures in
    let used = added_used l a.count s accepted in
    let x : SFits w32 a.s.x = sfits_of (search rules) in
    let y : SFits w32 a.s.y = sfits_of (search rules) in
    let level = used_level l a.count used in
    let place : c.place_of-place.result ≡ place_of s (sites (in_use a.count l)) =
    c.place_of-place.ensures
    ∙ (λ i. place_of (site (to_z-of_z x i) (to_z-of_z y i) a.s.number) (sites (in_use a.count (flattened l))))
    ∙ in_use_place l a.count level (used_inside l a.count used) s in
    change_made _ l accepted
    (λ i. change_values ((c.insert_site.ensures ∙ ap (λ (p : ℕ). insert_site p a.count s l) place) i) (place i) (a.count + 1))
