-- `site::remove` meets its contract.
use mathlib.Core.Path.{◌≡◌, sym, ap, ◌∙◌}
use Prim.Native.Nat.{ℕ, ◌-◌}
use native.Mathlib.Omega.{arith}
use mir.Facts.{to_z-of_z}
use Rattle.order.specs.Lists.{All}
use Rattle.site.specs.Answer.{refusal_of}
use Rattle.site.specs.SiteList.{raised, site, sites, in_use}
use Rattle.site.specs.InUse.{place_of, change_values}
use Rattle.site.specs.Removal.{remove_refusal, remove_site, remove_answer}
use Rattle.site.proofs.SiteList.{flattened}
use Rattle.site.proofs.Answer.{passed_on}
use Rattle.site.proofs.InUse.{used_level, used_inside, used_asked, in_use_place, change_made, change_refused}
use Rattle.site.proofs.Removal.{removed_used}
use Rattle.site.proofs.RemoveSite.{removed_low}
use Rattle.site.proofs.removing.remove.Goals as goal

pub returns-in_err-remove_refusal : goal.returns-in_err-remove_refusal
unfolding remove_answer refusal_of
returns-in_err-remove_refusal c =
    let a = c.args in
    let l = raised a.x.now a.y.now a.number.now a.height.now in
    let told =
    c.in_err-remove_refusal.ensures
    ∙ (λ i. remove_refusal l a.count (site (to_z-of_z c.ranges.sx i) (to_z-of_z c.ranges.sy i) a.sn)) in
    rw (passed_on c.from_residual.ensures) (change_refused _ l _ told)

pub place_of-place-requires : goal.place_of-place-requires
unfolding refusal_of
place_of-place-requires c =
    let a = c.args in
    let f = c.ranges in
    let l = raised a.x.now a.y.now a.number.now a.height.now in
    let s = site a.sx a.sy a.sn in
    let accepted : remove_refusal l a.count s ≡ 0 =
    sym
    (c.in_ok-remove_refusal.ensures ∙ (λ i. remove_refusal l a.count (site (to_z-of_z f.sx i) (to_z-of_z f.sy i) a.sn))) in
    let used = removed_used l a.count s accepted in
    (used_asked l a.count used).0

pub remove_site-requires : goal.remove_site-requires
unfolding refusal_of All
remove_site-requires c =
    let a = c.args in
    let f = c.ranges in
    let l = raised a.x.now a.y.now a.number.now a.height.now in
    let s = site a.sx a.sy a.sn in
    let accepted : remove_refusal l a.count s ≡ 0 =
    sym
    (c.in_ok-remove_refusal.ensures ∙ (λ i. remove_refusal l a.count (site (to_z-of_z f.sx i) (to_z-of_z f.sy i) a.sn))) in
    let used = removed_used l a.count s accepted in
    let level = used_level l a.count used in
    let place : c.place_of-place.result ≡ place_of s (sites (in_use a.count l)) =
    c.place_of-place.ensures
    ∙ (λ i. place_of (site (to_z-of_z f.sx i) (to_z-of_z f.sy i) a.sn) (sites (in_use a.count (flattened l))))
    ∙ in_use_place l a.count level (used_inside l a.count used) s in
    let inside = used_inside l a.count used in (
      omega (arith, place, removed_low l a.count s accepted),
      inside,
      omega (arith, inside, level.y),
      omega (arith, inside, level.number),
      omega (arith, inside, level.further.0),
    )

pub overflow_sub-result : goal.overflow_sub-result
unfolding refusal_of
overflow_sub-result c =
    let a = c.args in
    let f = c.ranges in
    let l = raised a.x.now a.y.now a.number.now a.height.now in
    let s = site a.sx a.sy a.sn in
    let accepted : remove_refusal l a.count s ≡ 0 =
    sym
    (c.in_ok-remove_refusal.ensures ∙ (λ i. remove_refusal l a.count (site (to_z-of_z f.sx i) (to_z-of_z f.sy i) a.sn))) in
    let used = removed_used l a.count s accepted in
    let level = used_level l a.count used in
    let place : c.place_of-place.result ≡ place_of s (sites (in_use a.count l)) =
    c.place_of-place.ensures
    ∙ (λ i. place_of (site (to_z-of_z f.sx i) (to_z-of_z f.sy i) a.sn) (sites (in_use a.count (flattened l))))
    ∙ in_use_place l a.count level (used_inside l a.count used) s in
    omega (arith, place, removed_low l a.count s accepted)

pub returns : goal.returns
unfolding refusal_of remove_answer
returns c =
    let a = c.args in
    let f = c.ranges in
    let l = raised a.x.now a.y.now a.number.now a.height.now in
    let s = site a.sx a.sy a.sn in
    let accepted : remove_refusal l a.count s ≡ 0 =
    sym
    (c.in_ok-remove_refusal.ensures ∙ (λ i. remove_refusal l a.count (site (to_z-of_z f.sx i) (to_z-of_z f.sy i) a.sn))) in
    let used = removed_used l a.count s accepted in
    let level = used_level l a.count used in
    let place : c.place_of-place.result ≡ place_of s (sites (in_use a.count l)) =
    c.place_of-place.ensures
    ∙ (λ i. place_of (site (to_z-of_z f.sx i) (to_z-of_z f.sy i) a.sn) (sites (in_use a.count (flattened l))))
    ∙ in_use_place l a.count level (used_inside l a.count used) s in
    change_made _ l accepted
    (λ i. change_values ((c.remove_site.ensures ∙ ap (λ (p : ℕ). remove_site p a.count l) place) i) (place i) (a.count - 1))
