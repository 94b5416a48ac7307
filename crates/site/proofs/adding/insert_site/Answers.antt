-- `site::insert_site` meets its contract.
use borrow.Author.Rules.{rules, sfits_of}
use mathlib.Core.List.{zip_with}
use lib.IntN.{ℤ}
use mir.Syntax.{w32}
use mir.Val.{SFits}
use mir.Facts.{to_z-of_z}
use Rattle.site.specs.SiteList.{raised}
use Rattle.column.specs.Column.{inserted}
use Rattle.site.specs.Addition.{insert_site}
use Rattle.site.proofs.Signed.{at₁}
use Rattle.site.proofs.adding.insert_site.Goals as goal

pub returns : goal.returns
unfolding insert_site zip_with
returns c =
    let a = c.args in
    let x : SFits w32 a.s.x = sfits_of (search rules) in
    let y : SFits w32 a.s.y = sfits_of (search rules) in
    let h : SFits w32 a.s.height = sfits_of (search rules) in
    let at_x = at₁ (λ (z : ℤ). inserted a.place a.n z a.x.now) (to_z-of_z x) c.insert.ensures in
    let at_y = at₁ (λ (z : ℤ). inserted a.place a.n z a.y.now) (to_z-of_z y) c.insert-2.ensures in
    let at_h = at₁ (λ (z : ℤ). inserted a.place a.n z a.height.now) (to_z-of_z h) c.insert-4.ensures in
    λ i. raised (at_x i) (at_y i) (c.insert-3.ensures i) (at_h i)
