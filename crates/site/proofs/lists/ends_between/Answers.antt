-- `site::ends_between` meets its contract.
use mathlib.Core.Path.{sym, ◌∙◌}
use Prim.Native.Nat.{◌-◌, ◌<◌}
use borrow.Author.Rules.{rules, sfits_of}
use lib.IntN.{pos}
use lib.ListN.{length, get_or}
use mir.Syntax.{w32}
use mir.Val.{SFits}
use mir.Facts.{to_z-of_z}
use Rattle.site.specs.Site.{between}
use Rattle.site.proofs.Within.{none_between, first_decides, last_decides}
use Rattle.site.proofs.lists.ends_between.Goals as goal

pub returns-then-is_empty : goal.returns-then-is_empty
returns-then-is_empty c = none_between _ _ _ (search rules)

pub returns-then-between : goal.returns-then-between
returns-then-between c =
    let a = c.args in
    let f = c.ranges in
    let some : 0 < length a.column.now = search rules in
    let u : SFits w32 (get_or a.column.now 0 (pos 0)) = sfits_of (search rules) in
    let v : SFits w32 (get_or a.column.now (length a.column.now - 1) (pos 0)) = sfits_of (search rules) in
    let first = c.between.ensures ∙ (λ i. between (to_z-of_z f.low i) (to_z-of_z f.high i) (to_z-of_z u i)) in
    let last = c.between-then-between.ensures ∙ (λ i. between (to_z-of_z f.low i) (to_z-of_z f.high i) (to_z-of_z v i)) in
    last ∙ last_decides _ _ _ some c.requires (sym first ∙ c.if-between.true)

pub returns-else-between : goal.returns-else-between
returns-else-between c =
    let a = c.args in
    let f = c.ranges in
    let some : 0 < length a.column.now = search rules in
    let u : SFits w32 (get_or a.column.now 0 (pos 0)) = sfits_of (search rules) in
    let first = c.between.ensures ∙ (λ i. between (to_z-of_z f.low i) (to_z-of_z f.high i) (to_z-of_z u i)) in
    c.if-between.false ∙ first_decides _ _ _ some (sym first ∙ c.if-between.false)
