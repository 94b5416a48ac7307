-- `site::used_refusal` meets its contract.
use mathlib.Core.Path.{◌∙◌}
use Rattle.site.specs.Answer.{number, refusal_of}
use Rattle.site.specs.SiteList.{raised, in_use}
use Rattle.site.proofs.ListRefusal.{level_up}
use Rattle.site.proofs.InUse.{used_unequal_y, used_unequal_number, used_unequal_height, used_many, used_beyond, used_list}
use Rattle.site.proofs.in_use.used_refusal.Goals as goal
use Rattle.site.proofs.in_use.used_refusal.Goals.{then-sites-l-via-then-sites-l, then-sites-l-via-else-sites-l+then-sites-l-2, then-sites-l-via-else-sites-l+else-sites-l-2+then-sites-l-3}
use Rattle.site.proofs.in_use.used_refusal.Goals.{then-n-gt65535-via-then-n-gt65535, then-n-gt65535-via-else-n-gt65535+then-sites-n}

pub returns-then-sites-l : goal.returns-then-sites-l
unfolding refusal_of number
returns-then-sites-l c =
    let a = c.args in
    let b = a.l in
    let l = raised b.x.now b.y.now b.number.now b.height.now in
    elim c.then-sites-l.branch [
      | then-sites-l-via-then-sites-l w ↦ used_unequal_y l a.count w.if-sites-l.true
      | then-sites-l-via-else-sites-l+then-sites-l-2 w ↦ used_unequal_number l a.count w.if-sites-l.false w.if-sites-l-2.true
      | then-sites-l-via-else-sites-l+else-sites-l-2+then-sites-l-3 w ↦
          used_unequal_height b.x.now b.y.now b.number.now b.height.now a.count w.if-sites-l-3.true
    ]

pub returns-then-n-gt65535 : goal.returns-then-n-gt65535
unfolding refusal_of number
returns-then-n-gt65535 c =
    let a = c.args in
    let b = a.l in
    let l = raised b.x.now b.y.now b.number.now b.height.now in
    let level = level_up _ _ _ _ c.if-sites-l.false c.if-sites-l-2.false c.if-sites-l-3.false in
    elim c.then-n-gt65535.branch [
      | then-n-gt65535-via-then-n-gt65535 w ↦ used_many l a.count level w.if-n-gt65535.true
      | then-n-gt65535-via-else-n-gt65535+then-sites-n w ↦ used_beyond l a.count level w.if-n-gt65535.false w.if-sites-n.true
    ]

pub returns : goal.returns
unfolding in_use
returns c =
    let a = c.args in
    let b = a.l in
    let l = raised b.x.now b.y.now b.number.now b.height.now in
    let level = level_up _ _ _ _ c.if-sites-l.false c.if-sites-l-2.false c.if-sites-l-3.false in
    c.list_refusal.ensures ∙ used_list l a.count level c.if-sites-n.false c.if-n-gt65535.false
