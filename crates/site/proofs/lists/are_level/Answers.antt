-- `site::are_level` meets its contract.
use Rattle.site.proofs.ListRefusal.{sizes_unequal_y, sizes_unequal_number, sizes_equal}
use Rattle.site.proofs.lists.are_level.Goals as goal
use Rattle.site.proofs.lists.are_level.Goals.{then-x-y-via-then-x-y, then-x-y-via-else-x-y+then-x-number}

pub returns-then-x-y : goal.returns-then-x-y
returns-then-x-y c =
    elim c.then-x-y.branch [
      | then-x-y-via-then-x-y w ↦ sizes_unequal_y _ _ _ w.if-x-y.true
      | then-x-y-via-else-x-y+then-x-number w ↦ sizes_unequal_number _ _ _ w.if-x-number.true
    ]

pub returns : goal.returns
returns c = sizes_equal _ _ _ c.if-x-y.false c.if-x-number.false
