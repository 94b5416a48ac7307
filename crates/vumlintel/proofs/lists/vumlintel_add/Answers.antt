-- `vumlintel_add` meets its contract: what the call told, crossed.
use Rattle.vumlintel.proofs.Crosses.{crossed_change, site_up_of}
use Rattle.vumlintel.proofs.lists.vumlintel_add.Goals as goal

pub returns : goal.returns
returns c =
    let new = site_up_of c.args.site_number c.ranges.site_x c.ranges.site_y c.ranges.site_height in
    crossed_change _ (rw new at c.add-answer.ensures) c.cross_changed.ensures
