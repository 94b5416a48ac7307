-- `vumlintel_remove` meets its contract: what the call told, crossed.
use Rattle.vumlintel.proofs.Crosses.{crossed_change, site_of_lem}
use Rattle.vumlintel.proofs.lists.vumlintel_remove.Goals as goal

pub returns : goal.returns
returns c =
    let asked = site_of_lem c.args.site_number c.ranges.site_x c.ranges.site_y in
    crossed_change _ (rw asked at c.remove-answer.ensures) c.cross_changed.ensures
