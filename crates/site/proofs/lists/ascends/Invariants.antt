-- The breaks counted, and those in what is left, are all of the list's.
use Rattle.std.specs.Prelude.{◌≡◌, ◌+◌, ◌-◌, ◌<◌, drop}
use Rattle.site.specs.Site.{site_before}
use Rattle.site.specs.SiteList.{columns, sites}
use Rattle.site.proofs.Counting.{breaks}
use Rattle.site.proofs.lists.ascends.Given as goal

abbrev pub invariant-loop-i : goal.invariant-loop-i
invariant-loop-i l =
    let list = sites (columns l.x l.y l.number) in
    (l.breaks < l.i) × (l.breaks + breaks site_before (drop (l.i - 1) list) ≡ breaks site_before list)
