-- Those counted, and those among what is left that come before, are all that do.
use Rattle.std.specs.Prelude.{◌≡◌, ◌+◌, ◌≤◌, drop}
use Rattle.site.specs.SiteList.{columns, site, sites, in_use}
use Rattle.site.specs.InUse.{place_of}
use Rattle.site.proofs.in_use.place_of.Given as goal

abbrev pub invariant-loop-i : goal.invariant-loop-i
invariant-loop-i l =
    let used = sites (in_use l.n (columns l.x l.y l.number)) in
    let s = site l.sx l.sy l.sn in
    (l.place ≤ l.i) × (l.place + place_of s (drop l.i used) ≡ place_of s used)
