-- `put_sites` meets its contract: what is left to store, stored after what was, is the whole body.
use mathlib.Core.Path.{◌≡◌}
use mathlib.Core.List.{flat_map}
use Prim.Native.Nat.{◌+◌, ◌*◌}
use lib.ListN.{drop}
use Rattle.site.specs.SiteList.{columns, sites}
use Rattle.column.specs.Column.{stored}
use Rattle.site_file.specs.File.{site_bytes}
use Rattle.site_file.proofs.writing.put_sites.Given as goal

abbrev pub invariant-loop-i : goal.invariant-loop-i
invariant-loop-i l =
    stored (l.start + 12 * l.i) (flat_map site_bytes (drop l.i (sites (columns l.x l.y l.number)))) l.buffer
    ≡ stored l.start (flat_map site_bytes (sites (columns l.x l.y l.number))) l.initial.buffer
