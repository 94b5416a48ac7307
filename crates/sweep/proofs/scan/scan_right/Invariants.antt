-- A scan to the right: each turn is one look.
use Prim.Native.Nat.{◌-◌}
use Rattle.entry.specs.Results.{results}
use Rattle.entry.proofs.Within.{SameLengths}
use Rattle.sweep.specs.Terms.{rightward}
use Rattle.sweep.proofs.ScanInvariant.{ScanInvariant}
use Rattle.sweep.proofs.scan.scan_right.Given as goal

abbrev pub invariant-loop-at : goal.invariant-loop-at
invariant-loop-at l =
    let before = results l.initial.distance l.initial.first l.initial.second in
    let now = results l.distance l.first l.second in
    let all = rightward l.xs l.ys l.hs l.from (l.to - l.from) in
    let left = rightward l.xs l.ys l.hs l.at (l.to - l.at) in
    SameLengths before now × ScanInvariant l.k before l.initial.tally l.reference all left now l.tally
