-- A scan to the left: each turn is one look.
use Prim.Native.Nat.{◌-◌, ◌≤◌}
use Rattle.entry.specs.Results.{results}
use Rattle.entry.proofs.Within.{SameLengths}
use Rattle.sweep.specs.Internal.{leftward}
use Rattle.sweep.proofs.ScanInvariant.{ScanInvariant}
use Rattle.sweep.proofs.scan.scan_left.Given as goal

abbrev pub invariant-loop-at : goal.invariant-loop-at
invariant-loop-at l =
    let before = results l.initial.distance l.initial.first l.initial.second in
    let now = results l.distance l.first l.second in
    let all = leftward l.xs l.ys l.hs l.limit (l.taken - l.limit) in
    let left = leftward l.xs l.ys l.hs l.limit (l.at - l.limit) in
    SameLengths before now
    × ((l.limit ≤ l.at) × (l.at ≤ l.taken))
    × ScanInvariant l.k before l.initial.tally l.reference all left now l.tally

abbrev pub decreases-loop-at : goal.decreases-loop-at
decreases-loop-at l = l.at
