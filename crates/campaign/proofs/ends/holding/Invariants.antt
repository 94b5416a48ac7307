-- `campaign::ends::holding` meets its contract. The loop's invariant: the ends counted and those still to count are all.
use Prim.Native.Nat.{◌+◌, ◌≤◌}
use mathlib.Core.Path.{◌≡◌}
use lib.Dec.{leb}
use lib.ListN.{length, drop}
use Rattle.order.specs.Lists.{keep}
use Rattle.campaign.specs.Grid.{strip_holding}
use Rattle.campaign.proofs.ends.holding.Given as goal

abbrev pub invariant-loop-end : goal.invariant-loop-end
invariant-loop-end l =
    (l.before ≤ l.end-index)
    × (l.before + length (keep (λ e. leb e l.place) (drop l.end-index l.ends)) ≡ strip_holding l.ends l.place)
