-- The run ends from `known` up to `end`.
use Prim.Native.Nat.{◌-◌}
use Rattle.sweep.proofs.RunAt.{RunWithin}
use Rattle.sweep.proofs.count.run_end.Given as goal

abbrev pub invariant-loop-known : goal.invariant-loop-known
invariant-loop-known l = RunWithin l.xs l.ys l.from l.to l.known l.end

abbrev pub decreases-loop-known : goal.decreases-loop-known
decreases-loop-known l = l.end - l.known
