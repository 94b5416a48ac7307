-- The offsets at the places passed are below the limit.
use Rattle.std.proofs.Common.{ℕ, ◌<◌, ◌≤◌, length}
use Rattle.pairs.specs.Internal.{offset_at}
use Rattle.pairs.proofs.window.skip_below.Given as goal

abbrev pub invariant-loop-i : goal.invariant-loop-i
invariant-loop-i l = record {
  onward : l.from ≤ l.i;
  inside : l.i ≤ length l.xs;
  below : (k : ℕ) → l.from ≤ k → k < l.i → offset_at l.xs k < l.limit;
}
