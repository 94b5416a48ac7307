-- Each turn halves where the run may end.
use mathlib.Core.Path.{sym, ◌∙◌}
use native.Mathlib.Omega.{arith}
use Rattle.sweep.proofs.RunAt.{run_starts, run_before, run_beyond, run_ends}
use Rattle.sweep.proofs.count.run_end.Goals as goal

pub loop-known-init : goal.loop-known-init
loop-known-init c = run_starts c.requires.1

pub loop-known-preserved-then-before_at : goal.loop-known-preserved-then-before_at
loop-known-preserved-then-before_at c =
    run_before c.loop-known.invariant (omega arith) (omega arith) (sym c.before_at.ensures ∙ c.if-before_at.true)

pub loop-known-preserved : goal.loop-known-preserved
loop-known-preserved c =
    run_beyond c.requires.0 c.loop-known.invariant (omega arith) (omega arith) (sym c.before_at.ensures ∙ c.if-before_at.false)

pub returns : goal.returns
returns c = run_ends c.loop-known.invariant c.loop-known-test.false
