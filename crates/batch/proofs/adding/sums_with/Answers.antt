-- `batch::adding::sums_with` meets its contract.
use mathlib.Core.Path.{ap, ◌∙◌}
use native.Mathlib.Omega.{arith}
use Rattle.join.specs.Join.{Counts}
use Rattle.batch.specs.Batch.{add_counts}
use Rattle.batch.proofs.adding.sums_with.Goals as goal

pub overflow_add-before : goal.overflow_add-before
overflow_add-before c = omega (arith, ap (λ (n : Counts). n.looks) c.counted-more.ensures, c.requires.looks)

pub overflow_add-before-2 : goal.overflow_add-before-2
overflow_add-before-2 c = omega (arith, ap (λ (n : Counts). n.distances) c.counted-more.ensures, c.requires.distances)

pub overflow_add-before-3 : goal.overflow_add-before-3
overflow_add-before-3 c = omega (arith, ap (λ (n : Counts). n.range_pairs) c.counted-more.ensures, c.requires.range_pairs)

pub returns : goal.returns
returns c =
    record {
      skipped = omega (arith, c.skipped.ensures);
      counts = c.counters.ensures ∙ ap (add_counts _) c.counted-more.ensures;
    }
