-- Each turn passes one site, or one run of each list. From both fingers on there is a strip: `a` and `b`.
use mathlib.Core.Path.{sym, ◌∙◌}
use Prim.Native.Nat.{◌-◌}
use native.Mathlib.Omega.{arith}
use Rattle.sweep.proofs.CoSited.{strip_on, strip_plane, part_heights, co_sited_none, co_sited_none_second, pairs_counted, all_few, co_sited_first, co_sited_second, co_sited_runs}
use Rattle.sweep.proofs.count.co_sited.Goals as goal

pub loop-i-preserved-then-before_at : goal.loop-i-preserved-then-before_at
loop-i-preserved-then-before_at c =
    let l = c.loop-i in
    let a = strip_on l.i c.requires.0 l.invariant.0 in
    let b = strip_on l.j c.requires.1 l.invariant.1 in
    let on = co_sited_first a b c.loop-i-test.true (sym c.before_at.ensures ∙ c.if-before_at.true) in
    (omega arith, l.invariant.1, omega (arith, l.invariant.2))

pub loop-i-preserved-then-before_at-2 : goal.loop-i-preserved-then-before_at-2
loop-i-preserved-then-before_at-2 c =
    let l = c.loop-i in
    let a = strip_on l.i c.requires.0 l.invariant.0 in
    let b = strip_on l.j c.requires.1 l.invariant.1 in
    let on = co_sited_second a b c.if-j-b_to.true (sym c.before_at-else-before_at.ensures ∙ c.if-before_at-2.true) in
    (l.invariant.0, omega arith, omega (arith, l.invariant.2))

pub run_end-p-requires : goal.run_end-p-requires
run_end-p-requires c = (strip_plane (strip_on c.loop-i.i c.requires.0 c.loop-i.invariant.0), c.loop-i-test.true)

pub run_end-q-requires : goal.run_end-q-requires
run_end-q-requires c = (strip_plane (strip_on c.loop-i.j c.requires.1 c.loop-i.invariant.1), c.if-j-b_to.true)

pub equal_pairs-count-requires : goal.equal_pairs-count-requires
equal_pairs-count-requires c =
    let l = c.loop-i in
    let one = part_heights (strip_on l.i c.requires.0 l.invariant.0) (c.run_end-p.result - l.i) l.i in
    let other = part_heights (strip_on l.j c.requires.1 l.invariant.1) (c.run_end-q.result - l.j) l.j in
    (one.0, other.0, one.1, other.1)

pub overflow_add-count : goal.overflow_add-count
overflow_add-count c =
    let l = c.loop-i in
    let a = strip_on l.i c.requires.0 l.invariant.0 in
    let b = strip_on l.j c.requires.1 l.invariant.1 in
    let runs =
    co_sited_runs a b c.run_end-p.ensures c.run_end-q.ensures (sym c.before_at.ensures ∙ c.if-before_at.false)
    (sym c.before_at-else-before_at.ensures ∙ c.if-before_at-2.false) in
    omega (
      arith,
      runs,
      c.equal_pairs-count.ensures,
      pairs_counted c.requires.0 c.requires.1,
      all_few c.requires.0 c.requires.1,
      l.invariant.2,
    )

pub loop-i-preserved : goal.loop-i-preserved
loop-i-preserved c =
    let l = c.loop-i in
    let a = strip_on l.i c.requires.0 l.invariant.0 in
    let b = strip_on l.j c.requires.1 l.invariant.1 in
    let runs =
    co_sited_runs a b c.run_end-p.ensures c.run_end-q.ensures (sym c.before_at.ensures ∙ c.if-before_at.false)
    (sym c.before_at-else-before_at.ensures ∙ c.if-before_at-2.false) in
    (c.run_end-p.ensures.inside, c.run_end-q.ensures.inside, omega (arith, runs, c.equal_pairs-count.ensures, l.invariant.2))

pub returns-else-j-b_to : goal.returns-else-j-b_to
returns-else-j-b_to c =
    let l = c.loop-i in
    let none =
    co_sited_none_second (strip_on l.i c.requires.0 l.invariant.0) (strip_on l.j c.requires.1 l.invariant.1) c.if-j-b_to.false in
    omega (arith, l.invariant.2)

pub returns-after-loop-i : goal.returns-after-loop-i
returns-after-loop-i c =
    let l = c.loop-i in
    let none =
    co_sited_none (strip_on l.i c.requires.0 l.invariant.0) (strip_on l.j c.requires.1 l.invariant.1) c.loop-i-test.false in
    omega (arith, l.invariant.2)
