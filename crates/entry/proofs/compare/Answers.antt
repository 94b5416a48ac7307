-- The greater sum tells the rank.
use mathlib.Core.Path.{sym}
use native.Mathlib.Omega.{arith}
use Rattle.entry.proofs.RankCompare.{compare_before, compare_after, compare_same}
use Rattle.entry.proofs.compare.Goals as goal

pub returns-then-less-greater : goal.returns-then-less-greater
returns-then-less-greater c = sym (compare_before _ _ (λ each. omega (arith, c.if-less-greater.true)))

pub returns-then-less-greater-2 : goal.returns-then-less-greater-2
returns-then-less-greater-2 c = sym (compare_after _ _ (λ each. omega (arith, c.if-less-greater-2.true)))

pub returns : goal.returns
returns c = sym (compare_same _ _ (λ each. omega (arith, c.if-less-greater.false, c.if-less-greater-2.false)))
