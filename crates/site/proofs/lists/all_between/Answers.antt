-- `site::all_between` meets its contract.
use mathlib.Core.Path.{◌≡◌, ◌∙◌, sym, ap}
use mathlib.Core.Bool.{cond}
use Prim.Native.Nat.{ℕ}
use native.Mathlib.Omega.{arith}
use borrow.Author.Rules.{rules, sfits_of}
use lib.Dec.{eqb}
use lib.IntN.{ℤ, pos}
use lib.ListN.{get_or}
use mir.Syntax.{w32}
use mir.Val.{SFits, to_z, of_z}
use mir.Facts.{to_z-of_z}
use Rattle.order.specs.Lists.{all}
use Rattle.site.specs.Site.{between}
use Rattle.site.proofs.Signed.{at₁}
use Rattle.site.proofs.Counting.{failing, failing_step, failing_end, all_failing, no_le}
use Rattle.site.proofs.lists.all_between.Goals as goal

pub loop-c-preserved : goal.loop-c-preserved
loop-c-preserved c =
    let column = c.args.column.now in
    let i = c.loop-c.c-index in
    let test = between (to_z w32 (of_z w32 c.args.low)) (to_z w32 (of_z w32 c.args.high)) in
    let read : SFits w32 (get_or column i (pos 0)) = sfits_of (search rules) in
    let told : c.outside-faults.result ≡ cond (test (get_or column i (pos 0))) 0 1 =
    at₁ (λ (z : ℤ). cond {A = ℕ} (test z) 0 1) (to_z-of_z read) c.outside-faults.ensures in
    let small = no_le (test (get_or column i (pos 0))) told in
    let step = failing_step test column i (pos 0) c.loop-c-test.true in
    (omega (arith, small, c.loop-c.invariant.0), omega (arith, told, step, c.loop-c.invariant.1))

pub returns : goal.returns
returns c =
    let column = c.args.column.now in
    let i = c.loop-c.c-index in
    let test = between (to_z w32 (of_z w32 c.args.low)) (to_z w32 (of_z w32 c.args.high)) in
    let none = failing_end test column i c.loop-c-test.false in
    let every : c.loop-c.faults ≡ failing test column = omega (arith, none, c.loop-c.invariant.1) in
    ap (λ (n : ℕ). eqb n 0) every ∙ sym (all_failing test column)
    ∙ (λ i. all (between (to_z-of_z c.ranges.low i) (to_z-of_z c.ranges.high i)) column)
