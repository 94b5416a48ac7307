-- `pairs::write_partners` meets its contract.
use Rattle.std.proofs.Common.{◌-◌, ◌≤◌, pos, sym, arith}
use Rattle.column.proofs.Filled.{filled_none, filled_more, filled_all}
use Rattle.pairs.specs.Internal.{partners_across}
use Rattle.pairs.proofs.NearPairs.{ready_starts, ready_more}
use Rattle.pairs.proofs.PartnersAcross.{run_partners}
use Rattle.pairs.proofs.partners.write_partners.Goals as goal

pub loop-i-init : goal.loop-i-init
loop-i-init c = (ready_starts, filled_none)

pub loop-i-preserved : goal.loop-i-preserved
loop-i-preserved c =
    let p = c.requires in
    let h = c.loop-i-test.true in
    let r = c.next_run-run.ensures in
    let run = c.next_run-run.result in
    let few : run.right - run.left ≤ 65_535 = omega (arith, r.behind.right, p.1.few) in (
      ready_more p.0.rising h r,
      filled_more (pos 0) h p.2 (sym (run_partners p.0 p.1 h r)) few c.loop-i.invariant.1,
    )

pub returns : goal.returns
unfolding partners_across
returns c =
    let w = filled_all c.loop-i-test.false c.loop-i.invariant.1 in
    record { column = w.0; total = w.1 }
