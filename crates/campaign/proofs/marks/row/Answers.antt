-- `campaign::marks::row` meets its contract.
use mathlib.Core.Path.{refl, sym, ◌∙◌}
use mathlib.Core.List.{[], ◌∷◌}
use native.Mathlib.Omega.{arith}
use Rattle.campaign.specs.Grid.{job_of}
use Rattle.campaign.proofs.SettledRows.{counted_none, counted_many, counted_few, row_settled, row_open, row_few, row_done}
use Rattle.campaign.proofs.marks.row.Goals as goal
use Rattle.campaign.proofs.marks.row.Goals.{then-is_settled, else-is_settled}

pub loop-b-init : goal.loop-b-init
loop-b-init c = counted_none _

pub overflow_add-count : goal.overflow_add-count
overflow_add-count c = omega (arith, counted_few c.loop-b.invariant, row_few c.args.marks.now c.args.a c.args.cols, c.requires.1)

pub loop-b-preserved : goal.loop-b-preserved
loop-b-preserved c =
    let l = c.loop-b in
    let mark = sym c.is_settled.ensures in
    elim c.if-is_settled.branch [
      | then-is_settled w ↦
          rw w.count-is
          (counted_many l.invariant (job_of _ l.b ∷ []) _ (row_settled _ _ _ _ c.loop-b-test.true (mark ∙ w.if-is_settled.true)) refl)
      | else-is_settled w ↦ rw (w.count-is, ← row_open _ _ _ _ c.loop-b-test.true (mark ∙ w.if-is_settled.false)) l.invariant
    ]

pub returns : goal.returns
returns c = row_done _ _ _ _ c.loop-b-test.false c.loop-b.invariant
