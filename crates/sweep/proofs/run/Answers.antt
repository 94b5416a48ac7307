-- Each way by its own function, and the answer from what it leaves.
use Rattle.sweep.specs.declared.Way.TheVariants.{Classic, ReverseRun}
use Rattle.sweep.proofs.SweptStrips.{swept_asks, swept_strips}
use Rattle.sweep.proofs.run.Goals as goal
use Rattle.sweep.proofs.run.Goals.{in-Classic, in-ReverseRun}

pub answer-requires : goal.answer-requires
answer-requires c =
    elim c.match-way.branch [
      | in-Classic w ↦
          rw (w.tally-is, w.distance-is, w.first-is, w.second-is)
          (swept_asks Classic _ _ _ _ _ _ _ _ _ _ _ _ _ c.requires w.classic-tally.ensures)
      | in-ReverseRun w ↦
          rw (w.tally-is, w.distance-is, w.first-is, w.second-is)
          (swept_asks ReverseRun _ _ _ _ _ _ _ _ _ _ _ _ _ c.requires w.reverse_run-tally.ensures)
    ]

pub returns : goal.returns
returns c =
    elim c.match-way.branch [
      | in-Classic w ↦
          rw w.in-Classic.is
          (swept_strips Classic _ _ _ _ _ _ _ _ _ _ _ _ _ c.requires w.classic-tally.ensures
          (rw (w.tally-is, w.distance-is, w.first-is, w.second-is) at c.answer.ensures))
      | in-ReverseRun w ↦
          rw w.in-ReverseRun.is
          (swept_strips ReverseRun _ _ _ _ _ _ _ _ _ _ _ _ _ c.requires w.reverse_run-tally.ensures
          (rw (w.tally-is, w.distance-is, w.first-is, w.second-is) at c.answer.ensures))
    ]
