-- The pairs counted, and those of the settled jobs that are left in the row, are all of the row's.
use Rattle.campaign.specs.Soundness.{first_ends, second_ends}
use Rattle.campaign.proofs.SettledRows.{row_from}
use Rattle.campaign.proofs.PairTotal.{Left}
use Rattle.campaign.proofs.totals.row.Given as goal

abbrev pub invariant-loop-t : goal.invariant-loop-t
invariant-loop-t l =
    let row = row_from l.c.marks l.s l.c.second_strips in
    Left (first_ends l.c) (second_ends l.c) l.a.x.now l.a.y.now l.a.height.now l.b.x.now l.b.y.now l.b.height.now (row 0) (row l.t) l.pairs
