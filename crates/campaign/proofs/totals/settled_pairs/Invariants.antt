-- The pairs counted, and those of the rows left, are all settled jobs'.
use Rattle.campaign.specs.Soundness.{first_ends, second_ends}
use Rattle.campaign.proofs.SettledRows.{rows_from}
use Rattle.campaign.proofs.PairTotal.{Left}
use Rattle.campaign.proofs.totals.settled_pairs.Given as goal

abbrev pub invariant-loop-s : goal.invariant-loop-s
invariant-loop-s l =
    let rows = rows_from l.c.marks l.c.first_strips l.c.second_strips in
    Left (first_ends l.c) (second_ends l.c) l.a.x.now l.a.y.now l.a.height.now l.b.x.now l.b.y.now l.b.height.now (rows 0) (rows l.s) l.pairs
