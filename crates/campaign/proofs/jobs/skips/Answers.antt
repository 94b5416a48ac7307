-- `campaign::jobs::skips` meets its contract.
use Rattle.std.proofs.Common.{rules, arith, ◌≡◌, length}
use Rattle.campaign.proofs.SoundPlan.{asked_parts, some_k, strips_in}
use Rattle.campaign.proofs.JobAnswer.{not_full, gap_decides}
use Rattle.campaign.proofs.jobs.skips.Goals as goal

pub returns-then-c : goal.returns-then-c
returns-then-c c = record {
  numbered = λ an bn la lb first second room. not_full _ _ _ _ _ _ room c.requires.entries_le_k.0 c.if-c.true;
}

pub strip-one-requires : goal.strip-one-requires
strip-one-requires c = let asked = c.requires.job_asked in ((asked_parts asked).rows, asked.row)

pub strip-other-requires : goal.strip-other-requires
strip-other-requires c = let asked = c.requires.job_asked in ((asked_parts asked).cols, asked.column)

pub overflow_sub-last : goal.overflow_sub-last
overflow_sub-last c = omega (arith, c.if-c.false, some_k c.requires.job_asked)

pub bounds-distance-last : goal.bounds-distance-last
bounds-distance-last c = omega (arith, c.if-c.false, some_k c.requires.job_asked, c.requires.entries_le_k)

pub gap_beyond-requires : goal.gap_beyond-requires
gap_beyond-requires c =
    let long : (length c.args.c.first_ends ≡ 32) × (length c.args.c.second_ends ≡ 32) = (search rules, search rules) in
    strips_in c.args.c c.strip-one.ensures c.strip-other.ensures c.requires.both_lists.0 c.requires.both_lists.1
    c.requires.job_asked long.0 long.1

pub returns : goal.returns
returns c = record {
  numbered = λ an bn la lb first second room.
      gap_decides c.args.c c.strip-one.ensures c.strip-other.ensures _ _ _ room (some_k c.requires.job_asked).0 c.if-c.false
      (c.gap_beyond.ensures.numbered an bn la lb);
}
