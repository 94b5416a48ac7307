-- `campaign::jobs::swept` meets its contract.
use Rattle.std.proofs.Common.{rules, ◌≡◌, length}
use Rattle.campaign.proofs.SoundPlan.{asked_parts, some_k, strips_in}
use Rattle.campaign.proofs.JobAnswer.{by_number_lem}
use Rattle.campaign.proofs.jobs.swept.Goals as goal

pub strip-p-requires : goal.strip-p-requires
strip-p-requires c = let asked = c.requires.job_asked in ((asked_parts asked).rows, asked.row)

pub strip-q-requires : goal.strip-q-requires
strip-q-requires c = let asked = c.requires.job_asked in ((asked_parts asked).cols, asked.column)

pub run-requires : goal.run-requires
run-requires c =
    let asked = c.requires.job_asked in
    let long : (length c.args.c.first_ends ≡ 32) × (length c.args.c.second_ends ≡ 32) = (search rules, search rules) in
    let w =
    strips_in c.args.c c.strip-p.ensures c.strip-q.ensures c.requires.both_lists.0 c.requires.both_lists.1 asked long.0 long.1 in
    record {
      a = w.0.strip;
      b = w.1.strip;
      some = (some_k asked).0;
      few = (some_k asked).1;
      ready = c.requires.ready;
    }

pub returns : goal.returns
returns c = record {
  numbered = λ an bn la lb.
      by_number_lem c.args.c c.strip-p.ensures c.strip-q.ensures _ _ _ _ _ (c.run.ensures.numbered an bn la lb);
}
