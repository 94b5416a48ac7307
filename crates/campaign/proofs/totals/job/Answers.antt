-- `campaign::totals::job` meets its contract.
use mathlib.Core.Path.{ap, ◌∙◌}
use mathlib.Core.List.{List}
use Rattle.std.proofs.Common.{rules, ◌≡◌, length}
use Rattle.entry.specs.declared.Entry.{Entry}
use Rattle.campaign.proofs.SoundPlan.{asked_parts, strips_in, pairs_are}
use Rattle.campaign.proofs.totals.job.Goals as goal

pub strip-p-requires : goal.strip-p-requires
strip-p-requires c = let asked = c.requires.job_asked in ((asked_parts asked).rows, asked.row)

pub strip-q-requires : goal.strip-q-requires
strip-q-requires c = let asked = c.requires.job_asked in ((asked_parts asked).cols, asked.column)

pub count_pairs-requires : goal.count_pairs-requires
count_pairs-requires c =
    let long : (length c.args.c.first_ends ≡ 32) × (length c.args.c.second_ends ≡ 32) = (search rules, search rules) in
    let w =
    strips_in c.args.c c.strip-p.ensures c.strip-q.ensures c.requires.both_lists.0 c.requires.both_lists.1
    c.requires.job_asked long.0 long.1 in
    (w.0.strip, w.1.strip)

pub returns : goal.returns
returns c = record {
  numbered = λ an bn la lb.
      c.count_pairs.ensures.numbered an bn la lb
      ∙ ap (λ (l : List Entry). length l) (pairs_are c.args.c c.strip-p.ensures c.strip-q.ensures _ _);
}
