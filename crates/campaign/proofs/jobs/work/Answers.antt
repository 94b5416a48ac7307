-- `campaign::jobs::work` meets its contract.
use mathlib.Core.Path.{refl, sym, ◌∙◌}
use Rattle.site.specs.SiteList.{raised, sites}
use Rattle.entry.specs.Results.{results}
use Rattle.entry.proofs.Results.{room_lengths}
use Rattle.campaign.specs.Grid.{job_of}
use Rattle.campaign.proofs.SoundPlan.{job_few}
use Rattle.campaign.proofs.JobAnswer.{asked_as, ready_as, x_sorted, job_skipped, job_swept}
use Rattle.campaign.proofs.jobs.work.Goals as goal

pub skips-requires : goal.skips-requires
skips-requires c =
    let w = ready_as c.campaign_as-c.ensures c.requires.ready_for in
    record {
      both_lists = c.requires.both_lists;
      job_asked = asked_as c.campaign_as-c.ensures c.requires.job_asked;
      entries_le_k = (w.most, (room_lengths _ _ w.room).0);
    }

pub skipped-requires : goal.skipped-requires
skipped-requires c = job_few c.requires.job_asked

pub returns-then-skips : goal.returns-then-skips
returns-then-skips c =
    let s = c.args in
    let is = c.campaign_as-c.ensures in
    let ready = c.requires.ready_for in
    record {
      numbered = λ an bn la lb.
          rw c.skipped.ensures
          (job_skipped s.way _ _ (sites (raised s.a.x.now s.a.y.now an s.a.height.now)) (sites (raised s.b.x.now s.b.y.now bn s.b.height.now))
          (results s.distance.now s.first.now s.second.now) (job_of s.s s.t) ready is
          (sym (c.skips.ensures.numbered an bn la lb _ _ (ready_as is ready).room) ∙ c.if-skips.true) refl);
    }

pub swept-joined-requires : goal.swept-joined-requires
swept-joined-requires c =
    record {
      both_lists = c.requires.both_lists;
      job_asked = asked_as c.campaign_as-c.ensures c.requires.job_asked;
      ready = ready_as c.campaign_as-c.ensures c.requires.ready_for;
    }

pub done-requires : goal.done-requires
done-requires c = job_few c.requires.job_asked

pub returns : goal.returns
returns c =
    let s = c.args in
    let is = c.campaign_as-c.ensures in
    let ready = c.requires.ready_for in
    let lawful = c.requires.both_lists in
    record {
      numbered = λ an bn la lb.
          rw c.done.ensures
          (job_swept s.way _ _ (sites (raised s.a.x.now s.a.y.now an s.a.height.now)) (sites (raised s.b.x.now s.b.y.now bn s.b.height.now))
          (results s.distance.now s.first.now s.second.now) (job_of s.s s.t) ready (x_sorted an lawful.0 la) (x_sorted bn lawful.1 lb) is
          (sym (c.skips.ensures.numbered an bn la lb _ _ (ready_as is ready).room) ∙ c.if-skips.false)
          (c.swept-joined.ensures.numbered an bn la lb) refl);
    }
