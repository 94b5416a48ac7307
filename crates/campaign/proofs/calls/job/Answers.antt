-- `campaign::calls::job` meets its contract.
use mathlib.Core.Path.{◌≡◌, sym}
use Rattle.site.specs.Answer.{refusal_of}
use Rattle.site.specs.SiteList.{list_of}
use Rattle.entry.specs.Results.{results}
use Rattle.campaign.specs.Grid.{job_of}
use Rattle.campaign.specs.Calls.{job_refusal}
use Rattle.campaign.proofs.JobRefusal.{job_levels, work_asked}
use Rattle.campaign.proofs.JobAnswer.{job_worked}
use Rattle.campaign.proofs.calls.job.Goals as goal

pub work-requires : goal.work-requires
unfolding refusal_of
work-requires c =
    let s = c.args in
    let w = work_asked _ _ _ _ _ _ _ _ _ _ (results s.distance.now s.first.now s.second.now) _ _ (sym c.in_ok-refusal.ensures) in
    record { both_lists = rw (c.spots-p.ensures, c.spots-q.ensures) w.0; job_asked = rw (c.spots-p.ensures, c.spots-q.ensures) w.1.0; ready_for = w.1.1 }

pub returns : goal.returns
unfolding refusal_of
returns c =
    let s = c.args in
    let a = list_of s.a in
    let b = list_of s.b in
    let r = results s.distance.now s.first.now s.second.now in
    let ok : job_refusal s.customer s.g a b r (job_of s.s s.t) ≡ 0 = sym c.in_ok-refusal.ensures in
    let level = job_levels s.customer s.g a b r s.s s.t ok in
    job_worked s.way s.customer s.g a b r (job_of s.s s.t) ok _ _ ((rw (c.spots-p.ensures, c.spots-q.ensures) at c.work.ensures).numbered _ _ level.0 level.1)
