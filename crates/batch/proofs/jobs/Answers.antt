-- `batch::jobs` meets its contract.
use mathlib.Core.Path.{◌≡◌, sym}
use Rattle.site.specs.Answer.{refusal_of}
use Rattle.site.specs.SiteList.{list_of}
use Rattle.entry.specs.Results.{results}
use Rattle.batch.specs.Batch.{batch_of, batch_refusal}
use Rattle.campaign.proofs.Sound.{accepted_columns}
use Rattle.batch.proofs.Refusal.{batch_sound, batch_equal, batch_asked, batch_levels}
use Rattle.batch.proofs.Answer.{batch_worked}
use Rattle.batch.proofs.jobs.Goals as goal

pub work-requires : goal.work-requires
unfolding refusal_of
work-requires c =
    let s = c.args in
    let a = list_of s.a in
    let b = list_of s.b in
    let r = results s.distance.now s.first.now s.second.now in
    let l = batch_of s.job_first.now s.job_second.now s.job_way.now in
    let ok : batch_refusal s.customer s.g a b r l ≡ 0 = sym c.in_ok-refusal.ensures in
    let lists = (batch_sound s.customer s.g a b r l ok).lists in
    record {
      both_lists = rw (c.spots-p.ensures, c.spots-q.ensures) (accepted_columns _ _ _ _ lists.0, accepted_columns _ _ _ _ lists.1);
      equal_columns = batch_equal s.customer s.g a b r l ok;
      rows_asked = rw (c.spots-p.ensures, c.spots-q.ensures) (batch_asked s.customer s.g a b r l ok);
    }

pub returns : goal.returns
unfolding refusal_of
returns c =
    let s = c.args in
    let a = list_of s.a in
    let b = list_of s.b in
    let r = results s.distance.now s.first.now s.second.now in
    let l = batch_of s.job_first.now s.job_second.now s.job_way.now in
    let ok : batch_refusal s.customer s.g a b r l ≡ 0 = sym c.in_ok-refusal.ensures in
    let level = batch_levels s.customer s.g a b r l ok in
    batch_worked s.customer s.g a b r l ok _ _ ((rw (c.spots-p.ensures, c.spots-q.ensures) at c.work.ensures).numbered _ _ level.0 level.1)
