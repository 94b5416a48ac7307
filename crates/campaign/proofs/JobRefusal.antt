-- What a job that is not refused is.
use mathlib.Core.Path.{◌≡◌, refl}
use mathlib.Core.Bool.{false, not, ◌&&◌}
use mathlib.Core.List.{List}
use Prim.Native.Nat.{ℕ}
use lib.Dec.{ltb}
use lib.IntN.{ℤ}
use lib.ListN.{length}
use Rattle.site.specs.Answer.{refuse_if}
use Rattle.site.specs.SiteList.{Columns, raised}
use Rattle.site.specs.Terms.{Level}
use Rattle.site.proofs.Answer.{or_else_first, or_else_second, no_fault, fault_none}
use Rattle.entry.specs.Results.{Results}
use Rattle.customers.specs.declared.Grid.{Grid}
use Rattle.customers.specs.Customers.{campaign_as}
use Rattle.campaign.specs.Grid.{Job, job_of, settled}
use Rattle.campaign.specs.Soundness.{campaign_refusal}
use Rattle.campaign.specs.Calls.{job_fault, job_refusal}
use Rattle.campaign.specs.Terms.{LawfulColumns, JobAsked, ReadyFor}
use Rattle.site.proofs.Accepted.{accepted_level}
use Rattle.campaign.proofs.Grid.{InGrid, in_grid}
use Rattle.campaign.proofs.Sound.{accepted_columns}
use Rattle.campaign.proofs.SoundCampaign.{SoundCampaign, sound_campaign, campaign_ready}

-- A job with no fault is one of the grid that is not settled.
pub no_job_fault : (rows cols : ℕ) (marks : List ℕ) (j : Job) → job_fault rows cols marks j ≡ 0
    → InGrid rows cols j × (settled marks j ≡ false)
unfolding job_fault
no_job_fault rows cols marks j h =
    let inside = ltb j.first rows && ltb j.second cols in
    let outside = refuse_if (not inside) 8 in
    let again = refuse_if (settled marks j) 9 in (
      in_grid rows cols j (fault_none inside 7 (or_else_first outside again h)),
      no_fault (settled marks j) 8 (or_else_second outside again h),
    )

module _ (customer : ℕ) (g : Grid) (a b : Columns) (r : Results) (s t : ℕ) where
  -- What an accepted job is.
  module _ (ok : job_refusal customer g a b r (job_of s t) ≡ 0) where
    pub job_campaign : campaign_refusal customer g a b r ≡ 0
    unfolding job_refusal
    job_campaign = or_else_first (campaign_refusal customer g a b r) _ ok

    pub job_sound : SoundCampaign (campaign_as customer g) a b r
    job_sound = sound_campaign customer g a b r refl job_campaign

    -- A job of the grid that is not settled.
    pub job_open : InGrid g.first_strips g.second_strips (job_of s t)
        × (settled (campaign_as customer g).marks (job_of s t) ≡ false)
    unfolding job_refusal
    job_open = no_job_fault _ _ _ _ (or_else_second (campaign_refusal customer g a b r) _ ok)

    pub job_asked : JobAsked (campaign_as customer g) (length a.x) (length b.x) (job_of s t)
    unfolding campaign_as
    job_asked = record { plan = job_sound.plan; row = job_open.0.row; column = job_open.0.column }

    pub job_levels : Level a × Level b
    job_levels = (accepted_level a job_sound.lists.0, accepted_level b job_sound.lists.1)

-- What the work on an accepted job of lists with heights asks.
pub work_asked : (customer : ℕ) (g : Grid) (ax ay : List ℤ) (an : List ℕ) (ah bx by : List ℤ) (bn : List ℕ) (bh : List ℤ)
    (r : Results) (s t : ℕ) → job_refusal customer g (raised ax ay an ah) (raised bx by bn bh) r (job_of s t) ≡ 0
    → (let c = campaign_as customer g in
    (LawfulColumns ax ay ah × LawfulColumns bx by bh) × (JobAsked c (length ax) (length bx) (job_of s t) × ReadyFor c r))
work_asked customer g ax ay an ah bx by bn bh r s t ok =
    let a = raised ax ay an ah in
    let b = raised bx by bn bh in
    let sound = job_sound customer g a b r s t ok in (
      (accepted_columns ax ay an ah sound.lists.0, accepted_columns bx by bn bh sound.lists.1),
      (job_asked customer g a b r s t ok, campaign_ready (campaign_as customer g) a b r sound),
    )
