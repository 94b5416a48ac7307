-- Terms that only this crate's functions cite: what the functions on a campaign ask, and what they tell of its parts.
use Rattle.std.specs.Prelude.{◌≡◌, true, Bool, ◌&&◌, List, ◌∷◌, ℕ, ◌≤◌, get_or}
use Rattle.order.specs.Order.{ascending}
use Rattle.order.specs.Lists.{all}
use Rattle.site.specs.Site.{Site}
use Rattle.entry.specs.Entry.{rank_before}
use Rattle.entry.specs.Results.{Results, entries_of, room_for}
use Rattle.customers.specs.declared.Campaign.{Campaign}
use Rattle.customers.specs.declared.Grid.{Grid}
use Rattle.campaign.specs.declared.Strip.{Strip}
use Rattle.campaign.specs.declared.Outcome.{Outcome}
use Rattle.campaign.specs.declared.JobDone.{JobDone}
use Rattle.campaign.specs.Soundness.{first_ends, second_ends, sound_entry}

-- Where strip `s` starts, and where it ends.
unfoldable pub strip_from : List ℕ → ℕ → ℕ
strip_from ends s = get_or (0 ∷ ends) s 0

unfoldable pub strip_to : List ℕ → ℕ → ℕ
strip_to ends s = get_or ends s 0

-- A strip by its places.
pub record StripOf (ends : List ℕ) (s : ℕ) (r : Strip) : Type 0 where
  pub from : r.from ≡ strip_from ends s
  pub to : r.to ≡ strip_to ends s

-- The columns have room for the entries.
pub record Room (k count : ℕ) (r : Results) : Type 0 where
  pub room : room_for k r ≡ true
  pub most : count ≤ k

-- The entries of a campaign stand in order and have no fault.
unfoldable pub sound_entries : Campaign → List Site → List Site → Results → Bool
sound_entries c a b r =
    let l = entries_of c.entries r in
    ascending rank_before l && all (sound_entry c.marks (first_ends c) (second_ends c) a b) l

-- The grid and how a job ended.
abbrev pub job_done : Grid → Outcome → JobDone
job_done g outcome = record { grid = g; outcome = outcome }
