-- Terms of contracts that other crates cite: what the work on a job asks.
use Rattle.std.specs.Prelude.{◌≡◌, true, Bool, ◌&&◌, List, ℕ, ◌<◌, leb, length, take, ℤ}
use Rattle.site.specs.declared.Spots.{Spots}
use Rattle.site.specs.Terms.{Coordinates, Heights}
use Rattle.entry.specs.Entry.{lawful_k}
use Rattle.entry.specs.Results.{Results}
use Rattle.entry.specs.Terms.{Ready}
use Rattle.customers.specs.declared.Campaign.{Campaign}
use Rattle.campaign.specs.Grid.{lawful_ends, Job}

-- The coordinate columns of a lawful list, and of two lists that were lent.
pub record LawfulColumns (xs ys hs : List ℤ) : Type 0 where
  pub plane : Coordinates xs ys
  pub heights : Heights (length xs) hs

abbrev pub BothLists : Spots → Spots → Type 0
BothLists a b =
    LawfulColumns a.x.now a.y.now a.height.now × LawfulColumns b.x.now b.y.now b.height.now

-- At most 32 slots are in use, and the ends in them are lawful.
unfoldable pub lawful_slots : ℕ → ℕ → List ℕ → Bool
lawful_slots n used slots = leb used 32 && lawful_ends n (take used slots)

-- K and the ends of a campaign have no fault.
unfoldable pub sound_plan : Campaign → ℕ → ℕ → Bool
sound_plan c n m =
    lawful_k c.k
    && (lawful_slots n c.first_strips c.first_ends && lawful_slots m c.second_strips c.second_ends)

-- A job of a campaign whose plan has no fault for lists of `n` and `m` sites.
pub record JobAsked (c : Campaign) (n m : ℕ) (j : Job) : Type 0 where
  pub plan : sound_plan c n m ≡ true
  pub row : j.first < c.first_strips
  pub column : j.second < c.second_strips

-- The columns are ready for a campaign's jobs.
abbrev pub ReadyFor : Campaign → Results → Type 0
ReadyFor c r = Ready c.k c.entries r
