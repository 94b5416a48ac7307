-- Refusal 7: the faults of a grid, of a customer's campaign on it and of the columns that hold the campaign's entries.
use Rattle.std.specs.Prelude.{Bool, not, ◌&&◌, List, ℕ, min, leb, ltb, eqb, length, take}
use Rattle.order.specs.Order.{ascending}
use Rattle.order.specs.Lists.{all}
use Rattle.site.specs.Answer.{refuse_if, or_else}
use Rattle.site.specs.Site.{Site, squared_distance}
use Rattle.site.specs.SiteList.{Columns, sites, site_at}
use Rattle.site.specs.Refusal.{lists_refusal}
use Rattle.entry.specs.declared.Entry.{Entry}
use Rattle.entry.specs.Entry.{rank_before, lawful_k, apart}
use Rattle.entry.specs.Results.{Results, entries_of, room_for}
use Rattle.customers.specs.declared.Campaign.{Campaign}
use Rattle.customers.specs.declared.Grid.{Grid}
use Rattle.customers.specs.Customers.{is_customer, campaign_as}
use Rattle.campaign.specs.Grid.{lawful_ends, strip_holding, job_of, settled, settled_jobs, lawful_marks, jobs_pairs}

-- The ends in use of each list.
unfoldable pub first_ends : Campaign → List ℕ
first_ends c = take c.first_strips c.first_ends

unfoldable pub second_ends : Campaign → List ℕ
second_ends c = take c.second_strips c.second_ends

-- "with a place outside its list, a wrong squared distance or an unsettled job", or "at 0": an entry with no such fault.
unfoldable pub sound_entry : List ℕ → List ℕ → List ℕ → List Site → List Site → Entry → Bool
sound_entry marks ends ends' a b e =
    ltb e.first (length a)
    && (ltb e.second (length b)
    && (apart e
    && (eqb e.distance (squared_distance (site_at a e.first) (site_at b e.second))
    && settled marks (job_of (strip_holding ends e.first) (strip_holding ends' e.second)))))

-- A campaign and result columns with none of the faults of refusal 7, in the order of 01's words, but for the grid's marks.
unfoldable pub sound : Campaign → List Site → List Site → Results → Bool
sound c a b r =
    let l = entries_of c.entries r in
    let total = length (jobs_pairs (first_ends c) (second_ends c) a b (settled_jobs c)) in
    lawful_k c.k
    && ((leb c.first_strips 32 && lawful_ends (length a) (first_ends c))
    && ((leb c.second_strips 32 && lawful_ends (length b) (second_ends c))
    && (room_for c.k r
    && (ascending rank_before l
    && (all (sound_entry c.marks (first_ends c) (second_ends c) a b) l
    && eqb c.entries (min c.k total))))))

-- 02 e: "all marks are within 0 to 3 and inside the jobs".
unfoldable pub lawful_grid : Grid → Bool
lawful_grid g = lawful_marks g.first_strips g.second_strips 0 g.marks

-- "15 for a customer number other than 1 or 2, before all else."
unfoldable pub customer_refusal : ℕ → ℕ
customer_refusal customer = refuse_if (not (is_customer customer)) 15

-- Who calls, and with which lists: 15, then both lists' 1 to 3.
unfoldable pub caller_refusal : ℕ → Columns → Columns → ℕ
caller_refusal customer a b = or_else (customer_refusal customer) (lists_refusal a b)

-- "The keeper of a campaign": 7.
unfoldable pub keeper_refusal : ℕ → Grid → List Site → List Site → Results → ℕ
keeper_refusal customer g a b r = refuse_if (not (lawful_grid g && sound (campaign_as customer g) a b r)) 7

-- "every other campaign call, status included, is lent both lists and the columns and tests for 7 as well."
unfoldable pub campaign_refusal : ℕ → Grid → Columns → Columns → Results → ℕ
campaign_refusal customer g a b r = or_else (caller_refusal customer a b) (keeper_refusal customer g (sites a) (sites b) r)
