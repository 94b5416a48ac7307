-- Terms that only this crate's functions cite: what the work on several jobs asks, and what one adds to the sums.
use Rattle.std.specs.Prelude.{◌≡◌, true, List, ℕ, ◌+◌, ◌^◌, ◌<◌, length}
use Rattle.entry.specs.Results.{Results}
use Rattle.join.specs.Join.{counts_of}
use Rattle.customers.specs.declared.Campaign.{Campaign}
use Rattle.campaign.specs.declared.Outcome.{Outcome}
use Rattle.campaign.specs.declared.Outcome.TheVariants as outcome
use Rattle.campaign.specs.Calls.{counts_by}
use Rattle.campaign.specs.Terms.{sound_plan, ReadyFor}
use Rattle.batch.specs.declared.Sums.{Sums}
use Rattle.batch.specs.Batch.{Row, rows_refusal, add_counts}

-- The columns of several jobs are of one length.
abbrev pub EqualColumns : List ℕ → List ℕ → List ℕ → Type 0
EqualColumns first second way = (length first ≡ length way) × (length second ≡ length way)

-- Several jobs that are not refused, of a campaign whose plan has no fault for lists of `n` and `m` sites.
pub record RowsAsked (c : Campaign) (n m : ℕ) (r : Results) (l : List Row) : Type 0 where
  pub plan : sound_plan c n m ≡ true
  pub ready : ReadyFor c r
  pub accepted : rows_refusal c.first_strips c.second_strips c.marks l ≡ 0

-- What a job adds to the number skipped.
unfoldable pub skipped_by : Outcome → ℕ
skipped_by (outcome.Swept counters) = 0
skipped_by outcome.Skipped = 1

-- Sums with one job more.
pub record SumsWith (s : Sums) (o : Outcome) (r : Sums) : Type 0 where
  pub skipped : r.skipped ≡ s.skipped + skipped_by o
  pub counts : counts_of r.counters ≡ add_counts (counts_of s.counters) (counts_by o)

-- They have room for it.
pub record SumsFit (s : Sums) (o : Outcome) : Type 0 where
  pub skipped : s.skipped + skipped_by o < 2 ^ 32
  pub looks : s.counters.looks.0 + (counts_by o).looks < 2 ^ 64
  pub distances : s.counters.distances.0 + (counts_by o).distances < 2 ^ 64
  pub range_pairs : s.counters.range_pairs.0 + (counts_by o).range_pairs < 2 ^ 64
