-- Terms of contracts that other crates cite: what a join promises.
use Rattle.std.specs.Prelude.{◌≡◌, List, ℕ, length}
use Rattle.site.specs.Site.{Site}
use Rattle.entry.specs.Results.{Results, entries_of, holding}
use Rattle.sweep.specs.Strip.{strip}
use Rattle.join.specs.declared.Join.{Join}
use Rattle.join.specs.declared.Joined.{Joined}
use Rattle.join.specs.Join.{counts_of, Found, join}

-- A join promises: its answer and the result columns are those of `s`; past the entries nothing changes.
pub record JoinedTo (s : Found) (before after : Results) (answer : Joined) : Type 0 where
  pub entries : answer.entries ≡ length s.entries
  pub counts : counts_of answer.counters ≡ s.counts
  pub columns : after ≡ holding s.entries before

-- The same over strips of two lists.
abbrev pub JoinedStrips : Join → ℕ → ℕ → ℕ → ℕ → ℕ → ℕ → Results → Results → Joined → List Site → List Site → Type 0
JoinedStrips way aFrom aTo bFrom bTo k count before after answer a b =
    JoinedTo (join way k (strip aFrom aTo a) (strip bFrom bTo b) (entries_of count before)) before after answer
