-- Terms of contracts that other crates cite: a range of places with a site or more, and what a join by halves promises.
use Rattle.std.specs.Prelude.{List, ◌≡◌, ℕ, ◌<◌, ℤ, length}
use Rattle.site.specs.Site.{Site}
use Rattle.entry.specs.Results.{Results, entries_of, holding}
use Rattle.sweep.specs.Strip.{strip}
use Rattle.sweep.specs.Terms.{StripIn}
use Rattle.halves.specs.declared.Halved.{Halved}
use Rattle.halves.specs.Halves.{Visited, halves}

-- A strip with a site or more, of a lawful list by its coordinate columns.
pub record SomeStrip (xs ys hs : List ℤ) (from to : ℕ) : Type 0 where
  pub strip : StripIn xs ys hs from to
  pub some : from < to

-- A join promises: its answer and the result columns are those of `s`; past the entries nothing changes.
pub record HalvedTo (s : Visited) (before after : Results) (answer : Halved) : Type 0 where
  pub entries : answer.entries ≡ length s.entries
  pub range_pairs : answer.range_pairs.0 ≡ s.range_pairs
  pub columns : after ≡ holding s.entries before

-- The same over strips of two lists.
abbrev pub HalvedStrips : ℕ → ℕ → ℕ → ℕ → ℕ → ℕ → Results → Results → Halved → List Site → List Site → Type 0
HalvedStrips aFrom aTo bFrom bTo k count before after answer a b =
    HalvedTo (halves k (strip aFrom aTo a) (strip bFrom bTo b) (entries_of count before)) before after answer
