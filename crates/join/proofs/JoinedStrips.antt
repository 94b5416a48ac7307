-- What a join leaves, from what its way left.
use mathlib.Core.Path.{ap, ap₂}
use mathlib.Core.List.{List}
use Prim.Native.Nat.{ℕ}
use lib.IntN.{ℤ}
use Rattle.site.specs.Terms.{Numbered}
use Rattle.entry.specs.Results.{Results}
use Rattle.sweep.specs.declared.Swept.{Swept}
use Rattle.sweep.specs.declared.Way.{Way}
use Rattle.sweep.specs.Terms.{SweptStrips}
use Rattle.halves.specs.declared.Halved.{Halved}
use Rattle.halves.specs.Terms.{HalvedStrips}
use Rattle.join.specs.declared.Join.TheVariants.{Sweep, Halves}
use Rattle.join.specs.Join.{by_sweep, by_halves, join}
use Rattle.join.specs.Terms.{JoinedStrips}

module _ (ax ay ah bx by bh : List ℤ) (aFrom aTo bFrom bTo k old : ℕ) (before : Results) {after : Results} where
  pub joined_by_sweep : (way : Way) {swept : Swept} → Numbered ax ay ah bx by bh (SweptStrips way aFrom aTo bFrom bTo k old before after swept)
      → Numbered ax ay ah bx by bh (JoinedStrips (Sweep way) aFrom aTo bFrom bTo k old before after
      (record {
        entries = swept.entries;
        counters = record { looks = swept.looks; distances = swept.distances; range_pairs = record { 0 = 0 } };
      }))
  unfolding join
  joined_by_sweep way w = record {
    numbered = λ an bn la lb.
        let s = w.numbered an bn la lb in
        record { entries = s.entries; counts = ap₂ by_sweep s.looks s.distances; columns = s.columns };
  }

  pub joined_by_halves : {halved : Halved} → Numbered ax ay ah bx by bh (HalvedStrips aFrom aTo bFrom bTo k old before after halved)
      → Numbered ax ay ah bx by bh (JoinedStrips Halves aFrom aTo bFrom bTo k old before after
      (record {
        entries = halved.entries;
        counters = record { looks = record { 0 = 0 }; distances = record { 0 = 0 }; range_pairs = halved.range_pairs };
      }))
  unfolding join
  joined_by_halves w = record {
    numbered = λ an bn la lb.
        let s = w.numbered an bn la lb in
        record { entries = s.entries; counts = ap by_halves s.range_pairs; columns = s.columns };
  }
