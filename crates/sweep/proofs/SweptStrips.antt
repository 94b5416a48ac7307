-- What a sweep leaves, from its tally and the result columns.
use mathlib.Core.Path.{sym, ◌∙◌}
use mathlib.Core.List.{List}
use Prim.Native.Nat.{ℕ, ◌-◌, ◌≤◌, ◌^◌}
use native.Mathlib.Omega.{arith}
use lib.IntN.{ℤ}
use Rattle.site.specs.Terms.{Numbered}
use Rattle.entry.specs.Results.{Results, entries_of}
use Rattle.entry.specs.Terms.{FinishAsked}
use Rattle.entry.proofs.Updated.{updated_asks, updated_finished}
use Rattle.sweep.specs.declared.Swept.{Swept}
use Rattle.sweep.specs.declared.Tally.{Tally}
use Rattle.sweep.specs.declared.Way.{Way}
use Rattle.sweep.specs.Scan.{State}
use Rattle.sweep.specs.Sweep.{sweep}
use Rattle.sweep.specs.Terms.{rightward, SweepAsked, SweptTo, SweptStrips}
use Rattle.sweep.specs.Internal.{state_of, Tallied}
use Rattle.sweep.proofs.Counted.{Counted, sweep_looks_fit, sweep_distances_bound}
use Rattle.sweep.proofs.SiteRuns.{length_rightward}
use Rattle.sweep.proofs.Unnumbered.{sweep_strips}

module _ (way : Way) (ax ay ah bx by bh : List ℤ) (aFrom aTo bFrom bTo k old : ℕ) (before : Results) (asked : SweepAsked ax ay ah bx by bh aFrom aTo bFrom bTo k old before) where
  -- The state in the end.
  abbrev pub swept : State
  swept = sweep way k (rightward ax ay ah aFrom (aTo - aFrom)) (rightward bx by bh bFrom (bTo - bFrom)) (entries_of old before)

  -- Counters on the way there have room.
  pub swept_fits : {n : ℕ} (t : Tally) (r : Results) → Counted n (state_of t r) swept → (t.looks ≤ 2 ^ 62) × (t.distances ≤ 2 ^ 62)
  unfolding state_of
  swept_fits t r c =
      let p = rightward ax ay ah aFrom (aTo - aFrom) in
      let q = rightward bx by bh bFrom (bTo - bFrom) in
      let m = length_rightward ax ay ah aFrom (aTo - aFrom) in
      let n = length_rightward bx by bh bFrom (bTo - bFrom) in
      let f = sweep_looks_fit way k p q (entries_of old before) (omega (arith, asked.a.inside, asked.a.lawful.few)) (omega (arith, asked.b.inside, asked.b.lawful.few)) in
      let g = sweep_distances_bound way k p q (entries_of old before) in
      omega (arith, c.looks_from, c.distances_from)

  -- What the answer asks.
  pub swept_asks : {r : Results} {t : Tally} → Tallied k before old swept r t → (t.queue.count ≤ 4_096) × FinishAsked t.queue r
  swept_asks h = updated_asks h.updated asked.few

  -- The answer from the state that the tally and the columns hold.
  pub swept_strips : {r after : Results} {t : Tally} {answer : Swept} → Tallied k before old swept r t → SweptTo (state_of t r) r after answer
      → Numbered ax ay ah bx by bh (SweptStrips way aFrom aTo bFrom bTo k old before after answer)
  unfolding state_of
  swept_strips {r} {after} {t} {answer} h a = record {
    numbered = λ an bn la lb.
        let same = sweep_strips way k ax ay an ah bx by bn bh aFrom aTo bFrom bTo (entries_of old before) la lb asked.a.inside asked.b.inside in
        let whole : SweptTo (state_of t r) before after answer = record {
          entries = a.entries;
          looks = a.looks;
          distances = a.distances;
          columns = updated_finished h.updated a.columns;
        } in
        rw (h.state ∙ sym same) at whole;
  }
