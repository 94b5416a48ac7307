-- The visit of two whole strips: what it asks, and what the answer tells of it.
use mathlib.Core.Path.{◌≡◌, sym, ap, ap₂, ◌∙◌}
use mathlib.Core.Logic.{◌⊎◌, ⊎_elim, inl, inr}
use mathlib.Core.List.{List}
use Prim.Native.Nat.{ℕ, ◌-◌}
use native.Mathlib.Omega.{arith}
use lib.IntN.{ℤ}
use lib.ListN.{length}
use Rattle.site.specs.Terms.{Numbered}
use Rattle.entry.specs.declared.Queue.{Queue}
use Rattle.entry.specs.declared.Entry.{Entry}
use Rattle.entry.specs.Entry.{apart}
use Rattle.entry.specs.Results.{Results, entries_of}
use Rattle.entry.specs.Terms.{queued, started, Updated}
use Rattle.entry.proofs.Updated.{updated_start, updated_twice, updated_finished}
use Rattle.boxes.specs.Box.{box_of, squared_box_gap}
use Rattle.sweep.specs.Strip.{Placed, pair, sites_of}
use Rattle.sweep.specs.Terms.{StripIn, SweepAsked}
use Rattle.halves.specs.declared.Halved.{Halved}
use Rattle.halves.specs.declared.Tally.{Tally}
use Rattle.halves.specs.Gap.{squared_strip_gap}
use Rattle.halves.specs.Halves.{visited, halves_from, halves}
use Rattle.halves.specs.Terms.{SomeStrip, HalvedTo, HalvedStrips}
use Rattle.halves.specs.Internal.{range_sites, visited_of, VisitedTo}
use Rattle.halves.proofs.VisitLaws.{halves_none}
use Rattle.halves.proofs.Counted.{halves_fit}
use Rattle.halves.proofs.Halving.{length_range}
use Rattle.halves.proofs.SquaredStripGap.{halves_strips}
use Rattle.halves.proofs.Visiting.{VisitAsked}

pub some_strip : {xs ys hs : List ℤ} {from to : ℕ} → StripIn xs ys hs from to → (from ≡ to → ⊥) → SomeStrip xs ys hs from to
some_strip h some = record { strip = h; some = omega (arith, h.range) }

-- A tally with no range pair.
abbrev begun : Queue → Tally
begun q = record { range_pairs = 0; queue = q }

module _ {ax ay ah bx by bh : List ℤ} {aFrom aTo bFrom bTo k old : ℕ} {before : Results}
    (asked : SweepAsked ax ay ah bx by bh aFrom aTo bFrom bTo k old before) where
  abbrev A : List Placed
  A = range_sites ax ay ah aFrom aTo

  abbrev B : List Placed
  B = range_sites bx by bh bFrom bTo

  length_a : length A ≡ aTo - aFrom
  length_a = length_range ax ay ah aFrom aTo asked.a.range

  length_b : length B ≡ bTo - bFrom
  length_b = length_range bx by bh bFrom bTo asked.b.range

  module _ {q : Queue} (is : q ≡ started before.distance old k) where
    start : Updated k before old before q × (queued q before ≡ entries_of old before)
    start = updated_start asked.ready asked.some is

    begun_is : visited_of (begun q) before ≡ visited (entries_of old before) 0
    unfolding visited_of
    begun_is = ap (λ (l : List Entry). visited l 0) start.1

    -- A strip is empty.
    pub join_none : (aFrom ≡ aTo) ⊎ (bFrom ≡ bTo) → VisitedTo k before old (halves k A B (entries_of old before)) before (begun q)
    unfolding halves halves_from
    join_none h = record {
      updated = start.0;
      state =
          begun_is
          ∙ sym (halves_none squared_strip_gap pair apart k A B (visited (entries_of old before) 0)
          (⊎_elim (λ e. inl (omega (arith, length_a))) (λ e. inr (omega (arith, length_b))) h));
    }

    -- There are two ranges to visit.
    pub join_asks : {t : Tally} → t ≡ begun q → (aFrom ≡ aTo → ⊥) → (bFrom ≡ bTo → ⊥) → {own other : List ℤ} {between : ℕ} → own ≡ box_of (sites_of A)
        → other ≡ box_of (sites_of B) → between ≡ squared_box_gap own other
        → VisitAsked ax ay ah bx by bh (record { from = aFrom; to = aTo; edges = own })
        (record { from = bFrom; to = bTo; edges = other }) between k t before
    unfolding squared_strip_gap halves_from
    join_asks same someA someB e e' gap =
        let a = some_strip asked.a someA in
        let b = some_strip asked.b someB in
        let n = length_a in
        let m = length_b in
        rw same
        (record {
          ranges = record {
            first = record { places = a; box = e };
            second = record { places = b; box = e' };
            gap = gap ∙ ap₂ squared_box_gap e e';
            queue = start.0.queue;
          };
          fits =
              rw begun_is
              (halves_fit squared_strip_gap pair apart k A B (entries_of old before) (omega (arith, n, a.some)) (omega (arith, m, b.some))
              (omega (arith, n, asked.a.inside, asked.a.lawful.few)) (omega (arith, m, asked.b.inside, asked.b.lawful.few)));
        })

    pub join_done : {t : Tally} → t ≡ begun q → {after : Results} {u v : Tally}
        → VisitedTo k before t.queue.count (halves_from k A B (visited_of t before)) after u → v ≡ u
        → VisitedTo k before old (halves k A B (entries_of old before)) after v
    unfolding halves
    join_done same h e =
        let g = rw same at h in
        rw e (record { updated = updated_twice start.0 g.updated; state = g.state ∙ ap (halves_from k A B) begun_is })

  -- The answer from what the tally and the columns hold.
  pub halved_strips : {r after : Results} {t : Tally} {answer : Halved} → VisitedTo k before old (halves k A B (entries_of old before)) r t
      → HalvedTo (visited_of t r) r after answer
      → Numbered ax ay ah bx by bh (HalvedStrips aFrom aTo bFrom bTo k old before after answer)
  unfolding visited_of
  halved_strips {r} {after} {t} {answer} h a = record {
    numbered = λ an bn la lb.
        let same = halves_strips aFrom bFrom an bn k (entries_of old before) asked.a.inside asked.b.inside la lb in
        let whole : HalvedTo (visited_of t r) before after answer = record {
          entries = a.entries;
          range_pairs = a.range_pairs;
          columns = updated_finished h.updated a.columns;
        } in
        rw (h.state ∙ same) at whole;
  }
