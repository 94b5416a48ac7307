-- What a visit leaves of the tally and the columns, by its cases.
use mathlib.Core.Path.{◌≡◌, refl, sym, ap, ap₂, ◌∙◌}
use mathlib.Core.Bool.{true, false}
use mathlib.Core.List.{List, [], ◌∷◌}
use Prim.Native.Nat.{ℕ, suc, ◌+◌, ◌-◌, ◌≤◌, ◌<◌, ◌^◌}
use native.Mathlib.Numerals.{add-one}
use native.Mathlib.Omega.{arith}
use lib.Dec.{ltb}
use lib.IntN.{ℤ}
use lib.ListN.{length, get_or, set, length-set}
use borrow.Author.Tests.{lt-ltb, le-ltb}
use Rattle.entry.specs.declared.Entry.{Entry}
use Rattle.entry.specs.declared.Queue.{Queue}
use Rattle.entry.specs.Entry.{entry, apart}
use Rattle.entry.specs.Results.{Results, results}
use Rattle.entry.specs.Terms.{queued, Queueing, Offered}
use Rattle.entry.proofs.Updated.{updated_none, updated_offered, updated_twice}
use Rattle.boxes.specs.Box.{box_of}
use Rattle.boxes.proofs.Box.{single_gap}
use Rattle.sweep.specs.Strip.{Placed, pair, sites_of}
use Rattle.sweep.specs.Scan.{beyond, taken}
use Rattle.sweep.specs.Terms.{spot}
use Rattle.sweep.proofs.LookLaws.{taken_offers, taken_none}
use Rattle.sweep.proofs.Reach.{beyond_reach}
use Rattle.sweep.proofs.SiteRuns.{rightward_nil, rightward_cons}
use Rattle.halves.specs.declared.Range.{Range}
use Rattle.halves.specs.declared.Half.{Half}
use Rattle.halves.specs.declared.Halves.{Halves}
use Rattle.halves.specs.declared.Tally.{Tally}
use Rattle.halves.specs.Gap.{squared_strip_gap}
use Rattle.halves.specs.Halves.{Visited, visited, halves_from}
use Rattle.halves.specs.Internal.{range_sites, sites_in, RangeIn, gap_of, gap_to, HalfOf, HalvesOf, tally_of, visited_of, VisitedTo, expand_from, expand_of, RangesAsked, ExpandAsked}
use Rattle.halves.proofs.VisitLaws.{in_turn_lem, halves_drop, halves_keep, keep_single, keep_first, keep_second}
use Rattle.halves.proofs.Counted.{halves_counts}
use Rattle.halves.proofs.Halving.{length_range}

-- ---- the four numbers of a tally

-- The tally with a range pair more.
abbrev pub counted : Tally → Tally
counted t = record { range_pairs = t.range_pairs + 1; queue = t.queue }

pub tally_counted : (l : List ℕ) → 0 < length l → tally_of (set l 0 (get_or l 0 0 + 1)) ≡ counted (tally_of l)
unfolding tally_of
tally_counted [] h = absurd (omega arith)
tally_counted (n ∷ l) h = refl

-- That with another queue.
pub tally_offered : (l : List ℕ) (count last reach : ℕ) → 3 < length l
    → tally_of (set (set (set l 1 count) 2 last) 3 reach)
    ≡ record { range_pairs = (tally_of l).range_pairs; queue = record { count = count; last = last; reach = reach } }
unfolding tally_of
tally_offered [] a b c h = absurd (omega arith)
tally_offered (n ∷ []) a b c h = absurd (omega arith)
tally_offered (n ∷ (m ∷ [])) a b c h = absurd (omega arith)
tally_offered (n ∷ (m ∷ (i ∷ []))) a b c h = absurd (omega arith)
tally_offered (n ∷ (m ∷ (i ∷ (j ∷ l)))) a b c h = refl

-- ---- a pair offered

module _ {k squared : ℕ} (i j : ℕ) {old : Tally} {r : Results} (queue : Queueing k old.queue r) where
  -- Co-sited cells are not taken,
  pub offer_none : squared ≡ 0
      → VisitedTo k r old.queue.count (visited (taken apart k (entry squared i j) (queued old.queue r)) old.range_pairs) r old
  unfolding visited_of
  offer_none h = record {
    updated = updated_none queue;
    state = ap (λ (l : List Entry). visited l old.range_pairs) (sym (taken_none k (entry squared i j) (queued old.queue r) h));
  }

  -- and any other pair takes its place.
  pub offer_some : {after : Results} {new : Queue} → (squared ≡ 0 → ⊥) → Offered k (entry squared i j) old.queue r after new
      → VisitedTo k r old.queue.count (visited (taken apart k (entry squared i j) (queued old.queue r)) old.range_pairs) after
      (record { range_pairs = old.range_pairs; queue = new })
  unfolding visited_of
  offer_some h offered = record {
    updated = updated_offered offered;
    state =
        ap (λ (l : List Entry). visited l old.range_pairs)
        (offered.list ∙ sym (taken_offers k (entry squared i j) (queued old.queue r) h));
  }

-- ---- two ranges

module _ {ax ay ah bx by bh : List ℤ} {p q : Range} {between k : ℕ} {t : Tally} {r : Results}
    (asked : RangesAsked ax ay ah bx by bh p q between k t r) where
  abbrev P : List Placed
  P = sites_in ax ay ah p

  abbrev Q : List Placed
  Q = sites_in bx by bh q

  length_first : length P ≡ p.to - p.from
  length_first = length_range ax ay ah p.from p.to (omega (arith, asked.first.places.some))

  length_second : length Q ≡ q.to - q.from
  length_second = length_range bx by bh q.from q.to (omega (arith, asked.second.places.some))

  some_first : 0 < length P
  some_first = omega (arith, length_first, asked.first.places.some)

  some_second : 0 < length Q
  some_second = omega (arith, length_second, asked.second.places.some)

-- ---- a visit

-- What a visit of two ranges leaves of a tally and the columns,
abbrev pub visit_of : List ℤ → List ℤ → List ℤ → List ℤ → List ℤ → List ℤ → Range → Range → ℕ → Tally → Results → Visited
visit_of ax ay ah bx by bh p q k t r = halves_from k (sites_in ax ay ah p) (sites_in bx by bh q) (visited_of t r)

-- and what it needs.
pub record VisitAsked (ax ay ah bx by bh : List ℤ) (p q : Range) (between k : ℕ) (t : Tally) (r : Results) : Type 0 where
  pub ranges : RangesAsked ax ay ah bx by bh p q between k t r
  pub fits : (visit_of ax ay ah bx by bh p q k t r).range_pairs < 2 ^ 64

module _ {ax ay ah bx by bh : List ℤ} {p q : Range} {between k : ℕ} {old : Tally} {r : Results}
    (asked : VisitAsked ax ay ah bx by bh p q between k old r) where
  -- The count has room.
  count_fits : old.range_pairs + 1 < 2 ^ 64
  unfolding visited_of halves_from
  count_fits =
      let w = asked.ranges in
      let c = halves_counts squared_strip_gap pair apart k (P w) (Q w) (visited_of old r) in
      omega (arith, asked.fits, c.some (some_first w) (some_second w))

  -- One range pair more is visited.
  counted_is : visited_of (counted old) r ≡ visited (queued old.queue r) (suc old.range_pairs)
  unfolding visited_of
  counted_is = ap (λ (n : ℕ). visited (queued old.queue r) n) (add-one old.range_pairs)

  module _ (fits : between < 2 ^ 64) where
    dropped_is : beyond k (queued old.queue r) (squared_strip_gap (P asked.ranges) (Q asked.ranges)) ≡ ltb old.queue.reach between
    dropped_is =
        rw (← asked.ranges.gap)
        (beyond_reach k (queued old.queue r) between fits
        ∙ ap (λ (n : ℕ). ltb n between) (sym asked.ranges.queue.reach))

    -- It is dropped,
    pub visit_drops : old.queue.reach < between
        → VisitedTo k r old.queue.count (visit_of ax ay ah bx by bh p q k old r) r (counted old)
    unfolding halves_from visited_of
    visit_drops far =
        let w = asked.ranges in
        record {
          updated = updated_none w.queue;
          state =
              counted_is
              ∙ sym (halves_drop squared_strip_gap pair apart k (P w) (Q w) (visited_of old r) (some_first w) (some_second w)
              (dropped_is ∙ lt-ltb old.queue.reach between far));
        }

    -- or it is not.
    module _ (near : between ≤ old.queue.reach) where
      kept_is : visit_of ax ay ah bx by bh p q k old r ≡ expand_of ax ay ah bx by bh p q k (counted old) r
      unfolding halves_from expand_from visited_of
      kept_is =
          let w = asked.ranges in
          halves_keep squared_strip_gap pair apart k (P w) (Q w) (visited_of old r) (some_first w) (some_second w)
          (dropped_is ∙ le-ltb old.queue.reach between near)
          ∙ ap (expand_from k (P w) (Q w)) (sym counted_is)

      pub visit_keeps : ExpandAsked ax ay ah bx by bh p q between k (counted old) r
      visit_keeps =
          let w = asked.ranges in
          record {
            ranges = record { first = w.first; second = w.second; gap = w.gap; queue = w.queue };
            fits = omega (arith, ap (λ (v : Visited). v.range_pairs) kept_is, asked.fits);
          }

      pub visit_expands : {next : Tally} → next ≡ counted old → {after : Results} {t : Tally}
          → VisitedTo k r next.queue.count (expand_of ax ay ah bx by bh p q k next r) after t
          → VisitedTo k r old.queue.count (visit_of ax ay ah bx by bh p q k old r) after t
      visit_expands is h =
          let same = rw is at h in
          record { updated = same.updated; state = same.state ∙ sym kept_is }

-- ---- a visit made on the four numbers

-- A range pair more.
abbrev onward : List ℕ → List ℕ
onward l = set l 0 (get_or l 0 0 + 1)

-- A visit took the numbers from `l` to `n`, and the columns from `r` to `after`.
pub record Stepped (ax ay ah bx by bh : List ℤ) (p q : Range) (k : ℕ) (l : List ℕ) (r : Results) (n : List ℕ) (after : Results) : Type 0 where
  pub four : length n ≡ 4
  pub visited_to : VisitedTo k r (tally_of l).queue.count (visit_of ax ay ah bx by bh p q k (tally_of l) r) after (tally_of n)

module _ (l : List ℕ) (four : length l ≡ 4) {ax ay ah bx by bh : List ℤ} {p q : Range} {between k : ℕ} {r : Results}
    (asked : VisitAsked ax ay ah bx by bh p q between k (tally_of l) r) (fits : between < 2 ^ 64) where
  pub number_fits : get_or l 0 0 + 1 < 2 ^ 64
  unfolding tally_of
  number_fits = count_fits asked

  onward_is : tally_of (onward l) ≡ counted (tally_of l)
  onward_is = tally_counted l (omega arith)

  onward_four : length (onward l) ≡ 4
  onward_four = simp length-set four

  reach_is : get_or (onward l) 3 0 ≡ (tally_of l).queue.reach
  unfolding tally_of
  reach_is = ap (λ (t : Tally). t.queue.reach) onward_is

  -- It asks what follows for the same,
  pub kept_asks : between ≤ get_or (onward l) 3 0
      → (length (onward l) ≡ 4) × ExpandAsked ax ay ah bx by bh p q between k (tally_of (onward l)) r
  kept_asks near = (onward_four, rw onward_is (visit_keeps asked fits (omega (arith, reach_is))))

  -- and is done by it,
  pub kept_done : between ≤ get_or (onward l) 3 0 → {m n d f s : List ℕ} {after : Results}
      → (length m ≡ 4) × VisitedTo k r (tally_of (onward l)).queue.count (expand_of ax ay ah bx by bh p q k (tally_of (onward l)) r) after (tally_of m)
      → n ≡ m → d ≡ after.distance → f ≡ after.first → s ≡ after.second
      → Stepped ax ay ah bx by bh p q k l r n (results d f s)
  kept_done near h e e₁ e₂ e₃ =
      rw (e, e₁, e₂, e₃) (record { four = h.0; visited_to = visit_expands asked fits (omega (arith, reach_is)) onward_is h.1 })

  -- or dropped.
  pub dropped_done : get_or (onward l) 3 0 < between → {n d f s : List ℕ}
      → n ≡ onward l → d ≡ r.distance → f ≡ r.first → s ≡ r.second
      → Stepped ax ay ah bx by bh p q k l r n (results d f s)
  dropped_done far e e₁ e₂ e₃ =
      rw (e, e₁, e₂, e₃) (record { four = onward_four; visited_to = rw onward_is (visit_drops asked fits (omega (arith, reach_is))) })

-- ---- a pair of single sites

-- A range of one place.
only : (xs ys hs : List ℤ) (from to : ℕ) → to - from ≡ 1 → range_sites xs ys hs from to ≡ spot xs ys hs from ∷ []
unfolding range_sites
only xs ys hs from to h =
    rightward_cons xs ys hs from to (omega arith)
    ∙ ap (λ (l : List Placed). spot xs ys hs from ∷ l) (rightward_nil xs ys hs (from + 1) to (omega arith))

module _ {ax ay ah bx by bh : List ℤ} {p q : Range} {between k : ℕ} {old : Tally} {r : Results}
    (asked : RangesAsked ax ay ah bx by bh p q between k old r) (single : (p.to - p.from) + (q.to - q.from) ≡ 2) where
  is_first : sites_in ax ay ah p ≡ spot ax ay ah p.from ∷ []
  is_first = only ax ay ah p.from p.to (omega (arith, asked.first.places.some, asked.second.places.some))

  is_second : sites_in bx by bh q ≡ spot bx by bh q.from ∷ []
  is_second = only bx by bh q.from q.to (omega (arith, asked.first.places.some, asked.second.places.some))

  -- Their gap is their distance.
  pair_is : entry between p.from q.from ≡ pair (spot ax ay ah p.from) (spot bx by bh q.from)
  unfolding squared_strip_gap pair spot
  pair_is =
      ap (λ (d : ℕ). entry d p.from q.from)
      (asked.gap ∙ ap₂ squared_strip_gap is_first is_second ∙ single_gap (spot ax ay ah p.from).site (spot bx by bh q.from).site)

  pub expand_offers : {after : Results} {t : Tally}
      → VisitedTo k r old.queue.count
      (visited (taken apart k (entry between p.from q.from) (queued old.queue r)) old.range_pairs) after t
      → VisitedTo k r old.queue.count (expand_of ax ay ah bx by bh p q k old r) after t
  unfolding halves_from expand_from visited_of
  expand_offers h = record {
    updated = h.updated;
    state =
        h.state
        ∙ ap (λ (e : Entry). visited (taken apart k e (queued old.queue r)) old.range_pairs) pair_is
        ∙ sym (keep_single squared_strip_gap pair apart k (halves_from k) (spot ax ay ah p.from) (spot bx by bh q.from) (visited_of old r))
        ∙ sym (ap₂ (λ (l m : List Placed). expand_from k l m (visited_of old r)) is_first is_second);
  }

-- ---- a split

-- What follows is two visits in turn, each of smaller ranges.
pub record Turns (ax ay ah bx by bh : List ℤ) (p q : Range) (k : ℕ) (old : Tally) (r : Results) (p₁ q₁ : Range) (g₁ : ℕ)
    (p₂ q₂ : Range) (g₂ : ℕ) : Type 0 where
  pub whole : expand_of ax ay ah bx by bh p q k old r
      ≡ halves_from k (sites_in ax ay ah p₂) (sites_in bx by bh q₂) (visit_of ax ay ah bx by bh p₁ q₁ k old r)
  pub first : RangeIn ax ay ah p₁ × RangeIn ax ay ah p₂
  pub second : RangeIn bx by bh q₁ × RangeIn bx by bh q₂
  pub gap : (g₁ ≡ squared_strip_gap (sites_in ax ay ah p₁) (sites_in bx by bh q₁))
      × (g₂ ≡ squared_strip_gap (sites_in ax ay ah p₂) (sites_in bx by bh q₂))
  pub fits : (g₁ < 2 ^ 64) × (g₂ < 2 ^ 64)
  pub fall : ((p₁.to - p₁.from) + (q₁.to - q₁.from) < (p.to - p.from) + (q.to - q.from))
      × ((p₂.to - p₂.from) + (q₂.to - q₂.from) < (p.to - p.from) + (q.to - q.from))

module _ {ax ay ah bx by bh : List ℤ} {p q : Range} {between k : ℕ} {old : Tally} {r : Results}
    (asked : ExpandAsked ax ay ah bx by bh p q between k old r) {p₁ q₁ : Range} {g₁ : ℕ} {p₂ q₂ : Range} {g₂ : ℕ}
    (turns : Turns ax ay ah bx by bh p q k old r p₁ q₁ g₁ p₂ q₂ g₂) where
  -- The first visit has what it asks,
  pub sooner_asks : VisitAsked ax ay ah bx by bh p₁ q₁ g₁ k old r
  unfolding halves_from
  sooner_asks =
      let s = visit_of ax ay ah bx by bh p₁ q₁ k old r in
      let c = halves_counts squared_strip_gap pair apart k (sites_in ax ay ah p₂) (sites_in bx by bh q₂) s in
      let n = ap (λ (v : Visited). v.range_pairs) turns.whole in
      record {
        ranges = record { first = turns.first.0; second = turns.second.0; gap = turns.gap.0; queue = asked.ranges.queue };
        fits = omega (arith, c.least, n, asked.fits);
      }

  module _ {after : Results} {t : Tally}
      (done : VisitedTo k r old.queue.count (visit_of ax ay ah bx by bh p₁ q₁ k old r) after t) where
    then_is : visit_of ax ay ah bx by bh p₂ q₂ k t after ≡ expand_of ax ay ah bx by bh p q k old r
    then_is = ap (halves_from k (sites_in ax ay ah p₂) (sites_in bx by bh q₂)) done.state ∙ sym turns.whole

    -- the second too, from what the first leaves,
    pub later_asks : VisitAsked ax ay ah bx by bh p₂ q₂ g₂ k t after
    later_asks = record {
      ranges = record { first = turns.first.1; second = turns.second.1; gap = turns.gap.1; queue = done.updated.queue };
      fits = omega (arith, ap (λ (v : Visited). v.range_pairs) then_is, asked.fits);
    }

    -- and with both all is done.
    pub turns_done : {last : Results} {u : Tally}
        → VisitedTo k after t.queue.count (visit_of ax ay ah bx by bh p₂ q₂ k t after) last u
        → VisitedTo k r old.queue.count (expand_of ax ay ah bx by bh p q k old r) last u
    turns_done h = record { updated = updated_twice done.updated h.updated; state = h.state ∙ then_is }

-- The second visit, from the tally and columns that the first one leaves.
module _ {l : List ℕ} {ax ay ah bx by bh : List ℤ} {p q : Range} {between k : ℕ} {r : Results}
    (asked : ExpandAsked ax ay ah bx by bh p q between k (tally_of l) r) {p₁ q₁ : Range} {g₁ : ℕ} {p₂ q₂ : Range} {g₂ : ℕ}
    (turns : Turns ax ay ah bx by bh p q k (tally_of l) r p₁ q₁ g₁ p₂ q₂ g₂) {n : List ℕ} {after : Results}
    (done : Stepped ax ay ah bx by bh p₁ q₁ k l r n after) where
  pub later_fits : get_or n 0 0 + 1 < 2 ^ 64
  later_fits = number_fits n done.four (later_asks asked turns done.visited_to) turns.fits.1

  pub later_kept : g₂ ≤ get_or (onward n) 3 0
      → (length (onward n) ≡ 4) × ExpandAsked ax ay ah bx by bh p₂ q₂ g₂ k (tally_of (onward n)) after
  later_kept near = kept_asks n done.four (later_asks asked turns done.visited_to) turns.fits.1 near

  -- With it all is done, whether it is made
  pub both_done : g₂ ≤ get_or (onward n) 3 0 → (m : List ℕ) {last : Results}
      → (length m ≡ 4) × VisitedTo k after (tally_of (onward n)).queue.count (expand_of ax ay ah bx by bh p₂ q₂ k (tally_of (onward n)) after) last (tally_of m)
      → (length m ≡ 4) × VisitedTo k r (tally_of l).queue.count (expand_of ax ay ah bx by bh p q k (tally_of l) r) last (tally_of m)
  both_done near m h =
      let visit = later_asks asked turns done.visited_to in
      let last = kept_done n done.four visit turns.fits.1 near h refl refl refl refl in
      (last.four, turns_done asked turns done.visited_to last.visited_to)

  -- or dropped.
  pub first_alone : get_or (onward n) 3 0 < g₂
      → (length (onward n) ≡ 4) × VisitedTo k r (tally_of l).queue.count (expand_of ax ay ah bx by bh p q k (tally_of l) r) after (tally_of (onward n))
  first_alone far =
      let visit = later_asks asked turns done.visited_to in
      let last = dropped_done n done.four visit turns.fits.1 far refl refl refl refl in
      (last.four, turns_done asked turns done.visited_to last.visited_to)

half_length : {xs ys hs : List ℤ} {apart : List Placed → ℕ} {l : List Placed} {h : Half} → HalfOf xs ys hs apart l h
    → length l ≡ h.range.to - h.range.from
half_length {xs} {ys} {hs} {h = h} is =
    ap length (sym is.sites) ∙ length_range xs ys hs h.range.from h.range.to (omega (arith, is.range.places.some))

module _ {ax ay ah bx by bh : List ℤ} {p q : Range} {between k : ℕ} {old : Tally} {r : Results}
    (asked : RangesAsked ax ay ah bx by bh p q between k old r) where
  abbrev first : List Placed
  first = sites_in ax ay ah p

  abbrev second : List Placed
  second = sites_in bx by bh q

  -- The first list's range splits.
  pub first_turns : {h : Halves} → (q.to - q.from) ≤ (p.to - p.from) → 2 < (p.to - p.from) + (q.to - q.from)
      → HalvesOf ax ay ah (gap_to false q.edges) p h
      → Turns ax ay ah bx by bh p q k old r h.sooner.range q h.sooner.gap h.later.range q h.later.gap
  unfolding gap_of squared_strip_gap halves_from expand_from
  first_turns {h} long more made =
      let g : List Placed → ℕ = λ half. squared_strip_gap half second in
      let same : gap_to false q.edges ≡ g = λ i half. gap_of false (box_of (sites_of half)) (asked.second.box i) in
      let halves : HalvesOf ax ay ah g p h = rw same at made in
      let s = halves.sooner_half in
      let l = halves.later_half in
      let n = length_first asked in
      let m = length_second asked in
      let parts = in_turn_lem g first (omega (arith, n, m)) in
      record {
        whole =
            keep_first squared_strip_gap pair apart k (halves_from k) first second (visited_of old r) (some_second asked) (omega (arith, n, m)) (omega (arith, n, m))
            ∙ sym
            (ap₂ (λ (u : List Placed) (v : Visited). halves_from k u second v) l.sites
            (ap (λ (u : List Placed). halves_from k u second (visited_of old r)) s.sites));
        first = (s.range, l.range);
        second = (asked.second, asked.second);
        gap = (s.gap ∙ ap g (sym s.sites), l.gap ∙ ap g (sym l.sites));
        fits = (s.fits, l.fits);
        fall = (
          omega (arith, parts.lengths, parts.others, half_length s, n),
          omega (arith, parts.lengths, parts.some, half_length l, n),
        );
      }

  -- The second list's range splits.
  pub second_turns : {h : Halves} → (p.to - p.from) < (q.to - q.from)
      → HalvesOf bx by bh (gap_to true p.edges) q h
      → Turns ax ay ah bx by bh p q k old r p h.sooner.range h.sooner.gap p h.later.range h.later.gap
  unfolding gap_of squared_strip_gap halves_from expand_from
  second_turns {h} long made =
      let g : List Placed → ℕ = λ half. squared_strip_gap first half in
      let same : gap_to true p.edges ≡ g = λ i half. gap_of true (box_of (sites_of half)) (asked.first.box i) in
      let halves : HalvesOf bx by bh g q h = rw same at made in
      let s = halves.sooner_half in
      let l = halves.later_half in
      let n = length_first asked in
      let m = length_second asked in
      let parts = in_turn_lem g second (omega (arith, n, m, some_first asked)) in
      record {
        whole =
            keep_second squared_strip_gap pair apart k (halves_from k) first second (visited_of old r) (some_first asked) (omega (arith, n, m))
            ∙ sym
            (ap₂ (λ (u : List Placed) (v : Visited). halves_from k first u v) l.sites
            (ap (λ (u : List Placed). halves_from k first u (visited_of old r)) s.sites));
        first = (asked.first, asked.first);
        second = (s.range, l.range);
        gap = (s.gap ∙ ap g (sym s.sites), l.gap ∙ ap g (sym l.sites));
        fits = (s.fits, l.fits);
        fall = (
          omega (arith, parts.lengths, parts.others, half_length s, m),
          omega (arith, parts.lengths, parts.some, half_length l, m),
        );
      }
