-- What a look leaves, by its outcomes.
use mathlib.Core.Path.{◌≡◌, refl, sym, ap, ◌∙◌}
use mathlib.Core.Bool.{Bool, true, false, cond}
use Prim.Native.Nat.{ℕ, ◌+◌, ◌≤◌, ◌<◌, ◌^◌}
use native.Mathlib.Numerals.{add-one}
use native.Mathlib.Omega.{arith}
use mathlib.Core.List.{List}
use lib.Dec.{ltb}
use lib.IntN.{ℤ, pos}
use lib.ListN.{get_or}
use borrow.Author.Tests.{lt-ltb, le-ltb, le-leb}
use Rattle.order.proofs.Order.{by_test}
use Rattle.site.specs.Site.{gap, square, squared_distance}
use Rattle.site.specs.SiteList.{site, raised_site}
use Rattle.site.specs.Terms.{position_at}
use Rattle.site.proofs.Accepted.{coordinate_x, coordinate_y, height_at}
use Rattle.site.proofs.Distance.{gap_sym, squared_distance_sym, squared_distance_within, squared_gap_within, plane_under}
use Rattle.entry.specs.declared.Entry.{Entry}
use Rattle.entry.specs.Entry.{entry, apart, offer}
use Rattle.entry.specs.declared.Queue.{Queue}
use Rattle.entry.specs.Results.{Results}
use Rattle.entry.specs.Terms.{queued, Queueing, Offered, Updated}
use Rattle.entry.proofs.Queueing.{sorted_queued}
use Rattle.sweep.specs.declared.Reference.{Reference}
use Rattle.sweep.specs.declared.Tally.{Tally}
use Rattle.sweep.specs.declared.Looked.{Looked}
use Rattle.sweep.specs.Strip.{pair}
use Rattle.sweep.specs.Scan.{Candidate, beyond, taken}
use Rattle.sweep.specs.Sweep.{look}
use Rattle.sweep.specs.Terms.{spot_of, spot}
use Rattle.sweep.specs.Internal.{look_from, state_of, LookAsked, LookDone}
use Rattle.entry.proofs.Updated.{updated_none, updated_offered}
use Rattle.sweep.proofs.Reach.{beyond_reach, reach_past}

-- ---- what the list takes

module _ (k : ℕ) (e : Entry) (l : List Entry) where
  -- A pair takes its place,
  pub taken_offers : (e.distance ≡ 0 → ⊥) → taken apart k e l ≡ offer k e l
  unfolding taken apart
  taken_offers h = rw (le-leb 1 e.distance (omega arith))

  -- co-sited cells do not,
  pub taken_none : e.distance ≡ 0 → taken apart k e l ≡ l
  unfolding taken apart
  taken_none h = rw h

  -- and what cannot enter changes nothing.
  taken_past : offer k e l ≡ l → taken apart k e l ≡ l
  unfolding taken
  taken_past h = by_test (apart e) (λ t. rw t h) (λ f. rw f)

-- ---- any candidate

-- A look that went on: it counted a look and a distance, and the list under way is `q`.
abbrev went_on : Tally → Queue → Looked
went_on old q =
    record {
      stopped = false;
      tally = record { at = old.at; looks = old.looks + 1; distances = old.distances + 1; queue = q };
    }

module _ {k : ℕ} {r : Results} (c : Candidate) (old : Tally) (h : Queueing k old.queue r) (fits : c.gap < 2 ^ 64) where
  abbrev reach : ℕ
  reach = old.queue.reach

  stop_is : beyond k (queued old.queue r) c.gap ≡ ltb reach c.gap
  stop_is = rw (← h.reach) at (beyond_reach k (queued old.queue r) c.gap fits)

  -- It stops the scan.
  stopped : reach < c.gap
      → LookDone k c old r r
      (record { stopped = true; tally = record { at = old.at; looks = old.looks + 1; distances = old.distances; queue = old.queue } })
  unfolding state_of
  stopped far =
      let stop : beyond k (queued old.queue r) c.gap ≡ true = stop_is ∙ lt-ltb reach c.gap far in
      record {
        stopped = sym stop;
        tally = record { updated = updated_none h; state = rw (stop, add-one old.looks) };
      }

  -- It goes on, with the columns as they are after the offer.
  gone_on_lem : {after : Results} {new : Queue} → c.gap ≤ reach → Updated k r old.queue.count after new
      → queued new after ≡ taken apart k c.entry (queued old.queue r)
      → LookDone k c old r after (went_on old new)
  unfolding state_of
  gone_on_lem near updated is =
      let on : beyond k (queued old.queue r) c.gap ≡ false = stop_is ∙ le-ltb reach c.gap near in
      record {
        stopped = sym on;
        tally = record { updated = updated; state = rw (on, is, add-one old.looks, add-one old.distances) };
      }

-- ---- the candidate that a reference meets

module _ (o : Reference) (xs ys hs : List ℤ) (i : ℕ) where
  -- The x-difference squared, from either side.
  look_gap : (look_from o (spot xs ys hs i)).gap ≡ square (gap o.x (get_or xs i (pos 0)))
  unfolding look_from look spot
  look_gap = go o.swapped
    where
      go : (b : Bool) → (cond b (look (spot xs ys hs i) (spot_of o.x o.y o.height o.place)) (look (spot_of o.x o.y o.height o.place) (spot xs ys hs i))).gap
          ≡ square (gap o.x (get_or xs i (pos 0)))
      go true = ap square (gap_sym (get_or xs i (pos 0)) o.x)
      go false = refl

  module _ (d : ℕ) (is : d ≡ squared_distance (raised_site o.x o.y 0 o.height) (spot xs ys hs i).site) where
    -- The entry, by the squared distance from either side.
    look_entry : (look_from o (spot xs ys hs i)).entry ≡ cond o.swapped (entry d i o.place) (entry d o.place i)
    unfolding look_from look spot pair
    look_entry = go o.swapped
      where
        go : (b : Bool) → (cond b (look (spot xs ys hs i) (spot_of o.x o.y o.height o.place)) (look (spot_of o.x o.y o.height o.place) (spot xs ys hs i))).entry
            ≡ cond b (entry d i o.place) (entry d o.place i)
        go true = ap (λ (n : ℕ). entry n i o.place) (squared_distance_sym _ _ ∙ sym is)
        go false = ap (λ (n : ℕ). entry n o.place i) (sym is)

    look_distance : (look_from o (spot xs ys hs i)).entry.distance ≡ d
    look_distance = ap (λ (e : Entry). e.distance) look_entry ∙ go o.swapped
      where
        go : (b : Bool) → (cond b (entry d i o.place) (entry d o.place i)).distance ≡ d
        go true = refl
        go false = refl

-- ---- the outcomes

module _ {o : Reference} {xs ys hs : List ℤ} {i k : ℕ} {old : Tally} {r : Results} (asked : LookAsked o xs ys hs i k old r)
    {g : ℕ} (gap_is : g ≡ square (gap o.x (get_or xs i (pos 0)))) where
  abbrev c : Candidate
  c = look_from o (spot xs ys hs i)

  same_gap : c.gap ≡ g
  same_gap = look_gap o xs ys hs i ∙ sym gap_is

  gap_fits : c.gap < 2 ^ 64
  gap_fits = omega (arith, look_gap o xs ys hs i, squared_gap_within o.x (get_or xs i (pos 0)) asked.lawful.x (coordinate_x asked.lawful.others i asked.inside))

  -- The x-difference squared is past the reach.
  pub look_stops : old.queue.reach < g
      → LookDone k c old r r
      (record { stopped = true; tally = record { at = old.at; looks = old.looks + 1; distances = old.distances; queue = old.queue } })
  look_stops h = stopped c old asked.queue gap_fits (omega (arith, same_gap))

  module _ {d : ℕ} (is : d ≡ squared_distance (raised_site o.x o.y 0 o.height) (spot xs ys hs i).site) (on : g ≤ old.queue.reach) where
    -- The list stays, as it takes nothing.
    look_stays : taken apart k c.entry (queued old.queue r) ≡ queued old.queue r
        → LookDone k c old r r (went_on old old.queue)
    look_stays h = gone_on_lem c old asked.queue gap_fits (omega (arith, same_gap)) (updated_none asked.queue) (sym h)

    -- The pair is past the reach.
    pub look_passes : old.queue.reach < d
        → LookDone k c old r r (went_on old old.queue)
    unfolding spot
    look_passes h =
        let q = asked.queue in
        let same = look_distance o xs ys hs i d is in
        let w = asked.lawful in
        let at = asked.inside in
        let most = squared_distance_within o.x o.y o.height (get_or xs i (pos 0)) (get_or ys i (pos 0)) (get_or hs i (pos 0)) 0 0 w.x w.y w.height
        (coordinate_x w.others i at) (coordinate_y w.others i at) (height_at w.heights i at) in
        look_stays
        (taken_past k c.entry (queued old.queue r)
        (reach_past k c.entry (queued old.queue r) q.some (sorted_queued old.queue r) (omega arith) (omega (arith, q.reach))))

    -- The pair is past the reach in the plane.
    pub look_flat : {f : ℕ} → f ≡ squared_distance (site o.x o.y 0) (position_at xs ys i) → old.queue.reach < f
        → LookDone k c old r r (went_on old old.queue)
    unfolding spot
    look_flat e h =
        let under = plane_under o.x o.y o.height (get_or xs i (pos 0)) (get_or ys i (pos 0)) (get_or hs i (pos 0)) 0 0 in
        look_passes (omega arith)

    -- The two cells are co-sited.
    pub look_leaves : d ≡ 0
        → LookDone k c old r r (went_on old old.queue)
    look_leaves h = look_stays (taken_none k c.entry (queued old.queue r) (look_distance o xs ys hs i d is ∙ h))

    -- The pair takes its place.
    pub look_offers : {e : Entry} {after : Results} {new : Queue} → (d ≡ 0 → ⊥) → e ≡ cond o.swapped (entry d i o.place) (entry d o.place i)
        → Offered k e old.queue r after new
        → LookDone k c old r after (went_on old new)
    look_offers {e} some made offered =
        let same : e ≡ c.entry = made ∙ sym (look_entry o xs ys hs i d is) in
        let counts = taken_offers k c.entry (queued old.queue r) (λ none. some (sym (look_distance o xs ys hs i d is) ∙ none)) in
        gone_on_lem c old asked.queue gap_fits (omega (arith, same_gap))
        (updated_offered offered)
        (offered.list ∙ ap (λ (f : Entry). offer k f (queued old.queue r)) same ∙ sym counts)
