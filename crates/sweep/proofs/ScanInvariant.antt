-- What holds at each turn of a scan, to the right or to the left.
use mathlib.Core.Path.{◌≡◌, refl, sym, ap, ◌∙◌}
use mathlib.Core.Bool.{true, false}
use mathlib.Core.List.{List, [], ◌∷◌, map}
use Prim.Native.Nat.{ℕ, suc, ◌+◌, ◌≤◌, ◌<◌, ◌^◌}
use native.Mathlib.Omega.{arith}
use lib.IntN.{ℤ}
use lib.ListN.{length}
use Rattle.entry.specs.Entry.{apart}
use Rattle.entry.specs.Results.{Results}
use Rattle.entry.specs.Terms.{queued, Updated}
use Rattle.sweep.specs.declared.Looked.{Looked}
use Rattle.sweep.specs.declared.Reference.{Reference}
use Rattle.sweep.specs.declared.Tally.{Tally}
use Rattle.sweep.specs.Strip.{Placed}
use Rattle.sweep.specs.Scan.{State, state, Scanned, beyond, taken, look_at, scan}
use Rattle.sweep.specs.Terms.{spot}
use Rattle.sweep.specs.Internal.{look_from, state_of, LookAsked, ScanAsked, Tallied, LookDone}
use Rattle.sweep.proofs.ScanLaws.{scan_nil, scan_stop, scan_on}
use Rattle.entry.proofs.Updated.{updated_none, updated_twice}

-- A reference's scan over a run of sites, from the state that a tally and the columns hold.
abbrev scanned : ℕ → Reference → List Placed → Results → Tally → Scanned
scanned k o run r t = scan apart k (map (look_from o) run) (state_of t r)

-- The sites left, from the state held now, lead where all of them led from the first state.
pub record ScanInvariant (k : ℕ) (before : Results) (old : Tally) (o : Reference) (all left : List Placed) (r : Results) (t : Tally) : Type 0 where
  pub updated : Updated k before old.queue.count r t.queue
  pub state : (scanned k o left r t).state ≡ (scanned k o all before old).state
  pub passed : length left + (scanned k o all before old).passed ≡ length all + (scanned k o left r t).passed
  pub looks_fit : t.looks + length left ≤ 2 ^ 63
  pub distances_fit : t.distances + length left ≤ 2 ^ 63

-- A scan that ended with `n` sites not passed.
pub record Ended (k : ℕ) (before : Results) (old : Tally) (o : Reference) (all : List Placed) (n : ℕ) (r : Results) (t : Tally) : Type 0 where
  pub tallied : Tallied k before old.queue.count (scanned k o all before old).state r t
  pub passed : n + (scanned k o all before old).passed ≡ length all

-- Where a scan ended is no part of the state.
pub tallied_at : {k old n : ℕ} {before r : Results} {s : State} {t : Tally} → Tallied k before old s r t
    → Tallied k before old s r (record { at = n; looks = t.looks; distances = t.distances; queue = t.queue })
unfolding state_of
tallied_at h = record { updated = h.updated; state = h.state }

module _ {o : Reference} {xs ys hs : List ℤ} {from to k : ℕ} {before : Results} {old : Tally} (asked : ScanAsked o xs ys hs from to k old before) where
  pub invariant_starts : (all : List Placed) → length all ≤ to → ScanInvariant k before old o all all before old
  invariant_starts all n =
      let few = asked.lawful.others.few in
      let inside = asked.to_inside in
      record {
        updated = updated_none asked.queue;
        state = refl;
        passed = refl;
        looks_fit = omega (arith, asked.looks_fit);
        distances_fit = omega (arith, asked.distances_fit);
      }

  module _ {all left : List Placed} {r : Results} {t : Tally} (p : ScanInvariant k before old o all left r t) where
    -- Nothing is left.
    pub invariant_ends : left ≡ [] → Ended k before old o all (length left) r t
    invariant_ends none =
        let nil : scanned k o left r t ≡ record { state = state_of t r; passed = 0 } = rw none (scan_nil apart k (state_of t r)) in
        record {
          tallied = record { updated = p.updated; state = ap (λ (s : Scanned). s.state) (sym nil) ∙ p.state };
          passed = omega (arith, p.passed, ap length none, ap (λ (s : Scanned). s.passed) nil);
        }

    -- The next look asks no more than the scan.
    pub invariant_asks : {rest : List Placed} (i : ℕ) → left ≡ spot xs ys hs i ∷ rest → i < to → LookAsked o xs ys hs i k t r
    invariant_asks i is under =
        let n = ap length is in
        record {
          lawful = asked.lawful;
          inside = omega (arith, asked.to_inside);
          queue = p.updated.queue;
          looks_fit = omega (arith, p.looks_fit);
          distances_fit = omega (arith, p.distances_fit);
        }

    module _ {x : Placed} {rest : List Placed} (is : left ≡ x ∷ rest) {after : Results} {l : Looked}
        (done : LookDone k (look_from o x) t r after l) where
      joined : Updated k before old.queue.count after l.tally.queue
      joined = updated_twice p.updated done.tally.updated

      -- The look stopped the scan.
      pub invariant_stops : l.stopped ≡ true → Ended k before old o all (length left) after l.tally
      unfolding state_of
      invariant_stops h =
          let whole : scanned k o left r t ≡ record { state = look_at apart k (look_from o x) (state_of t r); passed = 0 }
          = rw is (scan_stop apart k (look_from o x) (map (look_from o) rest) (state_of t r) (sym done.stopped ∙ h)) in
          record {
            tallied = record { updated = joined; state = done.tally.state ∙ ap (λ (s : Scanned). s.state) (sym whole) ∙ p.state };
            passed = omega (arith, p.passed, ap (λ (s : Scanned). s.passed) whole);
          }

      -- The look went on.
      pub invariant_goes : l.stopped ≡ false → ScanInvariant k before old o all rest after l.tally
      unfolding state_of
      invariant_goes h =
          let on : beyond k (queued t.queue r) (look_from o x).gap ≡ false = sym done.stopped ∙ h in
          let now : state_of l.tally after ≡ state (taken apart k (look_from o x).entry (queued t.queue r)) (suc t.looks) (suc t.distances)
          = rw on at done.tally.state in
          let then = scan_on apart k (look_from o x) (map (look_from o) rest) (state_of t r) on in
          let whole : scanned k o left r t ≡ record { state = (scanned k o rest after l.tally).state; passed = suc (scanned k o rest after l.tally).passed }
          = rw (is, done.tally.state) then in
          let n = ap length is in
          record {
            updated = joined;
            state = ap (λ (s : Scanned). s.state) (sym whole) ∙ p.state;
            passed = omega (arith, p.passed, ap (λ (s : Scanned). s.passed) whole);
            looks_fit = omega (arith, p.looks_fit, ap (λ (s : State). s.looks) now);
            distances_fit = omega (arith, p.distances_fit, ap (λ (s : State). s.distances) now);
          }
