-- A run of sites at one position: how it is found by halving, and what comes after it.
use mathlib.Core.Path.{◌≡◌}
use mathlib.Core.Bool.{true, false}
use mathlib.Core.List.{List}
use Prim.Native.Nat.{ℕ, ◌+◌, ◌≤◌, ◌<◌}
use native.Mathlib.Omega.{arith}
use lib.IntN.{ℤ}
use Rattle.site.specs.Site.{Site, site_before}
use Rattle.site.specs.Terms.{position_at}
use Rattle.site.proofs.SiteBefore.{site_order}
use Rattle.site.proofs.PositionOrder.{before_later, same_position}
use Rattle.sweep.specs.Internal.{PlaneStrip, RunAt}

-- The run ends from place `known` up to place `end`.
pub record RunWithin (xs ys : List ℤ) (from to known end : ℕ) : Type 0 where
  pub onward : from < known
  pub range : known ≤ end
  pub inside : end ≤ to
  pub same : (k : ℕ) → from ≤ k → k < known → position_at xs ys k ≡ position_at xs ys from
  pub past : end < to → site_before (position_at xs ys from) (position_at xs ys end) ≡ true

module _ {xs ys : List ℤ} {from to : ℕ} where
  pub run_starts : from < to → RunWithin xs ys from to (from + 1) to
  run_starts h = record {
    onward = omega arith;
    range = omega arith;
    inside = omega arith;
    same = λ k p q. let e : k ≡ from = omega arith in rw e;
    past = λ p. absurd (omega arith);
  }

  pub run_ends : {known end : ℕ} → RunWithin xs ys from to known end → end ≤ known → RunAt xs ys from to known
  run_ends {known} {end} r h =
      let e : known ≡ end = omega (arith, r.range) in
      record { onward = r.onward; inside = omega (arith, r.inside); same = r.same; past = rw e r.past }

  -- Halved: the position at `from` comes before that in the middle.
  pub run_before : {known end middle : ℕ} → RunWithin xs ys from to known end → known ≤ middle → middle < end
      → site_before (position_at xs ys from) (position_at xs ys middle) ≡ true → RunWithin xs ys from to known middle
  run_before r p q b = record { onward = r.onward; range = p; inside = omega (arith, r.inside); same = r.same; past = λ h. b }

  -- It does not, so all up to the middle are at one position.
  pub run_beyond : {known end middle : ℕ} → PlaneStrip xs ys from to → RunWithin xs ys from to known end → known ≤ middle
      → middle < end → site_before (position_at xs ys from) (position_at xs ys middle) ≡ false
      → RunWithin xs ys from to (middle + 1) end
  run_beyond {known} {end} {middle} s r p q b =
      record {
        onward = omega (arith, r.onward);
        range = omega arith;
        inside = r.inside;
        same = λ k h g.
            same_position (position_at xs ys k) (position_at xs ys from)
            (s.lawful.rising from k h (omega (arith, r.inside, s.inside)))
            (site_order.weak (position_at xs ys k) (position_at xs ys middle) (position_at xs ys from)
            (s.lawful.rising k middle (omega arith) (omega (arith, r.inside, s.inside))) b);
        past = r.past;
      }

  -- What is at a run's position comes before all past the run.
  pub run_later : {r : ℕ} → PlaneStrip xs ys from to → RunAt xs ys from to r → (s : Site) → s ≡ position_at xs ys from
      → (m : ℕ) → r ≤ m → m < to → site_before s (position_at xs ys m) ≡ true
  run_later {r} a w s e m h g =
      before_later a.lawful s r m h (omega (arith, a.inside)) (rw e (w.past (omega arith)))
