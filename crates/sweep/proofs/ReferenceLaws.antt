-- A reference read from its columns, for both sweeps.
use mathlib.Core.Path.{◌≡◌}
use mathlib.Core.Bool.{Bool, true, false}
use mathlib.Core.List.{List}
use Prim.Native.Nat.{ℕ, ◌≤◌, ◌<◌, ◌^◌}
use lib.IntN.{ℤ}
use lib.ListN.{length}
use Rattle.site.specs.Terms.{Coordinates, Heights}
use Rattle.site.proofs.Accepted.{coordinate_x, coordinate_y, height_at}
use Rattle.entry.specs.Results.{Results}
use Rattle.entry.specs.Terms.{Queueing}
use Rattle.sweep.specs.declared.Reference.{Reference}
use Rattle.sweep.specs.declared.Tally.{Tally}
use Rattle.sweep.specs.Sweep.{look}
use Rattle.sweep.specs.Terms.{spot}
use Rattle.sweep.specs.Internal.{reference_at, look_from, ScanAsked}

-- What a look from it tests and offers.
pub looks_first : {o : Reference} (xs ys hs : List ℤ) (i : ℕ) → o ≡ reference_at xs ys hs i false → look_from o ≡ look (spot xs ys hs i)
unfolding reference_at look_from spot
looks_first xs ys hs i is = rw is

pub looks_second : {o : Reference} (xs ys hs : List ℤ) (i : ℕ) → o ≡ reference_at xs ys hs i true → look_from o ≡ (λ c. look c (spot xs ys hs i))
unfolding reference_at look_from spot
looks_second xs ys hs i is = rw is

-- What its scan asks.
pub reference_asks : {rx ry rh xs ys hs : List ℤ} {i from to k : ℕ} (swapped : Bool) {o : Reference} {t : Tally} {r : Results}
    → Coordinates rx ry → Heights (length rx) rh → i < length rx → o ≡ reference_at rx ry rh i swapped
    → Coordinates xs ys → Heights (length xs) hs → from ≤ to → to ≤ length xs
    → Queueing k t.queue r → (t.looks ≤ 2 ^ 62) × (t.distances ≤ 2 ^ 62) → ScanAsked o xs ys hs from to k t r
unfolding reference_at
reference_asks {i = i} swapped own high at is others heights range inside queue fits = record {
  lawful = record {
    x = rw is (coordinate_x own i at);
    y = rw is (coordinate_y own i at);
    height = rw is (height_at high i at);
    others = others;
    heights = heights;
  };
  range = range;
  to_inside = inside;
  queue = queue;
  looks_fit = fits.0;
  distances_fit = fits.1;
}
