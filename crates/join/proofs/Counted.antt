-- How much a join of two strips of lawful lists counts at most.
use Prim.Native.Nat.{ℕ, ◌*◌, ◌^◌, ◌≤◌, ◌<◌}
use mathlib.Core.List.{List}
use native.Mathlib.Nat.{mul-le-mul}
use native.Mathlib.Omega.{arith}
use lib.ListN.{length}
use Rattle.entry.specs.declared.Entry.{Entry}
use Rattle.entry.specs.Entry.{apart}
use Rattle.sweep.specs.Strip.{Placed, pair}
use Rattle.sweep.proofs.Counted.{sweep_looks_bound, sweep_distances_bound}
use Rattle.halves.specs.Gap.{squared_strip_gap}
use Rattle.halves.specs.Halves.{visited, halves_from, halves}
use Rattle.halves.proofs.Counted.{halves_counts}
use Rattle.join.specs.declared.Join.{Join}
use Rattle.join.specs.declared.Join.TheVariants.{Sweep, Halves}
use Rattle.join.specs.Join.{Counts, join}

pub record Few (c : Counts) : Type 0 where
  pub looks : c.looks ≤ 2 ^ 33
  pub distances : c.distances ≤ 2 ^ 33
  pub range_pairs : c.range_pairs ≤ 2 ^ 33

pub join_few : (way : Join) (k : ℕ) (p q : List Placed) (l : List Entry) → 0 < length p → 0 < length q
    → length p ≤ 65_535 → length q ≤ 65_535 → Few (join way k p q l).counts
unfolding join halves halves_from
join_few (Sweep way) k p q l some others f g =
    let pairs : length p * length q ≤ 65_535 * 65_535 = mul-le-mul f g in
    let looks = sweep_looks_bound way k p q l in
    record {
      looks = omega (arith, looks);
      distances = omega (arith, looks, sweep_distances_bound way k p q l);
      range_pairs = omega arith;
    }
join_few Halves k p q l some others f g =
    let pairs : length p * length q ≤ 65_535 * 65_535 = mul-le-mul f g in
    record {
      looks = omega arith;
      distances = omega arith;
      range_pairs = omega (arith, (halves_counts squared_strip_gap pair apart k p q (visited l 0)).most some others);
    }
