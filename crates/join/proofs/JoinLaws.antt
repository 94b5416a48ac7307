-- Every join over two strips finds the best K of what there was and all their pairs.
use mathlib.Core.Path.{◌≡◌}
use mathlib.Core.Bool.{true}
use mathlib.Core.List.{List, ◌++◌}
use Prim.Native.Nat.{ℕ}
use Rattle.order.specs.Order.{ascending}
use Rattle.order.specs.Terms.{Sorted}
use Rattle.site.specs.Site.{Site, site_before}
use Rattle.entry.specs.declared.Entry.{Entry}
use Rattle.entry.specs.Entry.{best_k}
use Rattle.sweep.specs.Strip.{Placed, whole, pairs}
use Rattle.sweep.proofs.LeftOf.{left_of, whole_sorted}
use Rattle.sweep.proofs.SweepLaws.{sweep_sorted}
use Rattle.halves.proofs.HalvesLaws.{halves_best}
use Rattle.join.specs.declared.Join.{Join}
use Rattle.join.specs.declared.Join.TheVariants.{Sweep, Halves}
use Rattle.join.specs.Join.{join}

-- Over sites in the order of x, which only the sweeps need.
pub join_best : (way : Join) (k : ℕ) (p q : List Placed) (l m : List Entry) → Sorted left_of p → Sorted left_of q → l ≡ best_k k m
    → (join way k p q l).entries ≡ best_k k (m ++ pairs p q)
unfolding join
join_best (Sweep way) k p q l m sp sq e = sweep_sorted way k p q l m sp sq e
join_best Halves k p q l m sp sq e = halves_best k p q l m e

-- Over two whole lists.
pub join_whole_best : (way : Join) (k : ℕ) (a b : List Site) (l m : List Entry)
    → ascending site_before a ≡ true → ascending site_before b ≡ true → l ≡ best_k k m
    → (join way k (whole a) (whole b) l).entries ≡ best_k k (m ++ pairs (whole a) (whole b))
join_whole_best way k a b l m oa ob e = join_best way k (whole a) (whole b) l m (whole_sorted a oa) (whole_sorted b ob) e
