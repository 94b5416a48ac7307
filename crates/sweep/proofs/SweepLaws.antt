-- Either sweep over two strips finds the best K of what there was and all their pairs.
use mathlib.Core.Path.{◌≡◌, refl}
use mathlib.Core.Bool.{true}
use mathlib.Core.List.{List, ◌++◌}
use Prim.Native.Nat.{ℕ}
use Rattle.order.specs.Order.{ascending}
use Rattle.order.specs.Terms.{Sorted}
use Rattle.site.specs.Site.{Site, site_before}
use Rattle.site.proofs.Distance.{squared_gap_x}
use Rattle.entry.specs.declared.Entry.{Entry}
use Rattle.entry.specs.Entry.{apart, best_k}
use Rattle.sweep.specs.declared.Way.{Way}
use Rattle.sweep.specs.declared.Way.TheVariants.{Classic, ReverseRun}
use Rattle.sweep.specs.Strip.{Placed, whole, strip, pair, pairs}
use Rattle.sweep.specs.Scan.{state}
use Rattle.sweep.specs.Sweep.{leads, look, sweep}
use Rattle.sweep.proofs.Geometry.{Geometry, by_keys}
use Rattle.sweep.proofs.ClassicLaws.{classic_best}
use Rattle.sweep.proofs.ReverseLaws.{reverse_best}
use Rattle.sweep.proofs.LeftOf.{left_of, whole_sorted, strip_sorted}

-- Sites in the plane: the x-difference squared bounds the squared distance.
pub plane_geometry : Geometry left_of left_of leads look
unfolding leads look pair
plane_geometry =
    by_keys (λ p. p.site.x) (λ p. p.site.x) leads look (λ a b. refl) (λ a b. refl) (λ a b. squared_gap_x a.site b.site)

pub sweep_sorted : (w : Way) (k : ℕ) (p q : List Placed) (l m : List Entry) → Sorted left_of p → Sorted left_of q → l ≡ best_k k m
    → (sweep w k p q l).entries ≡ best_k k (m ++ pairs p q)
unfolding sweep pairs look
sweep_sorted Classic k p q l m sp sq e = classic_best plane_geometry apart k p q (state l 0 0) m sp sq e
sweep_sorted ReverseRun k p q l m sp sq e = reverse_best plane_geometry apart k p q (state l 0 0) m sp sq e

-- Over two strips.
pub sweep_best : (w : Way) (k f t g h : ℕ) (a b : List Site) (l m : List Entry)
    → ascending site_before a ≡ true → ascending site_before b ≡ true → l ≡ best_k k m
    → (sweep w k (strip f t a) (strip g h b) l).entries ≡ best_k k (m ++ pairs (strip f t a) (strip g h b))
sweep_best w k f t g h a b l m oa ob e =
    sweep_sorted w k (strip f t a) (strip g h b) l m (strip_sorted f t a oa) (strip_sorted g h b ob) e

-- Over two whole lists.
pub sweep_whole_best : (w : Way) (k : ℕ) (a b : List Site) (l m : List Entry)
    → ascending site_before a ≡ true → ascending site_before b ≡ true → l ≡ best_k k m
    → (sweep w k (whole a) (whole b) l).entries ≡ best_k k (m ++ pairs (whole a) (whole b))
sweep_whole_best w k a b l m oa ob e = sweep_sorted w k (whole a) (whole b) l m (whole_sorted a oa) (whole_sorted b ob) e
