-- Sites replaced by others at the same x and as far apart, whose boxes are as far apart: they are joined alike.
use mathlib.Core.Path.{◌≡◌, sym, ap}
use mathlib.Core.List.{List, map}
use Prim.Native.Nat.{ℕ}
use Rattle.site.specs.Site.{Site, squared_distance}
use Rattle.entry.specs.declared.Entry.{Entry}
use Rattle.boxes.specs.Box.{box_of, squared_box_gap}
use Rattle.sweep.specs.Scan.{State}
use Rattle.sweep.specs.Strip.{Placed}
use Rattle.sweep.proofs.Alike.{each, sweep_alike}
use Rattle.halves.specs.Halves.{Visited}
use Rattle.halves.proofs.Alike.{halves_alike}
use Rattle.join.specs.declared.Join.{Join}
use Rattle.join.specs.declared.Join.TheVariants.{Sweep, Halves}
use Rattle.join.specs.Join.{by_sweep, by_halves, found, join}

pub join_alike : (f : Site → Site) → ((s : Site) → (f s).x ≡ s.x)
    → ((l m : List Site) → squared_box_gap (box_of (map f l)) (box_of (map f m)) ≡ squared_box_gap (box_of l) (box_of m))
    → ((s t : Site) → squared_distance (f s) (f t) ≡ squared_distance s t)
    → (way : Join) (k : ℕ) (p q : List Placed) (l : List Entry) → join way k (map (each f) p) (map (each f) q) l ≡ join way k p q l
unfolding join
join_alike f same-x same_gap same-distance (Sweep way) k p q l =
    ap (λ (s : State). found s.entries (by_sweep s.looks s.distances))
    (sym (sweep_alike f (λ s. sym (same-x s)) (λ s t. sym (same-distance s t)) way k p q l))
join_alike f same-x same_gap same-distance Halves k p q l =
    ap (λ (s : Visited). found s.entries (by_halves s.range_pairs)) (halves_alike f same_gap same-distance k p q l)
