-- Sites replaced by others whose boxes are as far apart, and they too: they are joined alike.
use mathlib.Core.Path.{◌≡◌, refl, sym, ap, ap₂, ◌∙◌}
use mathlib.Core.Bool.{Bool}
use mathlib.Core.List.{List, [], ◌∷◌, map, map-map}
use Prim.Native.Nat.{ℕ, zero, suc, ◌+◌, ◌/◌}
use lib.Dec.{ltb}
use lib.ListN.{length, length-map}
use Rattle.order.proofs.Order.{by_test}
use Rattle.order.proofs.Lists.{map_take, map_drop}
use Rattle.site.specs.Site.{Site, squared_distance}
use Rattle.entry.specs.declared.Entry.{Entry}
use Rattle.entry.specs.Entry.{apart}
use Rattle.boxes.specs.Box.{box_of, squared_box_gap}
use Rattle.sweep.specs.Strip.{Placed, pair, sites_of}
use Rattle.sweep.proofs.Alike.{each, pair_alike}
use Rattle.halves.specs.Gap.{squared_strip_gap}
use Rattle.halves.specs.Halves.{Visited, visited, lower, upper, sooner, later, expand, visit, visit_to, halves_over, halves_from, halves}

-- ---- halves of things replaced by others

module _ {A C : Type 0} (f : A → C) where
  map_lower : (l : List A) → map f (lower l) ≡ lower (map f l)
  unfolding lower
  map_lower l = rw (length-map l f) (map_take f (length l / 2) l)

  map_upper : (l : List A) → map f (upper l) ≡ upper (map f l)
  unfolding upper
  map_upper l = rw (length-map l f) (map_drop f (length l / 2) l)

  module _ (gap : List C → ℕ) (l : List A) where
    map_sooner : map f (sooner (λ half. gap (map f half)) l) ≡ sooner gap (map f l)
    unfolding sooner
    map_sooner =
        rw (← map_lower l, ← map_upper l)
        (by_test (ltb (gap (map f (upper l))) (gap (map f (lower l)))) (λ t. rw t) (λ n. rw n))

    map_later : map f (later (λ half. gap (map f half)) l) ≡ later gap (map f l)
    unfolding later
    map_later =
        rw (← map_lower l, ← map_upper l)
        (by_test (ltb (gap (map f (upper l))) (gap (map f (lower l)))) (λ t. rw t) (λ n. rw n))

-- ---- a join of them

module _ {A B C D : Type 0} (f : A → C) (g : B → D) (gap : List C → List D → ℕ) (pair : C → D → Entry) (counts : Entry → Bool) (k : ℕ) where
  abbrev gap' : List A → List B → ℕ
  gap' p q = gap (map f p) (map g q)

  abbrev pair' : A → B → Entry
  pair' a b = pair (f a) (g b)

  module _ (on : List A → List B → Visited → Visited) (on' : List C → List D → Visited → Visited)
      (same : (p : List A) (q : List B) (s : Visited) → on p q s ≡ on' (map f p) (map g q) s) where
    twice : (x y : List A) (u v : List B) (s : Visited) → on x u (on y v s) ≡ on' (map f x) (map g u) (on' (map f y) (map g v) s)
    twice x y u v s = same x u (on y v s) ∙ ap (on' (map f x) (map g u)) (same y v s)

    visit_map : (p : List A) (q : List B) (s : Visited)
        → visit gap' pair' counts k on p q s ≡ visit gap pair counts k on' (map f p) (map g q) s
    unfolding visit expand
    visit_map [] q s = refl
    visit_map (a ∷ p) [] s = refl
    visit_map (a ∷ p) (b ∷ q) s =
        let first : List A = a ∷ p in
        let second : List B = b ∷ q in
        let byFirst : List C → ℕ = λ half. gap half (map g second) in
        let bySecond : List D → ℕ = λ half. gap (map f first) half in
        let here = visited s.entries (suc s.range_pairs) in
        rw (
          length-map p f,
          length-map q g,
          ← map_later f byFirst first,
          ← map_sooner f byFirst first,
          ← map_later g bySecond second,
          ← map_sooner g bySecond second,
          twice (later (λ half. byFirst (map f half)) first) (sooner (λ half. byFirst (map f half)) first) second second here,
          twice first first (later (λ half. bySecond (map g half)) second) (sooner (λ half. bySecond (map g half)) second) here,
        )

  visit_to_map : (d : ℕ) (p : List A) (q : List B) (s : Visited)
      → visit_to gap' pair' counts k d p q s ≡ visit_to gap pair counts k d (map f p) (map g q) s
  unfolding visit_to
  visit_to_map zero p q s = refl
  visit_to_map (suc d) p q s = visit_map (visit_to gap' pair' counts k d) (visit_to gap pair counts k d) (visit_to_map d) p q s

  pub halves_map : (p : List A) (q : List B) (s : Visited)
      → halves_over gap' pair' counts k p q s ≡ halves_over gap pair counts k (map f p) (map g q) s
  unfolding halves_over
  halves_map p q s = rw (length-map p f, length-map q g) (visit_to_map (length p + length q) p q s)

-- ---- sites

-- The sites of a strip with each replaced are those it had, each replaced.
pub sites_each : (f : Site → Site) (p : List Placed) → sites_of (map (each f) p) ≡ map f (sites_of p)
sites_each f p = map-map (λ (s : Placed). s.site) (each f) p ∙ sym (map-map f (λ (s : Placed). s.site) p)

module _ (f : Site → Site)
    (same_gap : (l m : List Site) → squared_box_gap (box_of (map f l)) (box_of (map f m)) ≡ squared_box_gap (box_of l) (box_of m))
    (same-distance : (s t : Site) → squared_distance (f s) (f t) ≡ squared_distance s t) where
  pub gap_alike : (p q : List Placed) → squared_strip_gap (map (each f) p) (map (each f) q) ≡ squared_strip_gap p q
  unfolding squared_strip_gap
  gap_alike p q =
      ap₂ (λ (l m : List Site). squared_box_gap (box_of l) (box_of m)) (sites_each f p) (sites_each f q)
      ∙ same_gap (sites_of p) (sites_of q)

  pub halves_alike : (k : ℕ) (p q : List Placed) (l : List Entry) → halves k (map (each f) p) (map (each f) q) l ≡ halves k p q l
  unfolding halves halves_from
  halves_alike k p q l =
      sym
      ((λ i. halves_over (λ u v. sym (gap_alike u v) i) (pair_alike f (λ s t. sym (same-distance s t)) i) apart k p q (visited l 0))
      ∙ halves_map (each f) (each f) squared_strip_gap pair apart k p q (visited l 0))
