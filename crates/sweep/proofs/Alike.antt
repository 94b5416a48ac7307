-- Sites replaced by others at the same x and as far apart: they are swept alike, and pair up alike.
use mathlib.Core.Path.{◌≡◌, refl, sym, ap, ◌∙◌}
use mathlib.Core.Bool.{Bool}
use mathlib.Core.List.{List, [], ◌∷◌, map, map-map}
use Prim.Native.Nat.{ℕ, suc, ◌-◌}
use lib.ListN.{take, drop}
use lib.Signed.{le_z}
use Rattle.order.specs.Lists.{keep}
use Rattle.order.proofs.Order.{by_test}
use Rattle.order.proofs.Lists.{map_take, map_drop}
use Rattle.site.specs.Site.{Site, gap, square, squared_distance}
use Rattle.entry.specs.declared.Entry.{Entry}
use Rattle.entry.specs.Entry.{entry, apart}
use Rattle.sweep.specs.declared.Way.{Way}
use Rattle.sweep.specs.declared.Way.TheVariants.{Classic, ReverseRun}
use Rattle.sweep.specs.Strip.{Placed, placed_from, whole, strip, pair, product, pairs}
use Rattle.sweep.specs.Scan.{Candidate, State, state, scan}
use Rattle.sweep.specs.Sweep.{classic_over, reverse_over, leads, look, sweep}
use Rattle.sweep.proofs.ProductLaws.{product_map}

-- ---- things replaced by others that lead and look the same

module _ {A B C D : Type 0} (f : A → C) (g : B → D) (leads : C → D → Bool) (look : C → D → Candidate) (counts : Entry → Bool) (k : ℕ) where
  pub classic_map : (p : List A) (q : List B) (s : State)
      → classic_over (λ a b. leads (f a) (g b)) (λ a b. look (f a) (g b)) counts k p q s ≡ classic_over leads look counts k (map f p) (map g q) s
  unfolding classic_over
  classic_map [] q s = refl
  classic_map (a ∷ p) [] s = refl
  classic_map (a ∷ p) (b ∷ q) s =
      rw (map-map (look (f a)) g (b ∷ q), map-map (λ (c : C). look c (g b)) f (a ∷ p))
      (by_test (leads (f a) (g b))
      (λ t. rw t (classic_map p (b ∷ q) (scan counts k (map (λ (x : B). look (f a) (g x)) (b ∷ q)) s).state))
      (λ t. rw t (classic_map (a ∷ p) q (scan counts k (map (λ (x : A). look (f x) (g b)) (a ∷ p)) s).state)))

  first_end : (a : A) (p : List A) (q : List D) (u : List A) (v : List B) (s : State)
      → reverse_over leads look counts k (map f p) q (map f (a ∷ u)) (map g (take (scan counts k (map (λ (x : B). look (f a) (g x)) v) s).passed v))
      (scan counts k (map (λ (x : B). look (f a) (g x)) v) s).state
      ≡ reverse_over leads look counts k (map f p) q (map f (a ∷ u)) (take (scan counts k (map (look (f a)) (map g v)) s).passed (map g v))
      (scan counts k (map (look (f a)) (map g v)) s).state
  first_end a p q u v s =
      let t = scan counts k (map (λ (x : B). look (f a) (g x)) v) s in
      ap (λ (w : List D). reverse_over leads look counts k (map f p) q (map f (a ∷ u)) w t.state) (map_take g t.passed v)
      ∙ ap (λ (m : List Candidate). reverse_over leads look counts k (map f p) q (map f (a ∷ u)) (take (scan counts k m s).passed (map g v)) (scan counts k m s).state)
      (sym (map-map (look (f a)) g v))

  second_end : (b : B) (p : List C) (q : List B) (u : List A) (v : List B) (s : State)
      → reverse_over leads look counts k p (map g q) (map f (take (scan counts k (map (λ (x : A). look (f x) (g b)) u) s).passed u)) (map g (b ∷ v))
      (scan counts k (map (λ (x : A). look (f x) (g b)) u) s).state
      ≡ reverse_over leads look counts k p (map g q) (take (scan counts k (map (λ (c : C). look c (g b)) (map f u)) s).passed (map f u)) (map g (b ∷ v))
      (scan counts k (map (λ (c : C). look c (g b)) (map f u)) s).state
  second_end b p q u v s =
      let t = scan counts k (map (λ (x : A). look (f x) (g b)) u) s in
      ap (λ (w : List C). reverse_over leads look counts k p (map g q) w (map g (b ∷ v)) t.state) (map_take f t.passed u)
      ∙ ap (λ (m : List Candidate). reverse_over leads look counts k p (map g q) (take (scan counts k m s).passed (map f u)) (map g (b ∷ v)) (scan counts k m s).state)
      (sym (map-map (λ (c : C). look c (g b)) f u))

  pub reverse_map : (p : List A) (q : List B) (u : List A) (v : List B) (s : State)
      → reverse_over (λ a b. leads (f a) (g b)) (λ a b. look (f a) (g b)) counts k p q u v s
      ≡ reverse_over leads look counts k (map f p) (map g q) (map f u) (map g v) s
  unfolding reverse_over
  reverse_map [] [] u v s = refl
  reverse_map [] (b ∷ q) u v s =
      let t = scan counts k (map (λ (x : A). look (f x) (g b)) u) s in
      reverse_map [] q (take t.passed u) (b ∷ v) t.state ∙ second_end b [] q u v s
  reverse_map (a ∷ p) [] u v s =
      let t = scan counts k (map (λ (x : B). look (f a) (g x)) v) s in
      reverse_map p [] (a ∷ u) (take t.passed v) t.state ∙ first_end a p [] u v s
  reverse_map (a ∷ p) (b ∷ q) u v s =
      let t = scan counts k (map (λ (x : B). look (f a) (g x)) v) s in
      let w = scan counts k (map (λ (x : A). look (f x) (g b)) u) s in
      by_test (leads (f a) (g b))
      (λ h. rw h (reverse_map p (b ∷ q) (a ∷ u) (take t.passed v) t.state ∙ first_end a p (map g (b ∷ q)) u v s))
      (λ h. rw h (reverse_map (a ∷ p) q (take w.passed u) (b ∷ v) w.state ∙ second_end b (map f (a ∷ p)) q u v s))

-- ---- sites

-- A site replaced at its place.
abbrev pub each : (Site → Site) → Placed → Placed
each f p = record { place = p.place; site = f p.site }

-- Strips of the list with each site replaced.
module _ (f : Site → Site) where
  placed_each : (n : ℕ) (l : List Site) → placed_from n (map f l) ≡ map (each f) (placed_from n l)
  unfolding placed_from
  placed_each n [] = refl
  placed_each n (s ∷ l) = ap (λ (r : List Placed). each f (record { place = n; site = s }) ∷ r) (placed_each (suc n) l)

  pub whole_each : (l : List Site) → whole (map f l) ≡ map (each f) (whole l)
  unfolding whole
  whole_each l = placed_each 0 l

  pub strip_each : (from to : ℕ) (l : List Site) → strip from to (map f l) ≡ map (each f) (strip from to l)
  unfolding strip
  strip_each from to l =
      ap (λ (p : List Placed). take (to - from) (drop from p)) (whole_each l)
      ∙ ap (take (to - from)) (sym (map_drop (each f) from (whole l)))
      ∙ sym (map_take (each f) (to - from) (drop from (whole l)))

  pub pair_alike : ((s t : Site) → squared_distance s t ≡ squared_distance (f s) (f t)) → pair ≡ (λ p q. pair (each f p) (each f q))
  unfolding pair
  pair_alike same-distance = λ i p q. entry (same-distance p.site q.site i) p.place q.place

  module _ (same-x : (s : Site) → s.x ≡ (f s).x) (same-distance : (s t : Site) → squared_distance s t ≡ squared_distance (f s) (f t)) where
    look_alike : look ≡ (λ p q. look (each f p) (each f q))
    unfolding look
    look_alike = λ i p q. record { gap = square (gap (same-x p.site i) (same-x q.site i)); entry = pair_alike same-distance i p q }

    leads_alike : leads ≡ (λ p q. leads (each f p) (each f q))
    unfolding leads
    leads_alike = λ i p q. le_z (same-x p.site i) (same-x q.site i)

    pub sweep_alike : (way : Way) (k : ℕ) (p q : List Placed) (l : List Entry) → sweep way k p q l ≡ sweep way k (map (each f) p) (map (each f) q) l
    unfolding sweep
    sweep_alike Classic k p q l =
        (λ i. classic_over (leads_alike i) (look_alike i) apart k p q (state l 0 0))
        ∙ classic_map (each f) (each f) leads look apart k p q (state l 0 0)
    sweep_alike ReverseRun k p q l =
        (λ i. reverse_over (leads_alike i) (look_alike i) apart k p q [] [] (state l 0 0))
        ∙ reverse_map (each f) (each f) leads look apart k p q [] [] (state l 0 0)

    pub pairs_alike : (p q : List Placed) → pairs p q ≡ pairs (map (each f) p) (map (each f) q)
    unfolding pairs
    pairs_alike p q =
        ap (keep apart) (ap (λ (g : Placed → Placed → Entry). product g p q) (pair_alike same-distance) ∙ sym (product_map pair (each f) (each f) p q))
