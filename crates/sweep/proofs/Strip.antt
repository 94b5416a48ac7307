-- Sites by their places, strips by theirs, and the pairs of whole lists and of strips.
use mathlib.Core.Path.{◌≡◌, refl, sym, ap, ◌∙◌}
use mathlib.Core.Logic.{◌↔◌, ⊎_elim}
use mathlib.Core.Bool.{Bool, true, false}
use mathlib.Core.List.Memᴰ
use mathlib.Core.List.{List, [], ◌∷◌, ◌++◌, Memᴰ}
use Prim.Native.Nat.{ℕ, zero, suc, ◌+◌, ◌-◌, ◌*◌, ◌≤◌, ◌<◌, min}
use native.Mathlib.Omega.{arith}
use lib.Dec.{ltb}
use lib.ListN.{length, take, drop, get_or, length-take, length-drop}
use lib.Seq.{take_all, take-add, drop-drop, get_or-take, get_or-drop}
use borrow.Author.Tests.{lt-ltb, le-ltb}
use Rattle.order.specs.Order.{on, lex}
use Rattle.order.specs.Lists.{All, Distinct}
use Rattle.order.proofs.Sorted.{Ascends, ascends_take, ascends_drop, ascends_keep}
use Rattle.order.proofs.Order.{never_both, lex_less, lex_next}
use Rattle.order.proofs.Lists.{all_weaken, mem_take, mem_drop, keep_mem, mem_keep, length_keep}
use Rattle.site.specs.Site.{Site, squared_distance}
use Rattle.entry.specs.declared.Entry.{Entry}
use Rattle.entry.specs.Entry.{apart}
use Rattle.sweep.specs.Strip.{Placed, placed_from, whole, strip, sites_of, pair, product, pairs}
use Rattle.sweep.proofs.ProductLaws.{mem_product, product_mem, product_ascends, length_product}

-- A site at a place.
abbrev pub placed : ℕ → Site → Placed
placed place site = record { place = place; site = site }

-- ---- sites counted from a place

pub length_placed : (n : ℕ) (l : List Site) → length (placed_from n l) ≡ length l
unfolding placed_from
length_placed n [] = refl
length_placed n (s ∷ l) = ap suc (length_placed (suc n) l)

placed_sites : (n : ℕ) (l : List Site) → sites_of (placed_from n l) ≡ l
unfolding placed_from
placed_sites n [] = refl
placed_sites n (s ∷ l) = ap (λ (r : List Site). s ∷ r) (placed_sites (suc n) l)

pub take_placed : (m n : ℕ) (l : List Site) → take m (placed_from n l) ≡ placed_from n (take m l)
unfolding placed_from
take_placed zero n [] = refl
take_placed zero n (s ∷ l) = refl
take_placed (suc m) n [] = refl
take_placed (suc m) n (s ∷ l) = ap (λ (r : List Placed). placed n s ∷ r) (take_placed m (suc n) l)

pub drop_placed : (m n : ℕ) (l : List Site) → drop m (placed_from n l) ≡ placed_from (n + m) (drop m l)
unfolding placed_from
drop_placed zero n [] = refl
drop_placed zero n (s ∷ l) = let e : n + 0 ≡ n = omega arith in rw e
drop_placed (suc m) n [] = refl
drop_placed (suc m) n (s ∷ l) = let e : n + suc m ≡ suc n + m = omega arith in rw e (drop_placed m (suc n) l)

mem_placed : {x : Placed} (n : ℕ) (l : List Site) (s : Site) → Memᴰ x (placed_from n l)
    → (i : ℕ) × (i < length l) × (x ≡ placed (n + i) (get_or l i s))
unfolding placed_from
mem_placed n [] s m = absurd (Memᴰ.not-nil m)
mem_placed {x} n (t ∷ l) s m =
    ⊎_elim (λ (e : x ≡ placed n t). let z : n + 0 ≡ n = omega arith in (0, omega arith, rw z e))
    (λ (h : Memᴰ x (placed_from (suc n) l)).
    let w = mem_placed (suc n) l s h in
    let z : n + suc w.0 ≡ suc n + w.0 = omega arith in
    (suc w.0, omega (arith, w.1), rw z w.2))
    (Memᴰ.cases_cons m)

placed_mem : (n : ℕ) (l : List Site) (s : Site) (i : ℕ) → i < length l → Memᴰ (placed (n + i) (get_or l i s)) (placed_from n l)
unfolding placed_from
placed_mem n [] s i h = absurd (omega arith)
placed_mem n (t ∷ l) s zero h = let z : n + 0 ≡ n = omega arith in rw z (Memᴰ.head refl)
placed_mem n (t ∷ l) s (suc i) h =
    let z : n + suc i ≡ suc n + i = omega arith in rw z (Memᴰ.tail (placed_mem (suc n) l s i (omega arith)))

-- Places go up by one.
pub placed_later : (n m : ℕ) (l : List Site) → n < m → All (λ x. ltb n x.place ≡ true) (placed_from m l)
unfolding placed_from All
placed_later n m [] h = tt
placed_later n m (s ∷ l) h = (lt-ltb n m h, placed_later n (suc m) l (omega arith))

placed_ascends : (n : ℕ) (l : List Site) → Ascends (on ltb (λ x. x.place)) (placed_from n l)
unfolding placed_from Ascends
placed_ascends n [] = tt
placed_ascends n (s ∷ l) = (placed_later n (suc n) l (omega arith), placed_ascends (suc n) l)

-- ---- whole lists

pub length_whole : (l : List Site) → length (whole l) ≡ length l
unfolding whole
length_whole l = length_placed 0 l

pub sites_whole : (l : List Site) → sites_of (whole l) ≡ l
unfolding whole
sites_whole l = placed_sites 0 l

pub mem_whole : {x : Placed} (l : List Site) (s : Site) → Memᴰ x (whole l) → (x.place < length l) × (x.site ≡ get_or l x.place s)
unfolding whole
mem_whole l s m =
    let w = mem_placed 0 l s m in
    let z : 0 + w.0 ≡ w.0 = omega arith in
    rw (w.2, z) (w.1, refl)

pub whole_mem : (x : Placed) (l : List Site) (s : Site) → x.place < length l → x.site ≡ get_or l x.place s → Memᴰ x (whole l)
unfolding whole
whole_mem x l s h e =
    let z : 0 + x.place ≡ x.place = omega arith in
    let same : x ≡ placed (0 + x.place) (get_or l x.place s) = rw z (λ i. record { place = x.place; site = e i }) in
    Memᴰ.cast same (placed_mem 0 l s x.place h)

pub whole_ascends : (l : List Site) → Ascends (on ltb (λ x. x.place)) (whole l)
unfolding whole
whole_ascends l = placed_ascends 0 l

-- ---- strips

-- A strip is its sites counted from its first place.
pub strip_is : (from to : ℕ) (l : List Site) → strip from to l ≡ placed_from from (take (to - from) (drop from l))
unfolding strip whole
strip_is from to l =
    let z : 0 + from ≡ from = omega arith in
    rw (drop_placed from 0 l, z, take_placed)

pub strip_sites : (from to : ℕ) (l : List Site) → sites_of (strip from to l) ≡ take (to - from) (drop from l)
strip_sites from to l = ap sites_of (strip_is from to l) ∙ placed_sites from (take (to - from) (drop from l))

pub length_strip : (from to : ℕ) (l : List Site) → length (strip from to l) ≡ min (to - from) (length l - from)
unfolding strip
length_strip from to l = rw (length-take, length-drop, length_whole)

pub mem_strip : {x : Placed} (from to : ℕ) (l : List Site) → Memᴰ x (strip from to l)
    → (from ≤ x.place) × (x.place < to) × Memᴰ x (whole l)
unfolding strip
mem_strip {x} from to l m =
    let w = mem_placed from (take (to - from) (drop from l)) x.site (rw (strip_is from to l) at m) in
    let e : x.place ≡ from + w.0 = ap (λ y. y.place) w.2 in
    let n : length (take (to - from) (drop from l)) ≡ min (to - from) (length l - from) = rw (length-take, length-drop) in
    (omega arith, omega (arith, w.1), mem_drop from (whole l) (mem_take (to - from) (drop from (whole l)) m))

pub strip_mem : {x : Placed} (from to : ℕ) (l : List Site) → from ≤ x.place → x.place < to → Memᴰ x (whole l) → Memᴰ x (strip from to l)
strip_mem {x} from to l h g m =
    let s = x.site in
    let i = x.place - from in
    let w = mem_whole l s m in
    let n : length (take (to - from) (drop from l)) ≡ min (to - from) (length l - from) = rw (length-take, length-drop) in
    let at : from + i ≡ x.place = omega arith in
    let here : get_or (take (to - from) (drop from l)) i s ≡ x.site =
    get_or-take (to - from) (drop from l) i s (omega arith) ∙ get_or-drop from l i s ∙ ap (λ (j : ℕ). get_or l j s) at ∙ sym w.1 in
    let same : x ≡ placed (from + i) (get_or (take (to - from) (drop from l)) i s) = λ j. record { place = sym at j; site = sym here j } in
    rw (strip_is from to l) (Memᴰ.cast same (placed_mem from (take (to - from) (drop from l)) s i (omega (arith, w.0))))

pub strip_ascends : (from to : ℕ) (l : List Site) → Ascends (on ltb (λ x. x.place)) (strip from to l)
unfolding strip
strip_ascends from to l =
    ascends_take (on ltb (λ x. x.place)) (to - from) (drop from (whole l)) (ascends_drop (on ltb (λ x. x.place)) from (whole l) (whole_ascends l))

-- Two strips that meet are one.
pub strip_join : (from mid to : ℕ) (l : List Site) → from ≤ mid → mid ≤ to → strip from mid l ++ strip mid to l ≡ strip from to l
unfolding strip
strip_join from mid to l h g =
    let z : to - from ≡ (mid - from) + (to - mid) = omega arith in
    let y : from + (mid - from) ≡ mid = omega arith in
    rw (z, take-add (mid - from) (to - mid) (drop from (whole l)), drop-drop (mid - from) from (whole l), y)

pub strip_whole : (to : ℕ) (l : List Site) → length l ≤ to → strip 0 to l ≡ whole l
unfolding strip
strip_whole to l h = take_all (to - 0) (whole l) (omega (arith, length_whole l))

pub strip_empty : (at : ℕ) (l : List Site) → strip at at l ≡ []
unfolding strip
strip_empty at l = let z : at - at ≡ 0 = omega arith in rw z

-- ---- pairs

-- What a pair of two lists is: two places, and the squared distance of the sites there, 1 or more. The site `s` stands
-- for none.
pub record PairOf (a b : List Site) (s : Site) (e : Entry) : Type 0 where
  pub first_below : e.first < length a
  pub second_below : e.second < length b
  pub right : e.distance ≡ squared_distance (get_or a e.first s) (get_or b e.second s)
  pub counts : apart e ≡ true

pub mem_pairs : {e : Entry} (a b : List Site) (s : Site) → Memᴰ e (pairs (whole a) (whole b)) → PairOf a b s e
unfolding pairs pair
mem_pairs a b s m =
    let k = keep_mem apart (product pair (whole a) (whole b)) m in
    let w = mem_product pair (whole a) (whole b) k.0 in
    let u = mem_whole a s w.2 in
    let v = mem_whole b s w.3 in
    let c : apart (pair w.0 w.1) ≡ true = rw w.4 at k.1 in
    rw w.4 (record { first_below = u.0; second_below = v.0; right = rw (u.1, v.1); counts = c })

pub pairs_mem : (e : Entry) (a b : List Site) (s : Site) → PairOf a b s e → Memᴰ e (pairs (whole a) (whole b))
unfolding pairs pair
pairs_mem e a b s h =
    let x = placed e.first (get_or a e.first s) in
    let y = placed e.second (get_or b e.second s) in
    let same : e ≡ pair x y = λ i. record { distance = h.right i; first = e.first; second = e.second } in
    mem_keep apart (product pair (whole a) (whole b))
    (Memᴰ.cast same
    (product_mem pair (whole a) (whole b) (whole_mem x a s h.first_below refl) (whole_mem y b s h.second_below refl)))
    h.counts

pub mem_pairs_iff : (e : Entry) (a b : List Site) (s : Site) → Memᴰ e (pairs (whole a) (whole b)) ↔ PairOf a b s e
mem_pairs_iff e a b s = (mem_pairs a b s, pairs_mem e a b s)

-- The pairs of two strips are the pairs of the lists with places in the strips.
pub mem_strip_pairs : {e : Entry} (f t g h : ℕ) (a b : List Site) → Memᴰ e (pairs (strip f t a) (strip g h b))
    → (f ≤ e.first) × (e.first < t) × (g ≤ e.second) × (e.second < h) × Memᴰ e (pairs (whole a) (whole b))
unfolding pairs pair
mem_strip_pairs f t g h a b m =
    let k = keep_mem apart (product pair (strip f t a) (strip g h b)) m in
    let w = mem_product pair (strip f t a) (strip g h b) k.0 in
    let u = mem_strip f t a w.2 in
    let v = mem_strip g h b w.3 in
    let c : apart (pair w.0 w.1) ≡ true = rw w.4 at k.1 in
    rw w.4
    (u.0, u.1, v.0, v.1, mem_keep apart (product pair (whole a) (whole b)) (product_mem pair (whole a) (whole b) u.2 v.2) c)

pub strip_pairs_mem : {e : Entry} (f t g h : ℕ) (a b : List Site) → f ≤ e.first → e.first < t → g ≤ e.second → e.second < h
    → Memᴰ e (pairs (whole a) (whole b)) → Memᴰ e (pairs (strip f t a) (strip g h b))
unfolding pairs pair
strip_pairs_mem {e} f t g h a b i j k l m =
    let n = keep_mem apart (product pair (whole a) (whole b)) m in
    let w = mem_product pair (whole a) (whole b) n.0 in
    let first : e.first ≡ w.0.place = ap (λ x. x.first) w.4 in
    let second : e.second ≡ w.1.place = ap (λ x. x.second) w.4 in
    mem_keep apart (product pair (strip f t a) (strip g h b))
    (Memᴰ.cast w.4
    (product_mem pair (strip f t a) (strip g h b) (strip_mem f t a (omega arith) (omega arith) w.2) (strip_mem g h b (omega arith) (omega arith) w.3)))
    n.1

pub length_pairs_most : (p q : List Placed) → length (pairs p q) ≤ length p * length q
unfolding pairs
length_pairs_most p q = omega (arith, length_keep apart (product pair p q), length_product pair p q)

-- By first place and then second.
abbrev pub by_places : Entry → Entry → Bool
by_places = lex (on ltb (λ e. e.first)) (on ltb (λ e. e.second))

places_apart : (n : ℕ) → ltb n n ≡ false
places_apart n = le-ltb n n (omega arith)

pub pairs_ascend : (p q : List Placed) → Ascends (on ltb (λ x. x.place)) p → Ascends (on ltb (λ x. x.place)) q → Ascends by_places (pairs p q)
unfolding pairs pair
pairs_ascend p q sp sq =
    ascends_keep by_places apart (product pair p q)
    (product_ascends pair (on ltb (λ x. x.place)) (on ltb (λ x. x.place)) by_places
    (λ a c b d h. lex_less _ _ (pair a b) (pair c d) h)
    (λ a b d h. lex_next _ _ (pair a b) (pair a d) (places_apart a.place) (places_apart a.place) ∙ h)
    p q sp sq)

-- What ascends by a test that holds of nothing and itself has nothing twice.
irreflexive_distinct : {A : Type 0} (before : A → A → Bool) → ((a : A) → before a a ≡ false) → (l : List A) → Ascends before l → Distinct l
unfolding Ascends Distinct
irreflexive_distinct before n [] s = tt
irreflexive_distinct before n (a ∷ l) s =
    (all_weaken (λ b. before a b ≡ true) (λ b. a ≡ b → ⊥) (λ b t e. never_both t (rw e (n b))) l s.0, irreflexive_distinct before n l s.1)

pub pairs_distinct : (p q : List Placed) → Ascends (on ltb (λ x. x.place)) p → Ascends (on ltb (λ x. x.place)) q → Distinct (pairs p q)
pairs_distinct p q sp sq =
    irreflexive_distinct by_places
    (λ e. lex_next _ _ e e (places_apart e.first) (places_apart e.first) ∙ places_apart e.second)
    (pairs p q) (pairs_ascend p q sp sq)

-- No pair of two lists, or of two strips, stands twice.
pub whole_pairs_distinct : (a b : List Site) → Distinct (pairs (whole a) (whole b))
whole_pairs_distinct a b = pairs_distinct (whole a) (whole b) (whole_ascends a) (whole_ascends b)

pub strip_pairs_distinct : (f t g h : ℕ) (a b : List Site) → Distinct (pairs (strip f t a) (strip g h b))
strip_pairs_distinct f t g h a b = pairs_distinct (strip f t a) (strip g h b) (strip_ascends f t a) (strip_ascends g h b)
