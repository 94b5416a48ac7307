-- How many of one site each of two strips stand at one position: as two fingers go over the strips.
use mathlib.Core.Path.{◌≡◌, refl, sym, ap, ap₂, ◌∙◌}
use mathlib.Core.Bool.{Bool, true, false, not}
use mathlib.Core.List.{List, map}
use Prim.Native.Nat.{ℕ, zero, suc, ◌+◌, ◌*◌, ◌-◌, ◌≤◌, ◌<◌}
use native.Mathlib.Nat.{mul-le-mul, suc-mul}
use native.Mathlib.Omega.{arith}
use lib.Dec.{leb, eqb}
use lib.IntN.{ℤ, pos}
use lib.ListN.{length, take, drop, get_or, length-take, length-drop}
use lib.Seq.{drop-cons}
use borrow.Author.Tests.{le-leb, ne_eqb}
use Rattle.order.specs.Lists.{all, keep, All}
use Rattle.order.proofs.Order.{by_test}
use Rattle.order.proofs.Lists.{keep_nil, all_part}
use Rattle.site.specs.Site.{height_within, gap, square, squared_distance, site_before}
use Rattle.site.specs.SiteList.{raised_site}
use Rattle.site.specs.Terms.{position_at, Numbered}
use Rattle.site.proofs.Distance.{gap_same, squared_distance_sym, squared_distance_up}
use Rattle.site.proofs.PositionOrder.{position, position_apart, before_later, same_position}
use Rattle.heights.specs.Heights.{occurrences, equal_pairs}
use Rattle.entry.specs.declared.Entry.{Entry}
use Rattle.entry.specs.Entry.{apart}
use Rattle.sweep.specs.Strip.{Placed, strip, pair, pairs}
use Rattle.sweep.specs.Terms.{spot_of, spot, rightward, StripIn}
use Rattle.sweep.specs.Internal.{PlaneStrip, RunAt, co_sited}
use Rattle.sweep.proofs.ProductLaws.{product_nil, product_nil_right}
use Rattle.sweep.proofs.KeptPairs.{kept_first, kept_second, kept_fronts, kept_cons, kept_or_not}
use Rattle.sweep.proofs.Unnumbered.{pairs_strips}
use Rattle.sweep.proofs.RunAt.{run_later}
use Rattle.sweep.proofs.SiteRuns.{rightward_nil, rightward_cons, rightward_join, all_rightward, length_rightward}

-- ---- two sites

-- A pair counts where one position comes before the other, and not at one position.
module _ (p q : Placed) where
  pub apart_before : site_before (position p.site) (position q.site) ≡ true → apart (pair p q) ≡ true
  unfolding apart pair
  apart_before h = le-leb 1 (squared_distance p.site q.site) (position_apart p.site q.site h)

  pub apart_after : site_before (position q.site) (position p.site) ≡ true → apart (pair p q) ≡ true
  unfolding apart pair
  apart_after h =
      le-leb 1 (squared_distance p.site q.site) (rw (squared_distance_sym p.site q.site) (position_apart q.site p.site h))

-- At one position, and at two heights: co-sited where these are equal.
together : (x y u v h k : ℤ) (m n : ℕ) → x ≡ u → y ≡ v → not (apart (pair (spot_of x y h m) (spot_of u v k n))) ≡ eqb (gap h k) 0
unfolding apart pair square
together x y u v h k m n p q =
    let same : squared_distance (raised_site x y 0 h) (raised_site u v 0 k) ≡ gap h k * gap h k =
    squared_distance_up x y h u v k 0 0 ∙ (λ i. square (gap (p i) u) + square (gap (q i) v) + square (gap h k)) ∙ still u v in
    ap (λ (d : ℕ). not (leb 1 d)) same ∙ none (gap h k)
  where
    still : (u v : ℤ) → square (gap u u) + square (gap v v) + square (gap h k) ≡ gap h k * gap h k
    still u v = rw (gap_same u, gap_same v) (omega arith)

    none : (n : ℕ) → not (leb 1 (n * n)) ≡ eqb n 0
    none zero = refl
    none (suc n) = ap not (le-leb 1 (suc n * suc n) (omega (arith, suc-mul n (suc n)))) ∙ sym (ne_eqb (suc n) 0 (λ h. omega arith))

-- ---- two lists

-- Pairs and those at one position are all.
pub pairs_or_not : (p q : List Placed) → length (pairs p q) + co_sited p q ≡ length p * length q
unfolding pairs co_sited
pairs_or_not p q = kept_or_not pair apart p q

-- ---- heights

-- Of sites at places from `i` and from `j` on, those pairs are kept whose heights are equal.
module _ (ax ay ah bx by bh : List ℤ) where
  abbrev kept_test : Entry → Bool
  kept_test e = not (apart e)

  equal_row : (k n j : ℕ) → j + n ≤ length bh
      → ((m : ℕ) → j ≤ m → m < j + n → not (apart (pair (spot ax ay ah k) (spot bx by bh m))) ≡ eqb (gap (get_or ah k (pos 0)) (get_or bh m (pos 0))) 0)
      → length (keep kept_test (map (pair (spot ax ay ah k)) (rightward bx by bh j n))) ≡ occurrences (get_or ah k (pos 0)) (take n (drop j bh))
  unfolding rightward occurrences keep
  equal_row k zero j h is = refl
  equal_row k (suc n) j h is =
      let rest = equal_row k n (suc j) (omega arith) (λ m p q. is m (omega arith) (omega arith)) in
      let here = is j (omega arith) (omega arith) in
      rw (drop-cons bh j (pos 0) (omega arith))
      (by_test (eqb (gap (get_or ah k (pos 0)) (get_or bh j (pos 0))) 0) (λ t. rw (here, t) (ap suc rest)) (λ f. rw (here, f) rest))

  equal_block : (n i m j : ℕ) → i + n ≤ length ah → j + m ≤ length bh
      → ((k l : ℕ) → i ≤ k → k < i + n → j ≤ l → l < j + m
      → not (apart (pair (spot ax ay ah k) (spot bx by bh l))) ≡ eqb (gap (get_or ah k (pos 0)) (get_or bh l (pos 0))) 0)
      → co_sited (rightward ax ay ah i n) (rightward bx by bh j m) ≡ equal_pairs (take n (drop i ah)) (take m (drop j bh))
  unfolding co_sited rightward equal_pairs
  equal_block zero i m j h g is = rw (product_nil pair, keep_nil kept_test)
  equal_block (suc n) i m j h g is =
      rw (drop-cons ah i (pos 0) (omega arith))
      (kept_cons pair kept_test (spot ax ay ah i) (rightward ax ay ah (suc i) n) (rightward bx by bh j m)
      ∙ ap₂ ◌+◌ (equal_row i m j g (λ l p q. is i l (omega arith) (omega arith) p q))
      (equal_block n (suc i) m j (omega arith) g (λ k l p q r s. is k l (omega arith) (omega arith) r s)))

-- ---- two fingers

-- A strip from a later place on.
pub strip_on : {xs ys hs : List ℤ} {from to : ℕ} (i : ℕ) → StripIn xs ys hs from to → i ≤ to → StripIn xs ys hs i to
strip_on i a h = record { lawful = a.lawful; heights = a.heights; range = h; inside = a.inside }

-- It in the plane.
pub strip_plane : {xs ys hs : List ℤ} {from to : ℕ} → StripIn xs ys hs from to → PlaneStrip xs ys from to
strip_plane a = record { lawful = a.lawful; range = a.range; inside = a.inside }

-- The heights of a part are few, and inside the limits.
pub part_heights : {xs ys hs : List ℤ} {from to : ℕ} → StripIn xs ys hs from to → (n k : ℕ)
    → (length (take n (drop k hs)) ≤ 65_535) × (all height_within (take n (drop k hs)) ≡ true)
part_heights {hs = hs} a n k =
    (simp (length-take, length-drop) (omega (arith, a.lawful.few, a.heights.equal)), all_part height_within n k hs a.heights.within)

-- How many there are from two places on.
abbrev pub co_sited_from : List ℤ → List ℤ → List ℤ → List ℤ → List ℤ → List ℤ → ℕ → ℕ → ℕ → ℕ → ℕ
co_sited_from ax ay ah bx by bh i aTo j bTo = co_sited (rightward ax ay ah i (aTo - i)) (rightward bx by bh j (bTo - j))

module _ {ax ay ah bx by bh : List ℤ} {i aTo j bTo : ℕ} (a : StripIn ax ay ah i aTo) (b : StripIn bx by bh j bTo) where
  -- There are none left.
  pub co_sited_none : aTo ≤ i → co_sited_from ax ay ah bx by bh i aTo j bTo ≡ 0
  unfolding co_sited
  co_sited_none h = rw (rightward_nil ax ay ah i aTo h, product_nil pair, keep_nil (λ e. not (apart e)))

  pub co_sited_none_second : bTo ≤ j → co_sited_from ax ay ah bx by bh i aTo j bTo ≡ 0
  unfolding co_sited
  co_sited_none_second h = rw (rightward_nil bx by bh j bTo h, product_nil_right pair, keep_nil (λ e. not (apart e)))

  -- With the pairs they are all, and those are few.
  pub pairs_counted : length (pairs (rightward ax ay ah i (aTo - i)) (rightward bx by bh j (bTo - j))) + co_sited_from ax ay ah bx by bh i aTo j bTo
      ≡ (aTo - i) * (bTo - j)
  pairs_counted =
      pairs_or_not (rightward ax ay ah i (aTo - i)) (rightward bx by bh j (bTo - j))
      ∙ ap₂ ◌*◌ (length_rightward ax ay ah i (aTo - i)) (length_rightward bx by bh j (bTo - j))

  pub all_few : (aTo - i) * (bTo - j) ≤ 4_294_836_225
  all_few =
      let m : aTo - i ≤ 65_535 = omega (arith, a.inside, a.lawful.few) in
      let n : bTo - j ≤ 65_535 = omega (arith, b.inside, b.lawful.few) in
      mul-le-mul m n

  -- The pairs of the strips, whatever the numbers, by those that are at one position.
  pub pairs_numbered : {n : ℕ} → n ≡ co_sited_from ax ay ah bx by bh i aTo j bTo
      → Numbered ax ay ah bx by bh (λ l m. (aTo - i) * (bTo - j) - n ≡ length (pairs (strip i aTo l) (strip j bTo m)))
  pairs_numbered e = record {
    numbered = λ an bn la lb.
        let same = ap length (pairs_strips ax ay an ah bx by bn bh i aTo j bTo la lb a.inside b.inside) in
        omega (arith, pairs_counted);
  }

  -- One finger moves on where its site comes first.
  pub co_sited_first : i < aTo → site_before (position_at ax ay i) (position_at bx by j) ≡ true
      → co_sited_from ax ay ah bx by bh i aTo j bTo ≡ co_sited_from ax ay ah bx by bh (i + 1) aTo j bTo
  unfolding co_sited spot
  co_sited_first h t =
      let others = rightward bx by bh j (bTo - j) in
      let none : All (λ o. not (apart (pair (spot ax ay ah i) o)) ≡ false) others = all_rightward bx by bh _
      (λ m p q. ap not (apart_before (spot ax ay ah i) (spot bx by bh m) (before_later b.lawful _ j m p (omega (arith, b.inside)) t))) in
      ap (λ p. co_sited p others) (rightward_cons ax ay ah i aTo h)
      ∙ kept_first pair (λ e. not (apart e)) (spot ax ay ah i) (rightward ax ay ah (i + 1) (aTo - (i + 1))) others none

  pub co_sited_second : j < bTo → site_before (position_at bx by j) (position_at ax ay i) ≡ true
      → co_sited_from ax ay ah bx by bh i aTo j bTo ≡ co_sited_from ax ay ah bx by bh i aTo (j + 1) bTo
  unfolding co_sited spot
  co_sited_second h t =
      let others = rightward ax ay ah i (aTo - i) in
      let none : All (λ o. not (apart (pair o (spot bx by bh j))) ≡ false) others = all_rightward ax ay ah _
      (λ m p q. ap not (apart_after (spot ax ay ah m) (spot bx by bh j) (before_later a.lawful _ i m p (omega (arith, a.inside)) t))) in
      ap (λ q. co_sited others q) (rightward_cons bx by bh j bTo h)
      ∙ kept_second pair (λ e. not (apart e)) (spot bx by bh j) others (rightward bx by bh (j + 1) (bTo - (j + 1))) none

  -- Both move past their runs where neither comes first: pairs of the runs are at one position.
  module _ {p q : ℕ} (u : RunAt ax ay i aTo p) (v : RunAt bx by j bTo q)
      (s : site_before (position_at ax ay i) (position_at bx by j) ≡ false)
      (t : site_before (position_at bx by j) (position_at ax ay i) ≡ false) where
    here : position_at ax ay i ≡ position_at bx by j
    here = same_position (position_at ax ay i) (position_at bx by j) s t

    runs_together : (k m : ℕ) → i ≤ k → k < p → j ≤ m → m < q
        → not (apart (pair (spot ax ay ah k) (spot bx by bh m))) ≡ eqb (gap (get_or ah k (pos 0)) (get_or bh m (pos 0))) 0
    unfolding spot
    runs_together k m f g h l =
        let e = u.same k f g ∙ here ∙ sym (v.same m h l) in
        together _ _ _ _ (get_or ah k (pos 0)) (get_or bh m (pos 0)) k m (λ o. (e o).x) (λ o. (e o).y)

    first_rest : (k m : ℕ) → i ≤ k → k < p → q ≤ m → m < bTo → not (apart (pair (spot ax ay ah k) (spot bx by bh m))) ≡ false
    unfolding spot
    first_rest k m f g h l =
        ap not (apart_before (spot ax ay ah k) (spot bx by bh m) (run_later (strip_plane b) v (position_at ax ay k) (u.same k f g ∙ here) m h l))

    second_rest : (k m : ℕ) → p ≤ k → k < aTo → j ≤ m → m < q → not (apart (pair (spot ax ay ah k) (spot bx by bh m))) ≡ false
    unfolding spot
    second_rest k m f g h l =
        ap not (apart_after (spot ax ay ah k) (spot bx by bh m) (run_later (strip_plane a) u (position_at bx by m) (v.same m h l ∙ sym here) k f g))

    pub co_sited_runs : co_sited_from ax ay ah bx by bh i aTo j bTo
        ≡ equal_pairs (take (p - i) (drop i ah)) (take (q - j) (drop j bh)) + co_sited_from ax ay ah bx by bh p aTo q bTo
    unfolding co_sited
    co_sited_runs =
        let f : Entry → Bool = λ e. not (apart e) in
        let c = rightward ax ay ah i (p - i) in
        let d = rightward bx by bh j (q - j) in
        let c' = rightward ax ay ah p (aTo - p) in
        let d' = rightward bx by bh q (bTo - q) in
        let whole = kept_fronts pair f c c' d d'
        (all_rightward ax ay ah _ (λ k g h. all_rightward bx by bh _ (λ m l n. first_rest k m g h l n)))
        (all_rightward ax ay ah _ (λ k g h. all_rightward bx by bh _ (λ m l n. second_rest k m g h l n))) in
        ap₂ co_sited (rightward_join ax ay ah (omega (arith, u.onward)) u.inside) (rightward_join bx by bh (omega (arith, v.onward)) v.inside)
        ∙ whole
        ∙ ap (λ (n : ℕ). n + co_sited c' d')
        (equal_block ax ay ah bx by bh (p - i) i (q - j) j
        (omega (arith, u.inside, u.onward, a.inside, a.heights.equal)) (omega (arith, v.inside, v.onward, b.inside, b.heights.equal))
        (λ k m e g h l. runs_together k m e (omega arith) h (omega arith)))
