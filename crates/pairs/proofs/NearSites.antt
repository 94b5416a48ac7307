-- One row of a distance list: a reference, its run, and the near sites in it.
use Rattle.std.proofs.Common.{◌≡◌, ℕ, zero, suc, ◌+◌, ◌-◌, ◌<◌, ◌≤◌, Bool, true, false, List, [], ◌∷◌, ◌++◌, length, get_or, ℤ, pos, sym, refl, ap, ◌∙◌, ap₂, append-nil, arith}
use Rattle.order.proofs.Lists.{keep_append, keep_yes, keep_no, keep_nil}
use Rattle.site.specs.Site.{within, square}
use Rattle.site.specs.Terms.{Coordinates}
use Rattle.site.proofs.Accepted.{coordinate_x}
use Rattle.sweep.specs.Strip.{Placed}
use Rattle.sweep.specs.Terms.{spot}
use Rattle.sweep.proofs.SiteRuns.{rightward_nil, rightward_cons, rightward_join}
use Rattle.pairs.specs.declared.Run.{Run}
use Rattle.pairs.specs.Internal.{RunOf, near, near_sites}
use Rattle.pairs.proofs.Offset.{far_left, far_right, far, run_ends}

module _ (limit : ℕ) (x y h : ℤ) (xs ys hs : List ℤ) where
  -- The test of a site, and of the site at a place.
  abbrev test : Placed → Bool
  test o = near limit x y h o.site

  abbrev test_at : ℕ → Bool
  test_at k = near limit x y h (spot xs ys hs k).site

  -- The near sites between two places.
  abbrev between : ℕ → ℕ → List Placed
  between from to = near_sites limit x y h xs ys hs from to

  pub near_none : (from to : ℕ) → to ≤ from → between from to ≡ []
  unfolding near_sites
  near_none from to e = rw (rightward_nil xs ys hs from to e) (keep_nil test)

  -- Where no place is left, what is counted is all.
  pub near_ends : {from to count all : ℕ} → to ≤ from → count + length (between from to) ≡ all → count ≡ all
  near_ends {from} {to} h e = omega (arith, e, ap length (near_none from to h))

  -- One place after another.
  module _ (from to : ℕ) (some : from < to) {b : Bool} (e : b ≡ test_at from) where
    pub near_yes : b ≡ true → between from to ≡ spot xs ys hs from ∷ between (from + 1) to
    unfolding near_sites spot
    near_yes p = rw (rightward_cons xs ys hs from to some) (keep_yes test (spot xs ys hs from) _ (sym e ∙ p))

    pub near_no : b ≡ false → between from to ≡ between (from + 1) to
    unfolding near_sites spot
    near_no p = rw (rightward_cons xs ys hs from to some) (keep_no test (spot xs ys hs from) _ (sym e ∙ p))

  -- Two parts that meet.
  near_join : (from mid to : ℕ) → from ≤ mid → mid ≤ to → between from to ≡ between from mid ++ between mid to
  unfolding near_sites
  near_join from mid to f g = rw (rightward_join xs ys hs f g) (keep_append test _ _)

  -- Places of which none is near.
  near_far : (n from : ℕ) → ((k : ℕ) → from ≤ k → k < from + n → test_at k ≡ false) → between from (from + n) ≡ []
  near_far zero from none = near_none from (from + 0) (omega arith)
  near_far (suc n) from none =
      let u : from + suc n ≡ (from + 1) + n = omega arith in
      near_no from (from + suc n) (omega arith) refl (none from (omega arith) (omega arith))
      ∙ ap (between (from + 1)) u
      ∙ near_far n (from + 1) (λ k p q. none k (omega arith) (omega arith))

  far_between : (from to : ℕ) → from ≤ to → ((k : ℕ) → from ≤ k → k < to → test_at k ≡ false) → between from to ≡ []
  far_between from to f g =
      let u : from + (to - from) ≡ to = omega arith in
      rw u at (near_far (to - from) from (λ k p q. g k p (omega arith)))

  -- All near sites stand from place `f` up to place `t` where no other is near.
  near_part : (f t : ℕ) → f ≤ t → t ≤ length xs → ((k : ℕ) → k < f → test_at k ≡ false)
      → ((k : ℕ) → t ≤ k → k < length xs → test_at k ≡ false) → between 0 (length xs) ≡ between f t
  near_part f t up g before after =
      near_join 0 f (length xs) (omega arith) (omega arith)
      ∙ ap₂ (λ (l m : List Placed). l ++ m) (far_between 0 f (omega arith) (λ k p q. before k q))
      (near_join f t (length xs) up g ∙ ap (λ (l : List Placed). between f t ++ l) (far_between t (length xs) g after))
      ∙ append-nil (between f t)

-- All near sites of the list are in a reference's run.
module _ {ax bx by : List ℤ} {e i : ℕ} {run : Run} (c : Coordinates bx by) (r : RunOf ax bx e i run) where
  pub row_run : (y h : ℤ) (bh : List ℤ) → within (get_or ax i (pos 0)) ≡ true
      → near_sites (square e) (get_or ax i (pos 0)) y h bx by bh 0 (length bx)
      ≡ near_sites (square e) (get_or ax i (pos 0)) y h bx by bh run.left run.right
  unfolding spot
  row_run y h bh inside =
      let x = get_or ax i (pos 0) in
      near_part (square e) x y h bx by bh run.left run.right (run_ends r) r.behind.right
      (λ k p.
      let below : k < length bx = omega (arith, r.behind.left) in
      far x y h _ e (far_left x (get_or bx k (pos 0)) e inside (coordinate_x c k below) (r.behind.below k p)))
      (λ k p q. far x y h _ e (far_right x (get_or bx k (pos 0)) e inside (coordinate_x c k q) (r.above k p q)))
