-- One visit by its cases, the whole join as one visit of halves that are joined whole, and what holds of it.
use mathlib.Core.Path.{◌≡◌, refl, sym, ap, ◌∙◌}
use mathlib.Core.Bool.{Bool, true, false}
use mathlib.Core.Logic.{◌⊎◌, inl, inr, ⊎_elim}
use mathlib.Core.List.{List, [], ◌∷◌, ◌++◌}
use Prim.Native.Nat.{ℕ, zero, suc, ◌+◌, ◌-◌, ◌/◌, ◌≤◌, ◌<◌}
use native.Mathlib.Omega.{arith}
use lib.Dec.{leb, ltb, eqb}
use lib.ListN.{length, drop, take-append-drop, length-take, length-drop}
use borrow.Author.Tests.{leb-true, leb-false, eqb-true, eqb-false, le-leb, lt-leb, eq-eqb, ne_eqb}
use Rattle.order.proofs.Order.{by_test}
use Rattle.entry.specs.declared.Entry.{Entry}
use Rattle.sweep.specs.Scan.{beyond, taken}
use Rattle.halves.specs.Halves.{Visited, visited, lower, upper, sooner, later, expand, visit, visit_to, halves_over}

-- ---- the halves of a range

-- `x` and `y` are a list's two parts, in either order, neither empty.
pub record Parts {A : Type 0} (l x y : List A) : Type 0 where
  pub either : (l ≡ x ++ y) ⊎ (l ≡ y ++ x)
  pub lengths : length x + length y ≡ length l
  pub some : 0 < length x
  pub others : 0 < length y

module _ {A : Type 0} where
  pub length_lower : (l : List A) → length (lower l) ≡ length l / 2
  unfolding lower
  length_lower l = simp length-take (omega arith)

  pub length_upper : (l : List A) → length (upper l) ≡ length l - length l / 2
  unfolding upper
  length_upper l = length-drop (length l / 2) l

  halves_join : (l : List A) → lower l ++ upper l ≡ l
  unfolding lower upper
  halves_join l = take-append-drop (length l / 2) l

  pub in_turn_lem : (gap : List A → ℕ) (l : List A) → 2 ≤ length l → Parts l (sooner gap l) (later gap l)
  unfolding sooner later
  in_turn_lem gap l two =
      let m = length_lower l in
      let n = length_upper l in
      by_test (ltb (gap (upper l)) (gap (lower l)))
      (λ t. rw t (record { either = inr (sym (halves_join l)); lengths = omega arith; some = omega arith; others = omega arith }))
      (λ f. rw f (record { either = inl (sym (halves_join l)); lengths = omega arith; some = omega arith; others = omega arith }))

module _ {A B : Type 0} (gap : List A → List B → ℕ) (pair : A → B → Entry) (counts : Entry → Bool) (k : ℕ) where
  -- ---- one visit

  abbrev Visit : Type 0
  Visit = List A → List B → Visited → Visited

  -- A range pair more is visited.
  abbrev pub passed : Visited → Visited
  passed s = visited s.entries (suc s.range_pairs)

  -- A pair is offered.
  abbrev pub offered : A → B → Visited → Visited
  offered a b s = visited (taken counts k (pair a b) s.entries) s.range_pairs

  module _ (on : Visit) (a : A) (p : List A) (b : B) (q : List B) (s : Visited) where
    visit_drop : beyond k s.entries (gap (a ∷ p) (b ∷ q)) ≡ true → visit gap pair counts k on (a ∷ p) (b ∷ q) s ≡ passed s
    unfolding visit
    visit_drop t = rw t

    visit_keep : beyond k s.entries (gap (a ∷ p) (b ∷ q)) ≡ false
        → visit gap pair counts k on (a ∷ p) (b ∷ q) s ≡ expand gap pair counts k on (a ∷ p) (b ∷ q) (passed s)
    unfolding visit
    visit_keep f = rw f

    expand_single : length p + length q ≡ 0 → expand gap pair counts k on (a ∷ p) (b ∷ q) s ≡ offered a b s
    unfolding expand
    expand_single e = rw (eq-eqb (length p + length q) 0 e)

    expand_first : 0 < length p + length q → length q ≤ length p
        → let g : List A → ℕ = λ half. gap half (b ∷ q) in
        expand gap pair counts k on (a ∷ p) (b ∷ q) s ≡ on (later g (a ∷ p)) (b ∷ q) (on (sooner g (a ∷ p)) (b ∷ q) s)
    unfolding expand
    expand_first more long =
        rw (ne_eqb (length p + length q) 0 (omega arith), le-leb (length (b ∷ q)) (length (a ∷ p)) (omega arith))

    expand_second : length p < length q
        → let g : List B → ℕ = λ half. gap (a ∷ p) half in
        expand gap pair counts k on (a ∷ p) (b ∷ q) s ≡ on (a ∷ p) (later g (b ∷ q)) (on (a ∷ p) (sooner g (b ∷ q)) s)
    unfolding expand
    expand_second long =
        rw (ne_eqb (length p + length q) 0 (omega arith), lt-leb (length (b ∷ q)) (length (a ∷ p)) (omega arith))

  single_list : {C : Type 0} (c : C) (l : List C) → length l ≡ 0 → c ∷ l ≡ c ∷ []
  single_list c [] h = refl
  single_list c (d ∷ l) h = absurd (omega arith)

  -- The cases of a visit, whatever visits the halves.
  pub visit_cases : {P : Type 0} (p : List A) (q : List B) (s : Visited)
      → (((on : Visit) → visit gap pair counts k on p q s ≡ s) → (length p ≡ 0) ⊎ (length q ≡ 0) → P)
      → (((on : Visit) → visit gap pair counts k on p q s ≡ passed s) → 0 < length p → 0 < length q → beyond k s.entries (gap p q) ≡ true → P)
      → ((a : A) (b : B) → ((on : Visit) → visit gap pair counts k on p q s ≡ offered a b (passed s)) → p ≡ a ∷ [] → q ≡ b ∷ [] → P)
      → ((x y : List A) → ((on : Visit) → visit gap pair counts k on p q s ≡ on y q (on x q (passed s))) → Parts p x y → 0 < length q → P)
      → ((x y : List B) → ((on : Visit) → visit gap pair counts k on p q s ≡ on p y (on p x (passed s))) → 0 < length p → Parts q x y → P)
      → P
  unfolding visit
  visit_cases [] q s none drop single first second = none (λ on. refl) (inl refl)
  visit_cases (a ∷ p) [] s none drop single first second = none (λ on. refl) (inr refl)
  visit_cases (a ∷ p) (b ∷ q) s none drop single first second =
      by_test (beyond k s.entries (gap (a ∷ p) (b ∷ q)))
      (λ t. drop (λ on. visit_drop on a p b q s t) (omega arith) (omega arith) t)
      (λ f.
      by_test (eqb (length p + length q) 0)
      (λ e.
      let alone = eqb-true (length p + length q) 0 e in
      single a b (λ on. visit_keep on a p b q s f ∙ expand_single on a p b q (passed s) alone) (single_list a p (omega arith)) (single_list b q (omega arith)))
      (λ e.
      let more : 0 < length p + length q = omega (arith, eqb-false (length p + length q) 0 e) in
      by_test (leb (length q) (length p))
      (λ h.
      let long = leb-true (length q) (length p) h in
      first _ _ (λ on. visit_keep on a p b q s f ∙ expand_first on a p b q (passed s) more long) (in_turn_lem _ (a ∷ p) (omega arith)) (omega arith))
      (λ h.
      let long = leb-false (length q) (length p) h in
      second _ _ (λ on. visit_keep on a p b q s f ∙ expand_second on a p b q (passed s) long) (omega arith) (in_turn_lem _ (b ∷ q) (omega arith)))))

  -- ---- the whole join

  -- Two that visit smaller ranges alike make one visit alike.
  visit_agree : (on on' : Visit) (p : List A) (q : List B) (s : Visited)
      → ((x : List A) (y : List B) (t : Visited) → length x + length y < length p + length q → on x y t ≡ on' x y t)
      → visit gap pair counts k on p q s ≡ visit gap pair counts k on' p q s
  visit_agree on on' p q s same =
      visit_cases p q s
      (λ is none. is on ∙ sym (is on'))
      (λ is some others t. is on ∙ sym (is on'))
      (λ a b is isP isQ. is on ∙ sym (is on'))
      (λ x y is parts some.
      let e = same x q (passed s) (omega (arith, parts.lengths, parts.others)) in
      is on ∙ same y q (on x q (passed s)) (omega (arith, parts.lengths, parts.some)) ∙ ap (on' y q) e ∙ sym (is on'))
      (λ x y is some parts.
      let e = same p x (passed s) (omega (arith, parts.lengths, parts.others)) in
      is on ∙ same p y (on p x (passed s)) (omega (arith, parts.lengths, parts.some)) ∙ ap (on' p y) e ∙ sym (is on'))

  -- Any depth is as good as another that is enough.
  enough : (d d' : ℕ) (p : List A) (q : List B) (s : Visited) → length p + length q ≤ d → length p + length q ≤ d'
      → visit_to gap pair counts k d p q s ≡ visit_to gap pair counts k d' p q s
  unfolding visit_to visit
  enough zero zero p q s h g = refl
  enough zero (suc d') [] q s h g = refl
  enough zero (suc d') (a ∷ p) q s h g = absurd (omega arith)
  enough (suc d) zero [] q s h g = refl
  enough (suc d) zero (a ∷ p) q s h g = absurd (omega arith)
  enough (suc d) (suc d') p q s h g =
      visit_agree (visit_to gap pair counts k d) (visit_to gap pair counts k d') p q s
      (λ x y t less. enough d d' x y t (omega arith) (omega arith))

  -- The whole join is one visit, with the halves joined whole.
  pub halves_step : (p : List A) (q : List B) (s : Visited)
      → halves_over gap pair counts k p q s ≡ visit gap pair counts k (halves_over gap pair counts k) p q s
  unfolding halves_over visit_to
  halves_step p q s =
      let n = length p + length q in
      enough n (suc n) p q s (omega arith) (omega arith)
      ∙ visit_agree (visit_to gap pair counts k n) (halves_over gap pair counts k) p q s
      (λ x y t less. enough n (length x + length y) x y t (omega arith) (omega arith))

  -- There is nothing to visit, or it is dropped, offered or split.
  pub halves_none : (p : List A) (q : List B) (s : Visited) → (length p ≡ 0) ⊎ (length q ≡ 0) → halves_over gap pair counts k p q s ≡ s
  unfolding visit
  halves_none [] q s h = halves_step [] q s
  halves_none (a ∷ p) [] s h = halves_step (a ∷ p) [] s
  halves_none (a ∷ p) (b ∷ q) s h = absurd (⊎_elim (λ e. omega arith) (λ e. omega arith) h)

  pub halves_drop : (p : List A) (q : List B) (s : Visited) → 0 < length p → 0 < length q → beyond k s.entries (gap p q) ≡ true
      → halves_over gap pair counts k p q s ≡ passed s
  halves_drop [] q s h g t = absurd (omega arith)
  halves_drop (a ∷ p) [] s h g t = absurd (omega arith)
  halves_drop (a ∷ p) (b ∷ q) s h g t = halves_step (a ∷ p) (b ∷ q) s ∙ visit_drop (halves_over gap pair counts k) a p b q s t

  pub halves_keep : (p : List A) (q : List B) (s : Visited) → 0 < length p → 0 < length q → beyond k s.entries (gap p q) ≡ false
      → halves_over gap pair counts k p q s ≡ expand gap pair counts k (halves_over gap pair counts k) p q (passed s)
  halves_keep [] q s h g f = absurd (omega arith)
  halves_keep (a ∷ p) [] s h g f = absurd (omega arith)
  halves_keep (a ∷ p) (b ∷ q) s h g f = halves_step (a ∷ p) (b ∷ q) s ∙ visit_keep (halves_over gap pair counts k) a p b q s f

  -- One that is kept is offered or split.
  module _ (on : Visit) where
    pub keep_single : (a : A) (b : B) (s : Visited) → expand gap pair counts k on (a ∷ []) (b ∷ []) s ≡ offered a b s
    keep_single a b s = expand_single on a [] b [] s refl

    pub keep_first : (p : List A) (q : List B) (s : Visited) → 0 < length q → length q ≤ length p → 2 < length p + length q
        → let g : List A → ℕ = λ half. gap half q in
        expand gap pair counts k on p q s ≡ on (later g p) q (on (sooner g p) q s)
    keep_first [] q s h long more = absurd (omega arith)
    keep_first (a ∷ p) [] s h long more = absurd (omega arith)
    keep_first (a ∷ p) (b ∷ q) s h long more = expand_first on a p b q s (omega arith) (omega arith)

    pub keep_second : (p : List A) (q : List B) (s : Visited) → 0 < length p → length p < length q
        → let g : List B → ℕ = λ half. gap p half in
        expand gap pair counts k on p q s ≡ on p (later g q) (on p (sooner g q) s)
    keep_second [] q s h long = absurd (omega arith)
    keep_second (a ∷ p) [] s h long = absurd (omega arith)
    keep_second (a ∷ p) (b ∷ q) s h long = expand_second on a p b q s (omega arith)

  -- ---- what holds of every join

  -- What holds of each case of a visit, and of a split once it holds of both halves.
  pub record Closed (P : List A → List B → Visited → Visited → Type 0) : Type 0 where
    pub none : (p : List A) (q : List B) (s : Visited) → (length p ≡ 0) ⊎ (length q ≡ 0) → P p q s s
    pub dropped : (p : List A) (q : List B) (s : Visited) → 0 < length p → 0 < length q → beyond k s.entries (gap p q) ≡ true
        → P p q s (passed s)
    pub single : (a : A) (b : B) (s : Visited) → P (a ∷ []) (b ∷ []) s (offered a b (passed s))
    pub first : (p x y : List A) (q : List B) (s t u : Visited) → Parts p x y → 0 < length q
        → P x q (passed s) t → P y q t u → P p q s u
    pub second : (p : List A) (q x y : List B) (s t u : Visited) → 0 < length p → Parts q x y
        → P p x (passed s) t → P p y t u → P p q s u

  module _ (P : List A → List B → Visited → Visited → Type 0) (closed : Closed P) where
    abbrev Holds : List A → List B → Visited → Type 0
    Holds p q s = P p q s (halves_over gap pair counts k p q s)

    holds_to : (n : ℕ) (p : List A) (q : List B) (s : Visited) → length p + length q < n → Holds p q s
    holds_to zero p q s h = absurd (omega arith)
    holds_to (suc n) p q s h =
        rw (halves_step p q s)
        (visit_cases p q s
        (λ is none. rw (is _) (closed.none p q s none))
        (λ is some others t. rw (is _) (closed.dropped p q s some others t))
        (λ a b is isP isQ. rw (is _, isP, isQ) (closed.single a b s))
        (λ x y is parts some.
        rw (is _)
        (closed.first p x y q s _ _ parts some (holds_to n x q (passed s) (omega (arith, parts.lengths, parts.others)))
        (holds_to n y q _ (omega (arith, parts.lengths, parts.some)))))
        (λ x y is some parts.
        rw (is _)
        (closed.second p q x y s _ _ some parts (holds_to n p x (passed s) (omega (arith, parts.lengths, parts.others)))
        (holds_to n p y _ (omega (arith, parts.lengths, parts.some))))))

    pub halves_hold : (p : List A) (q : List B) (s : Visited) → P p q s (halves_over gap pair counts k p q s)
    halves_hold p q s = holds_to (suc (length p + length q)) p q s (omega arith)
