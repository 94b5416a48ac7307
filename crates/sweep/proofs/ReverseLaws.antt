-- Reverse Run: its steps; it finds the best K of all pairs that count.
use mathlib.Core.Path.{◌≡◌, refl, sym, ap, ◌∙◌}
use mathlib.Core.Bool.{Bool, true, false}
use mathlib.Core.List.Permᴰ
use mathlib.Core.List.{List, [], ◌∷◌, ◌++◌, map, append_assoc, append-nil, Permᴰ}
use Prim.Native.Nat.{ℕ}
use lib.ListN.{take, drop, take-append-drop}
use Rattle.order.specs.Lists.{keep, All}
use Rattle.order.specs.Terms.{Sorted}
use Rattle.order.proofs.Order.{by_test}
use Rattle.order.proofs.Lists.{all_weaken, all_take, all_drop, all_keep, keep_nil, keep_after, perm_keep}
use Rattle.order.proofs.Sorted.{sorted_take}
use Rattle.entry.specs.declared.Entry.{Entry}
use Rattle.entry.specs.Entry.{best_k}
use Rattle.sweep.specs.Strip.{product}
use Rattle.sweep.specs.Scan.{Candidate, State, beyond, scan}
use Rattle.sweep.specs.Sweep.{reverse_over}
use Rattle.sweep.proofs.ScanLaws.{best_k_perm, best_k_left, beyond_more, beyond_drop, all_zip, scan_best, scan_rest}
use Rattle.sweep.proofs.ProductLaws.{perm_append, perm_exchange, perm_past, product_nil, product_cons, product_nil_right, product_cons_right, product_append_left, product_append_right, all_product}
use Rattle.sweep.proofs.Geometry.{Geometry, leads_all, follows_all, row_widening_back, column_widening_back, row_bounding, column_bounding}

-- ---- one step

module _ {A B : Type 0} (leads : A → B → Bool) (look : A → B → Candidate) (counts : Entry → Bool) (k : ℕ) where
  pub reverse_nil : (u : List A) (v : List B) (s : State) → reverse_over leads look counts k [] [] u v s ≡ s
  unfolding reverse_over
  reverse_nil u v s = refl

  -- The reference is the first list's: it leads the second list's next, or there is none.
  pub reverse_first : (a : A) (p : List A) (b : B) (q : List B) (u : List A) (v : List B) (s : State) → leads a b ≡ true
      → reverse_over leads look counts k (a ∷ p) (b ∷ q) u v s
      ≡ reverse_over leads look counts k p (b ∷ q) (a ∷ u) (take (scan counts k (map (look a) v) s).passed v) (scan counts k (map (look a) v) s).state
  unfolding reverse_over
  reverse_first a p b q u v s h = rw h

  pub reverse_first_last : (a : A) (p : List A) (u : List A) (v : List B) (s : State)
      → reverse_over leads look counts k (a ∷ p) [] u v s
      ≡ reverse_over leads look counts k p [] (a ∷ u) (take (scan counts k (map (look a) v) s).passed v) (scan counts k (map (look a) v) s).state
  unfolding reverse_over
  reverse_first_last a p u v s = refl

  -- The reference is the second list's.
  pub reverse_second : (a : A) (p : List A) (b : B) (q : List B) (u : List A) (v : List B) (s : State) → leads a b ≡ false
      → reverse_over leads look counts k (a ∷ p) (b ∷ q) u v s
      ≡ reverse_over leads look counts k (a ∷ p) q (take (scan counts k (map (λ c. look c b) u) s).passed u) (b ∷ v) (scan counts k (map (λ c. look c b) u) s).state
  unfolding reverse_over
  reverse_second a p b q u v s h = rw h

  pub reverse_second_last : (b : B) (q : List B) (u : List A) (v : List B) (s : State)
      → reverse_over leads look counts k [] (b ∷ q) u v s
      ≡ reverse_over leads look counts k [] q (take (scan counts k (map (λ c. look c b) u) s).passed u) (b ∷ v) (scan counts k (map (λ c. look c b) u) s).state
  unfolding reverse_over
  reverse_second_last b q u v s = refl

-- ---- all of it

-- Pairs `x` offered and pairs `d` left out as beyond: with the rest `r` they are all the pairs `t`. Of all of them those
-- that count are taken.
step_best : (counts : Entry → Bool) (k : ℕ) (m x d r t : List Entry)
    → All (λ e. beyond k (best_k k (m ++ keep counts x)) e.distance ≡ true) d
    → Permᴰ t (x ++ (d ++ r)) → best_k k ((m ++ keep counts x) ++ keep counts r) ≡ best_k k (m ++ keep counts t)
step_best counts k m x d r t h p =
    let here = m ++ keep counts x in
    let left = all_keep counts (λ e. beyond k (best_k k here) e.distance ≡ true) d h in
    sym (best_k_left k (here ++ keep counts d) here (keep counts r) (beyond_drop k here (keep counts d) left))
    ∙ ap (best_k k) (keep_after counts here d r ∙ keep_after counts m x (d ++ r))
    ∙ sym (best_k_perm k (Permᴰ.append_left m (perm_keep counts p)))

-- The pairs of a step by parts.
first_parts : {C : Type 0} (u x w d c q : List C) → Permᴰ (u ++ ((x ++ (w ++ d)) ++ (c ++ q))) (x ++ (d ++ ((c ++ u) ++ (w ++ q))))
first_parts u x w d c q =
    simp append_assoc
    (Permᴰ.trans (perm_exchange u x (w ++ (d ++ (c ++ q))))
    (Permᴰ.append_left x
    (Permᴰ.trans (perm_past u d (w ++ (c ++ q)) (perm_exchange w d (c ++ q)))
    (Permᴰ.append_left d (perm_past u c (w ++ q) (perm_exchange w c q))))))

second_parts : {C : Type 0} (x u d v c q : List C) → Permᴰ ((x ++ (u ++ d)) ++ (v ++ (c ++ q))) (x ++ (d ++ (u ++ ((c ++ v) ++ q))))
second_parts x u d v c q =
    simp append_assoc
    (Permᴰ.append_left x
    (Permᴰ.trans (perm_exchange u d (v ++ (c ++ q)))
    (Permᴰ.append_left d (Permᴰ.append_left u (perm_exchange v c q)))))

module _ {A B : Type 0} {leftA : A → A → Bool} {left_b : B → B → Bool} {leads : A → B → Bool} {look : A → B → Candidate}
    (G : Geometry leftA left_b leads look) (counts : Entry → Bool) (k : ℕ) where
  -- The sites `u` and `v` are taken, latest first; `p` and `q` are still to come.
  record Taken (p : List A) (q : List B) (u : List A) (v : List B) : Type 0 where
    back_a : Sorted (λ a c. leftA c a) u
    back_b : Sorted (λ b d. left_b d b) v
    later_a : All (λ a. All (λ c. leftA c a ≡ false) p) u
    later_b : All (λ b. All (λ d. left_b d b ≡ false) q) v
    led : All (λ a. All (λ b. leads a b ≡ true) q) u
    followed : All (λ b. All (λ a. leads a b ≡ false) p) v

  take_first : (a : A) (p : List A) (q : List B) (u : List A) (v : List B) (n : ℕ) → Taken (a ∷ p) q u v → Sorted leftA (a ∷ p)
      → All (λ b. leads a b ≡ true) q → Taken p q (a ∷ u) (take n v)
  unfolding All Sorted
  take_first a p q u v n t s l = record {
    back_a = (all_weaken (λ x. All (λ c. leftA c x ≡ false) (a ∷ p)) (λ x. leftA a x ≡ false) (λ x h. h.0) u t.later_a, t.back_a);
    back_b = sorted_take (λ b d. left_b d b) n v t.back_b;
    later_a = (s.0, all_weaken (λ x. All (λ c. leftA c x ≡ false) (a ∷ p)) (λ x. All (λ c. leftA c x ≡ false) p) (λ x h. h.1) u t.later_a);
    later_b = all_take (λ b. All (λ d. left_b d b ≡ false) q) n v t.later_b;
    led = (l, t.led);
    followed =
        all_take (λ b. All (λ c. leads c b ≡ false) p) n v
        (all_weaken (λ b. All (λ c. leads c b ≡ false) (a ∷ p)) (λ b. All (λ c. leads c b ≡ false) p) (λ b h. h.1) v t.followed);
  }

  take_second : (p : List A) (b : B) (q : List B) (u : List A) (v : List B) (n : ℕ) → Taken p (b ∷ q) u v → Sorted left_b (b ∷ q)
      → All (λ a. leads a b ≡ false) p → Taken p q (take n u) (b ∷ v)
  unfolding All Sorted
  take_second p b q u v n t s l = record {
    back_a = sorted_take (λ a c. leftA c a) n u t.back_a;
    back_b = (all_weaken (λ x. All (λ d. left_b d x ≡ false) (b ∷ q)) (λ x. left_b b x ≡ false) (λ x h. h.0) v t.later_b, t.back_b);
    later_a = all_take (λ a. All (λ c. leftA c a ≡ false) p) n u t.later_a;
    later_b = (s.0, all_weaken (λ x. All (λ d. left_b d x ≡ false) (b ∷ q)) (λ x. All (λ d. left_b d x ≡ false) q) (λ x h. h.1) v t.later_b);
    led =
        all_take (λ a. All (λ d. leads a d ≡ true) q) n u
        (all_weaken (λ a. All (λ d. leads a d ≡ true) (b ∷ q)) (λ a. All (λ d. leads a d ≡ true) q) (λ a h. h.1) u t.led);
    followed = (l, t.followed);
  }

  abbrev weigh : A → B → Entry
  weigh a b = (look a b).entry

  -- What stands left of where a scan stopped is beyond for every later reference.
  rest_first : (a : A) (p : List A) (v : List B) (E : List Entry) → Sorted leftA (a ∷ p) → All (λ b. leads a b ≡ false) v
      → All (λ b. beyond k E (look a b).gap ≡ true) v → All (λ e. beyond k E e.distance ≡ true) (product weigh p v)
  unfolding Sorted
  rest_first a p v E s l h =
      all_product weigh (λ e. beyond k E e.distance ≡ true) p v
      (all_weaken (λ c. leftA c a ≡ false) (λ c. All (λ b. beyond k E (look c b).entry.distance ≡ true) v)
      (λ c n.
      all_zip (λ b. leads a b ≡ false) (λ b. beyond k E (look a b).gap ≡ true) (λ b. beyond k E (look c b).entry.distance ≡ true)
      (λ b f t. beyond_more k E (look c b).gap (look c b).entry.distance (G.bound c b)
      (beyond_more k E (look a b).gap (look c b).gap (G.follows_wider a c b b f n (G.still_b b)) t))
      v l h)
      p s.0)

  rest_second : (b : B) (q : List B) (u : List A) (E : List Entry) → Sorted left_b (b ∷ q) → All (λ a. leads a b ≡ true) u
      → All (λ a. beyond k E (look a b).gap ≡ true) u → All (λ e. beyond k E e.distance ≡ true) (product weigh u q)
  unfolding Sorted
  rest_second b q u E s l h =
      all_product weigh (λ e. beyond k E e.distance ≡ true) u q
      (all_zip (λ a. leads a b ≡ true) (λ a. beyond k E (look a b).gap ≡ true) (λ a. All (λ d. beyond k E (look a d).entry.distance ≡ true) q)
      (λ a f t.
      all_weaken (λ d. left_b d b ≡ false) (λ d. beyond k E (look a d).entry.distance ≡ true)
      (λ d n. beyond_more k E (look a d).gap (look a d).entry.distance (G.bound a d)
      (beyond_more k E (look a b).gap (look a d).gap (G.leads_wider a a b d f (G.still_a a) n) t))
      q s.0)
      u l h)

  -- All pairs still to come: of the sites taken with those to come, and of those to come.
  abbrev to_come : List A → List B → List A → List B → List Entry
  to_come p q u v = product weigh u q ++ (product weigh p v ++ product weigh p q)

  first_regroup : (a : A) (p : List A) (q : List B) (u : List A) (v : List B) (n : ℕ)
      → Permᴰ (to_come (a ∷ p) q u v) (map (weigh a) v ++ (product weigh p (drop n v) ++ to_come p q (a ∷ u) (take n v)))
  first_regroup a p q u v n =
      rw (product_cons weigh a p v, product_cons weigh a p q, product_cons weigh a u q)
      (Permᴰ.trans
      (Permᴰ.append_left (product weigh u q)
      (Permᴰ.append_right (map (weigh a) q ++ product weigh p q)
      (Permᴰ.append_left (map (weigh a) v) (rw take-append-drop at (product_append_right weigh p (take n v) (drop n v))))))
      (first_parts (product weigh u q) (map (weigh a) v) (product weigh p (take n v)) (product weigh p (drop n v)) (map (weigh a) q) (product weigh p q)))

  second_regroup : (p : List A) (b : B) (q : List B) (u : List A) (v : List B) (n : ℕ)
      → Permᴰ (to_come p (b ∷ q) u v) (map (λ a. weigh a b) u ++ (product weigh (drop n u) q ++ to_come p q (take n u) (b ∷ v)))
  second_regroup p b q u v n =
      let h : Permᴰ (product weigh u (b ∷ q)) (map (λ a. weigh a b) u ++ (product weigh (take n u) q ++ product weigh (drop n u) q))
      = rw (← product_append_left weigh (take n u) (drop n u) q, take-append-drop) (product_cons_right weigh u b q) in
      Permᴰ.trans
      (perm_append h
      (Permᴰ.append_left (product weigh p v) (product_cons_right weigh p b q)))
      (Permᴰ.trans
      (second_parts (map (λ a. weigh a b) u) (product weigh (take n u) q) (product weigh (drop n u) q) (product weigh p v) (map (λ a. weigh a b) p) (product weigh p q))
      (Permᴰ.append_left (map (λ a. weigh a b) u)
      (Permᴰ.append_left (product weigh (drop n u) q)
      (Permᴰ.append_left (product weigh (take n u) q) (Permᴰ.append_right (product weigh p q) (Permᴰ.symm (product_cons_right weigh p b v)))))))

  first_scan : (a : A) (p : List A) (q : List B) (u : List A) (v : List B) (s : State) (m : List Entry) → Taken (a ∷ p) q u v
      → s.entries ≡ best_k k m → (scan counts k (map (look a) v) s).state.entries ≡ best_k k (m ++ keep counts (map (weigh a) v))
  unfolding All
  first_scan a p q u v s m t e =
      scan_best (look a) counts k v s m
      (row_widening_back G a v (all_weaken (λ b. All (λ c. leads c b ≡ false) (a ∷ p)) (λ b. leads a b ≡ false) (λ b h. h.0) v t.followed) t.back_b)
      (row_bounding G a v) e

  first_step : (a : A) (p : List A) (q : List B) (u : List A) (v : List B) (s : State) (m : List Entry) → Taken (a ∷ p) q u v
      → Sorted leftA (a ∷ p) → s.entries ≡ best_k k m
      → best_k k ((m ++ keep counts (map (weigh a) v)) ++ keep counts (to_come p q (a ∷ u) (take (scan counts k (map (look a) v) s).passed v)))
      ≡ best_k k (m ++ keep counts (to_come (a ∷ p) q u v))
  unfolding All
  first_step a p q u v s m t o e =
      let n : ℕ = (scan counts k (map (look a) v) s).passed in
      let f : All (λ b. leads a b ≡ false) v
      = all_weaken (λ b. All (λ c. leads c b ≡ false) (a ∷ p)) (λ b. leads a b ≡ false) (λ b h. h.0) v t.followed in
      let r : All (λ b. beyond k (best_k k (m ++ keep counts (map (weigh a) v))) (look a b).gap ≡ true) (drop n v)
      = rw (first_scan a p q u v s m t e) at (scan_rest (look a) counts k v s (row_widening_back G a v f t.back_b)) in
      step_best counts k m (map (weigh a) v) (product weigh p (drop n v)) (to_come p q (a ∷ u) (take n v)) (to_come (a ∷ p) q u v)
      (rest_first a p (drop n v) (best_k k (m ++ keep counts (map (weigh a) v))) o (all_drop (λ b. leads a b ≡ false) n v f) r)
      (first_regroup a p q u v n)

  second_scan : (p : List A) (b : B) (q : List B) (u : List A) (v : List B) (s : State) (m : List Entry) → Taken p (b ∷ q) u v
      → s.entries ≡ best_k k m → (scan counts k (map (λ a. look a b) u) s).state.entries ≡ best_k k (m ++ keep counts (map (λ a. weigh a b) u))
  unfolding All
  second_scan p b q u v s m t e =
      scan_best (λ a. look a b) counts k u s m
      (column_widening_back G b u (all_weaken (λ a. All (λ d. leads a d ≡ true) (b ∷ q)) (λ a. leads a b ≡ true) (λ a h. h.0) u t.led) t.back_a)
      (column_bounding G b u) e

  second_step : (p : List A) (b : B) (q : List B) (u : List A) (v : List B) (s : State) (m : List Entry) → Taken p (b ∷ q) u v
      → Sorted left_b (b ∷ q) → s.entries ≡ best_k k m
      → best_k k ((m ++ keep counts (map (λ a. weigh a b) u)) ++ keep counts (to_come p q (take (scan counts k (map (λ a. look a b) u) s).passed u) (b ∷ v)))
      ≡ best_k k (m ++ keep counts (to_come p (b ∷ q) u v))
  unfolding All
  second_step p b q u v s m t o e =
      let n : ℕ = (scan counts k (map (λ a. look a b) u) s).passed in
      let f : All (λ a. leads a b ≡ true) u
      = all_weaken (λ a. All (λ d. leads a d ≡ true) (b ∷ q)) (λ a. leads a b ≡ true) (λ a h. h.0) u t.led in
      let r : All (λ a. beyond k (best_k k (m ++ keep counts (map (λ a. weigh a b) u))) (look a b).gap ≡ true) (drop n u)
      = rw (second_scan p b q u v s m t e) at (scan_rest (λ a. look a b) counts k u s (column_widening_back G b u f t.back_a)) in
      step_best counts k m (map (λ a. weigh a b) u) (product weigh (drop n u) q) (to_come p q (take n u) (b ∷ v)) (to_come p (b ∷ q) u v)
      (rest_second b q (drop n u) (best_k k (m ++ keep counts (map (λ a. weigh a b) u))) o (all_drop (λ a. leads a b ≡ true) n u f) r)
      (second_regroup p b q u v n)

  reverse_from : (p : List A) (q : List B) (u : List A) (v : List B) (s : State) (m : List Entry) → Sorted leftA p → Sorted left_b q
      → Taken p q u v → s.entries ≡ best_k k m → (reverse_over leads look counts k p q u v s).entries ≡ best_k k (m ++ keep counts (to_come p q u v))
  unfolding reverse_over Sorted All
  reverse_from [] [] u v s m sp sq t e = rw (product_nil_right weigh u, product_nil weigh v, product_nil weigh [], keep_nil counts, append-nil) e
  reverse_from [] (b ∷ q) u v s m sp sq t e =
      let r = scan counts k (map (λ c. look c b) u) s in
      reverse_from [] q (take r.passed u) (b ∷ v) r.state (m ++ keep counts (map (λ a. weigh a b) u)) sp sq.1
      (take_second [] b q u v r.passed t sq tt) (second_scan [] b q u v s m t e)
      ∙ second_step [] b q u v s m t sq e
  reverse_from (a ∷ p) [] u v s m sp sq t e =
      let r = scan counts k (map (look a) v) s in
      reverse_from p [] (a ∷ u) (take r.passed v) r.state (m ++ keep counts (map (weigh a) v)) sp.1 sq
      (take_first a p [] u v r.passed t sp tt) (first_scan a p [] u v s m t e)
      ∙ first_step a p [] u v s m t sp e
  reverse_from (a ∷ p) (b ∷ q) u v s m sp sq t e =
      by_test (leads a b)
      (λ h. rw h
      (let r = scan counts k (map (look a) v) s in
      reverse_from p (b ∷ q) (a ∷ u) (take r.passed v) r.state (m ++ keep counts (map (weigh a) v)) sp.1 sq
      (take_first a p (b ∷ q) u v r.passed t sp (leads_all G a b q h sq)) (first_scan a p (b ∷ q) u v s m t e)
      ∙ first_step a p (b ∷ q) u v s m t sp e))
      (λ h. rw h
      (let r = scan counts k (map (λ c. look c b) u) s in
      reverse_from (a ∷ p) q (take r.passed u) (b ∷ v) r.state (m ++ keep counts (map (λ a. weigh a b) u)) sp sq.1
      (take_second (a ∷ p) b q u v r.passed t sq (follows_all G a b p h sp)) (second_scan (a ∷ p) b q u v s m t e)
      ∙ second_step (a ∷ p) b q u v s m t sq e))

  pub reverse_best : (p : List A) (q : List B) (s : State) (m : List Entry) → Sorted leftA p → Sorted left_b q → s.entries ≡ best_k k m
      → (reverse_over leads look counts k p q [] [] s).entries ≡ best_k k (m ++ keep counts (product (λ a b. (look a b).entry) p q))
  unfolding Sorted All
  reverse_best p q s m sp sq e =
      rw (product_nil weigh q, product_nil_right weigh p) at
      (reverse_from p q [] [] s m sp sq (record { back_a = tt; back_b = tt; later_a = tt; later_b = tt; led = tt; followed = tt }) e)
