-- The marks of a grid, read as one customer's own: they are what the settled jobs make them.
use mathlib.Core.Path.{◌≡◌, sym, ◌∙◌}
use mathlib.Core.Bool.{true, false, ◌&&◌, ◌||◌, or-false, and-eq-true_iff}
use mathlib.Core.List.{List, map}
use Prim.Native.Nat.{ℕ, ◌+◌, ◌*◌, ◌/◌, ◌%◌, ◌≤◌}
use native.Mathlib.Omega.{arith}
use lib.Dec.{leb, ltb, eqb}
use lib.ListN.{length, get_or, length-map}
use lib.Seq.{ext_get_or}
use borrow.Author.Tests.{leb-true, eqb-true, eqb-false}
use Rattle.order.proofs.Order.{by_test}
use Rattle.order.proofs.Lists.{map_at}
use Rattle.customers.specs.Customers.{own_mark}
use Rattle.customers.proofs.CustomerLaws.{own_bit, own_none}
use Rattle.campaign.specs.Grid.{Job, job_of, mark_of, settled, lawful_mark, lawful_marks}
use Rattle.campaign.proofs.Grid.{InGrid, in_grid}
use Rattle.campaign.proofs.MarkLaws.{mark_at}

-- Two numbers from 0 to 1, both 1 or neither.
same_bit : (x y : ℕ) → x ≤ 1 → y ≤ 1 → eqb x 1 ≡ eqb y 1 → x ≡ y
same_bit x y h k e =
    by_test (eqb x 1) (λ t. eqb-true x 1 t ∙ sym (eqb-true y 1 (sym e ∙ t)))
    (λ f.
    let x-none = eqb-false x 1 f in
    let y-none = eqb-false y 1 (sym e ∙ f) in
    omega (arith, x-none, y-none))

module _ (rows cols : ℕ) where
  module _ (customer : ℕ) where
    -- A customer's own of a lawful mark is 0 or 1, and 0 outside the jobs.
    own_lawful : (i m : ℕ) → lawful_mark rows cols i m ≡ true
        → (own_mark customer m ≤ 1) × ((ltb (i / 32) rows && ltb (i % 32) cols) ≡ false → own_mark customer m ≡ 0)
    unfolding lawful_mark
    own_lawful i m h =
        let inside = ltb (i / 32) rows && ltb (i % 32) cols in
        let w = (and-eq-true_iff (leb m 3) (eqb m 0 || inside)).0 h in (
          own_bit customer m (leb-true m 3 w.0),
          λ out. let none : m ≡ 0 = eqb-true m 0 (rw (out, or-false) at w.1) in rw none (own_none customer),
        )

    -- Two lawful marks of a place that tell the same of its job.
    same_mark : (i m m' : ℕ) → lawful_mark rows cols i m ≡ true → lawful_mark rows cols i m' ≡ true
        → (InGrid rows cols (job_of (i / 32) (i % 32)) → eqb (own_mark customer m) 1 ≡ eqb (own_mark customer m') 1)
        → own_mark customer m ≡ own_mark customer m'
    same_mark i m m' h h' tells =
        let u = own_lawful i m h in
        let v = own_lawful i m' h' in
        by_test (ltb (i / 32) rows && ltb (i % 32) cols)
        (λ t. same_bit _ _ u.0 v.0 (tells (in_grid rows cols (job_of (i / 32) (i % 32)) t)))
        (λ f. u.1 f ∙ sym (v.1 f))

    -- As many marks that tell the same jobs are the same.
    pub same_marks : (marks marks' : List ℕ) → lawful_marks rows cols 0 marks ≡ true
        → lawful_marks rows cols 0 marks' ≡ true
        → (let own = map (own_mark customer) marks in
        let own' = map (own_mark customer) marks' in
        length own ≡ length own' → ((j : Job) → InGrid rows cols j → settled own j ≡ settled own' j) → own ≡ own')
    unfolding settled mark_of
    same_marks marks marks' h h' size tells =
        let own : List ℕ → List ℕ = map (own_mark customer) in
        ext_get_or 0 (own marks) (own marks') size
        (λ i below.
        let at : get_or (own marks) i 0 ≡ own_mark customer (get_or marks i 0) =
        map_at (own_mark customer) marks i 0 0 (rw (length-map marks (own_mark customer)) at below) in
        let at' : get_or (own marks') i 0 ≡ own_mark customer (get_or marks' i 0) =
        map_at (own_mark customer) marks' i 0 0 (rw (size, length-map marks' (own_mark customer)) at below) in
        let here : 32 * (i / 32) + i % 32 ≡ i = omega arith in
        at
        ∙ same_mark i _ _ (mark_at rows cols 0 i i (omega arith) marks h) (mark_at rows cols 0 i i (omega arith) marks' h')
        (λ inside. rw (here, at, at') at (tells (job_of (i / 32) (i % 32)) inside))
        ∙ sym at')
