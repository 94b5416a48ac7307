-- Laws of the two customers' own: what is written as one of them, and what the other's is then.
use mathlib.Core.Path.{◌≡◌, refl, sym, ap, ap₂, ◌∙◌}
use mathlib.Core.Bool.{true, not}
use mathlib.Core.List.{List, [], ◌∷◌, map}
use Prim.Native.Nat.{ℕ, zero, suc, ◌≤◌, min}
use native.Mathlib.Omega.{arith}
use lib.Dec.{eqb}
use lib.ListN.{length, get_or, set, replicate, length-map}
use lib.Seq.{map-set_same}
use borrow.Author.Tests.{eqb-true}
use Rattle.order.proofs.Order.{by_test}
use Rattle.customers.specs.declared.Campaign.{Campaign}
use Rattle.customers.specs.declared.Grid.{Grid}
use Rattle.customers.specs.Customers.{is_customer, own, own_mark, with_own, cleared, settled_at, campaign_of, campaign_as, with_campaign, lowered}

-- ---- any list

pub map_set : {A B : Type 0} (f : A → B) (l : List A) (i : ℕ) (a : A) → map f (set l i a) ≡ set (map f l) i (f a)
map_set f [] i a = refl
map_set f (x ∷ l) zero a = refl
map_set {B = B} f (x ∷ l) (suc i) a = ap (λ (r : List B). f x ∷ r) (map_set f l i a)

-- ---- two customers

-- Of the two numbers exactly one is the first customer's.
abbrev pub Other : ℕ → ℕ → Type 0
Other customer other = eqb other 1 ≡ not (eqb customer 1)

pub two_customers_lem : (customer other : ℕ) → is_customer customer ≡ true → is_customer other ≡ true → (other ≡ customer → ⊥)
    → Other customer other
unfolding is_customer
two_customers_lem customer other c o apart =
    by_test (eqb customer 1)
    (λ t. by_test (eqb other 1) (λ t'. absurd (apart (eqb-true other 1 t' ∙ sym (eqb-true customer 1 t)))) (λ f'. rw (t, f')))
    (λ f.
    by_test (eqb other 1) (λ t'. rw (f, t'))
    (λ f'. absurd (apart (eqb-true other 2 (rw f' at o) ∙ sym (eqb-true customer 2 (rw f at c))))))

module _ {A : Type 0} (customer : ℕ) where
  -- A customer's own, written anew.
  pub own_own : (mine first second : A) → own customer (own customer mine first) (own customer second mine) ≡ mine
  own_own mine first second = by_test (eqb customer 1) (λ t. rw t) (λ f. rw f)

  -- The other's stays.
  pub own_kept : (other : ℕ) → Other customer other → (mine first second : A)
      → own other (own customer mine first) (own customer second mine) ≡ own other first second
  own_kept other o mine first second = rw o (by_test (eqb customer 1) (λ t. rw t) (λ f. rw f))

-- ---- one campaign

-- A campaign with another K, entry count and marks; its ends stay.
abbrev pub renewed : Campaign → ℕ → ℕ → List ℕ → Campaign
renewed c k entries marks = campaign_of k entries c.first_strips c.second_strips c.first_ends c.second_ends marks

-- Lowered to K.
abbrev pub lowered_campaign : Campaign → ℕ → Campaign
lowered_campaign c k = renewed c k (min k c.entries) c.marks

-- ---- one mark

module _ (customer : ℕ) where
  pub own_mark_lem : (mine mark : ℕ) → mine ≤ 1 → own_mark customer (with_own customer mine mark) ≡ mine
  unfolding own_mark with_own
  own_mark_lem mine mark h = by_test (eqb customer 1) (λ t. rw t (omega arith)) (λ f. rw f (omega arith))

  pub other_mark : (other mine mark : ℕ) → Other customer other → mine ≤ 1
      → own_mark other (with_own customer mine mark) ≡ own_mark other mark
  unfolding own_mark with_own
  other_mark other mine mark o h = rw o (by_test (eqb customer 1) (λ t. rw t (omega arith)) (λ f. rw f (omega arith)))

  -- A customer's own of a mark from 0 to 3 is 0 or 1, and of 0 it is 0.
  pub own_bit : (mark : ℕ) → mark ≤ 3 → own_mark customer mark ≤ 1
  unfolding own_mark
  own_bit mark h = by_test (eqb customer 1) (λ t. rw t (omega arith)) (λ f. rw f (omega arith))

  pub own_none : own_mark customer 0 ≡ 0
  unfolding own_mark
  own_none = by_test (eqb customer 1) (λ t. rw t) (λ f. rw f)

  pub own_most : (mine mark : ℕ) → mine ≤ 1 → mark ≤ 3 → with_own customer mine mark ≤ 3
  unfolding with_own
  own_most mine mark h m = by_test (eqb customer 1) (λ t. rw t (omega arith)) (λ f. rw f (omega arith))

  pub own_zero : with_own customer 0 0 ≡ 0
  unfolding with_own
  own_zero = by_test (eqb customer 1) (λ t. rw t) (λ f. rw f)

  -- ---- all marks

  pub own_cleared : (marks : List ℕ) → map (own_mark customer) (cleared customer marks) ≡ replicate (length marks) 0
  unfolding cleared
  own_cleared [] = refl
  own_cleared (m ∷ l) = ap₂ (λ (x : ℕ) (r : List ℕ). x ∷ r) (own_mark_lem 0 m (omega arith)) (own_cleared l)

  pub other_cleared : (other : ℕ) (marks : List ℕ) → Other customer other
      → map (own_mark other) (cleared customer marks) ≡ map (own_mark other) marks
  unfolding cleared
  other_cleared other [] o = refl
  other_cleared other (m ∷ l) o =
      ap₂ (λ (x : ℕ) (r : List ℕ). x ∷ r) (other_mark other 0 m o (omega arith)) (other_cleared other l o)

  pub own_settled : (marks : List ℕ) (n : ℕ) → map (own_mark customer) (settled_at customer marks n) ≡ set (map (own_mark customer) marks) n 1
  unfolding settled_at
  own_settled marks n =
      map_set (own_mark customer) marks n _ ∙ ap (set (map (own_mark customer) marks) n) (own_mark_lem 1 (get_or marks n 0) (omega arith))

  pub other_settled : (other : ℕ) (marks : List ℕ) (n : ℕ) → Other customer other
      → map (own_mark other) (settled_at customer marks n) ≡ map (own_mark other) marks
  unfolding settled_at
  other_settled other marks n o =
      map-set_same (own_mark other) marks n _ 0 (other_mark other 1 (get_or marks n 0) o (omega arith))

  -- ---- the campaigns on a grid

  module _ (g : Grid) where
    pub own_size : length (campaign_as customer g).marks ≡ length g.marks
    unfolding campaign_as
    own_size = length-map g.marks (own_mark customer)

    -- Written with another campaign of a customer, ..
    pub with_own_lem : (k entries : ℕ) (marks : List ℕ)
        → campaign_as customer (with_campaign customer k entries marks g) ≡ renewed (campaign_as customer g) k entries (map (own_mark customer) marks)
    unfolding campaign_as with_campaign
    with_own_lem k entries marks = rw (own_own customer k g.k1 g.k2, own_own customer entries g.entries1 g.entries2)

    -- .. the other's stays if the other's marks do.
    pub with_other : (other k entries : ℕ) (marks : List ℕ) → Other customer other → map (own_mark other) marks ≡ map (own_mark other) g.marks
        → campaign_as other (with_campaign customer k entries marks g) ≡ campaign_as other g
    unfolding campaign_as with_campaign
    with_other other k entries marks o e =
        rw (e, own_kept customer other o k g.k1 g.k2, own_kept customer other o entries g.entries1 g.entries2)

    -- Lowered, ..
    pub lowered_own : (k : ℕ) → campaign_as customer (lowered customer g k) ≡ lowered_campaign (campaign_as customer g) k
    unfolding lowered campaign_as
    lowered_own k = with_own_lem k _ g.marks

    -- .. and the other's.
    pub lowered_other : (other k : ℕ) → Other customer other → campaign_as other (lowered customer g k) ≡ campaign_as other g
    unfolding lowered
    lowered_other other k o = with_other other k _ g.marks o refl
