-- Laws of the comparison by rank: what the tests weigh, and what is told.
use mathlib.Core.Path.{◌≡◌, refl, sym, ap, ◌∙◌}
use mathlib.Core.Bool.{Bool, true, false, cond}
use mathlib.Core.Logic.{◌↔◌}
use Prim.Native.Nat.{ℕ, ◌+◌, ◌*◌, ◌≤◌, ◌<◌}
use native.Mathlib.Omega.{arith}
use native.Mathlib.Nat.{add_assoc}
use mir.Val.{bool_byte}
use lib.Dec.{ltb}
use borrow.Author.Tests.{lt-ltb, le-ltb}
use Rattle.order.proofs.Order.{by_test, irrefl, ltb_order, by_number_lem}
use Rattle.order.proofs.Weights.{one_way, weighed_test, weighed_lex}
use Rattle.entry.specs.declared.Entry.{Entry}
use Rattle.entry.specs.declared.Ordering.{Ordering}
use Rattle.entry.specs.declared.Ordering.TheVariants.{Before, Same, After}
use Rattle.entry.specs.Entry.{rank_before, rank_compare}
use Rattle.entry.proofs.Rank.{rank_order}

-- ---- weights

-- The tests for less of the three numbers, each 0 or 1, as the comparison weighs them.
abbrev pub less_weight : Entry → Entry → ℕ
less_weight a b =
    4 * bool_byte (ltb a.distance b.distance) + 2 * bool_byte (ltb a.first b.first)
    + bool_byte (ltb a.second b.second)

-- One entry comes before another exactly where its tests weigh more.
pub rank_weighed : (a b : Entry) → rank_before a b ≡ ltb (less_weight b a) (less_weight a b)
unfolding rank_before
rank_weighed a b =
    simp add_assoc
    ((weighed_lex (by_number_lem (λ (e : Entry). e.distance)) (weighed_lex (by_number_lem (λ (e : Entry). e.first))
    (weighed_test (by_number_lem (λ (e : Entry). e.second))))).tells a b)

-- Each number is less one way round at most: what may be used of the tests, whatever they weigh.
pub record OneWay (a b : Entry) : Type 0 where
  pub distance : bool_byte (ltb a.distance b.distance) + bool_byte (ltb b.distance a.distance) ≤ 1
  pub first : bool_byte (ltb a.first b.first) + bool_byte (ltb b.first a.first) ≤ 1
  pub second : bool_byte (ltb a.second b.second) + bool_byte (ltb b.second a.second) ≤ 1

-- The comparison, by sums that decide as these weights do.
module _ (a b : Entry) where
  each_one_way : OneWay a b
  each_one_way = record {
    distance = one_way ltb_order a.distance b.distance;
    first = one_way ltb_order a.first b.first;
    second = one_way ltb_order a.second b.second;
  }

  by_weights : rank_compare a b
      ≡ cond (ltb (less_weight b a) (less_weight a b)) Before (cond (ltb (less_weight a b) (less_weight b a)) After Same)
  unfolding rank_compare
  by_weights = rw (rank_weighed a b, rank_weighed b a) refl

  pub compare_before : (OneWay a b → less_weight b a < less_weight a b) → rank_compare a b ≡ Before
  compare_before more = by_weights ∙ rw (lt-ltb (less_weight b a) (less_weight a b) (more each_one_way)) refl

  pub compare_after : (OneWay a b → less_weight a b < less_weight b a) → rank_compare a b ≡ After
  compare_after less =
      let h : less_weight a b < less_weight b a = less each_one_way in
      by_weights
      ∙ rw (le-ltb (less_weight b a) (less_weight a b) (omega arith), lt-ltb (less_weight a b) (less_weight b a) h) refl

  pub compare_same : (OneWay a b → less_weight a b ≡ less_weight b a) → rank_compare a b ≡ Same
  compare_same equal =
      let h : less_weight a b ≡ less_weight b a = equal each_one_way in
      by_weights
      ∙ rw (le-ltb (less_weight b a) (less_weight a b) (omega arith), le-ltb (less_weight a b) (less_weight b a) (omega arith))
      refl

-- ---- what is told

-- Whether it was told that one comes before the other, and that it comes after it.
abbrev told_before : Ordering → Bool
told_before Before = true
told_before Same = false
told_before After = false

abbrev told_after : Ordering → Bool
told_after Before = false
told_after Same = false
told_after After = true

module _ (a b : Entry) where
  told_before_lem : told_before (rank_compare a b) ≡ rank_before a b
  unfolding rank_compare
  told_before_lem =
      by_test (rank_before a b)
      (λ t. rw t refl)
      (λ f. rw f (by_test (rank_before b a) (λ t. rw t refl) (λ g. rw g refl)))

  told_after_lem : told_after (rank_compare a b) ≡ rank_before b a
  unfolding rank_compare
  told_after_lem =
      by_test (rank_before a b)
      (λ t. rw (t, rank_order.asym a b t) refl)
      (λ f. rw f (by_test (rank_before b a) (λ t. rw t refl) (λ g. rw g refl)))

  -- Each answer is given exactly where the rank has it, same of equal entries alone.
  pub before_iff : (rank_compare a b ≡ Before) ↔ (rank_before a b ≡ true)
  unfolding rank_compare
  before_iff = (λ h. sym told_before_lem ∙ ap told_before h, λ t. rw t refl)

  pub after_iff : (rank_compare a b ≡ After) ↔ (rank_before b a ≡ true)
  unfolding rank_compare
  after_iff = (λ h. sym told_after_lem ∙ ap told_after h, λ t. rw (rank_order.asym b a t, t) refl)

  pub same_iff : (rank_compare a b ≡ Same) ↔ (a ≡ b)
  unfolding rank_compare
  same_iff = (
    λ h. rank_order.total a b (sym told_before_lem ∙ ap told_before h) (sym told_after_lem ∙ ap told_after h),
    λ e. rw (e, irrefl rank_order b) refl,
  )
