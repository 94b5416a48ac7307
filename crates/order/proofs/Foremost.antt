-- The element of a list that comes first: none comes before it, and in a list in order it stands at an end.
use mathlib.Core.Path.{◌≡◌, refl, ap, ◌∙◌}
use mathlib.Core.Bool.{Bool, false}
use mathlib.Core.List.{List, [], ◌∷◌, foldl}
use Rattle.order.specs.Lists.{All, last}
use Rattle.order.specs.Order.{after, first_of, foremost}
use Rattle.order.specs.Terms.{Sorted}
use Rattle.order.proofs.Order.{StrictOrder, by_test, irrefl}

-- A strict order the other way round is one.
pub after_order : {A : Type 0} {before : A → A → Bool} → StrictOrder before → StrictOrder (after before)
after_order o = record {
  asym = λ a b h. o.asym b a h;
  weak = λ a b c h g. o.weak c b a g h;
  total = λ a b h g. o.total a b g h;
}

-- What holds of each element, and of what stands for none, holds of it.
module _ {A : Type 0} (before : A → A → Bool) (P : A → Type 0) where
  folded_holds : (a : A) (l : List A) → P a → All P l → P (foldl (first_of before) a l)
  unfolding All first_of
  folded_holds a [] p h = p
  folded_holds a (b ∷ l) p h =
      folded_holds (first_of before a b) l (by_test (before b a) (λ t. rw t h.0) (λ t. rw t p)) h.1

  pub foremost_holds : (d : A) (l : List A) → P d → All P l → P (foremost before d l)
  unfolding All foremost
  foremost_holds d [] p h = p
  foremost_holds d (a ∷ l) p h = folded_holds a l h.0 h.1

module _ {A : Type 0} {before : A → A → Bool} (o : StrictOrder before) where
  first_of_none : (a b : A) → (before a (first_of before a b) ≡ false) × (before b (first_of before a b) ≡ false)
  unfolding first_of
  first_of_none a b =
      by_test (before b a) (λ h. rw h (o.asym b a h, irrefl o b)) (λ h. rw h (irrefl o a, h))

  none_before : (a : A) (l : List A) → All (λ b. before b (foldl (first_of before) a l) ≡ false) (a ∷ l)
  unfolding All
  none_before a [] = (irrefl o a, tt)
  none_before a (b ∷ l) =
      let m = first_of before a b in
      let r = foldl (first_of before) m l in
      let rest = none_before m l in
      let here = first_of_none a b in
      (o.weak r m a rest.0 here.0, (o.weak r m b rest.0 here.1, rest.1))

  -- No element comes before it.
  pub foremost_none : (d : A) (l : List A) → All (λ b. before b (foremost before d l) ≡ false) l
  unfolding All foremost
  foremost_none d [] = tt
  foremost_none d (a ∷ l) = none_before a l

  first_stays : (a : A) (l : List A) → All (λ b. before b a ≡ false) l → foldl (first_of before) a l ≡ a
  unfolding All first_of
  first_stays a [] h = refl
  first_stays a (b ∷ l) h = rw h.0 (first_stays a l h.1)

  -- In a list in order it is the first,
  pub foremost_first : (d a : A) (l : List A) → Sorted before (a ∷ l) → foremost before d (a ∷ l) ≡ a
  unfolding Sorted foremost
  foremost_first d a l s = first_stays a l s.0

  next_taken : (a b : A) → before b a ≡ false → first_of (after before) a b ≡ b
  unfolding first_of
  next_taken a b h = by_test (before a b) (λ g. rw g) (λ g. rw g (o.total a b g h))

  last_taken : (a : A) (l : List A) → Sorted before (a ∷ l) → foldl (first_of (after before)) a l ≡ last a l
  unfolding Sorted All last
  last_taken a [] s = refl
  last_taken a (b ∷ l) s =
      ap (λ (e : A). foldl (first_of (after before)) e l) (next_taken a b s.0.0) ∙ last_taken b l s.1

  -- and by the order the other way round the last.
  pub foremost_last : (d : A) (l : List A) → Sorted before l → foremost (after before) d l ≡ last d l
  unfolding foremost last
  foremost_last d [] s = refl
  foremost_last d (a ∷ l) s = last_taken a l s
