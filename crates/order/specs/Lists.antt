-- Small definitions on lists, for any element.
use Rattle.std.specs.Prelude.{◌≡◌, Bool, true, false, cond, ◌&&◌, ℕ, ◌+◌}
use mathlib.Core.List.{List, [], ◌∷◌, foldr}

-- The test holds of each element.
unfoldable pub all : {A : Type 0} → (A → Bool) → List A → Bool
all test [] = true
all test (a ∷ l) = test a && all test l

-- The elements of which the test holds, in their order.
unfoldable pub keep : {A : Type 0} → (A → Bool) → List A → List A
keep test [] = []
keep test (a ∷ l) = cond (test a) (a ∷ keep test l) (keep test l)

-- The statement holds of each element.
unfoldable pub All : {A : Type 0} → (A → Type 0) → List A → Type 0
All P [] = Unit {0}
All P (a ∷ l) = P a × All P l

-- No element stands twice.
unfoldable pub Distinct : {A : Type 0} → List A → Type 0
Distinct [] = Unit {0}
Distinct (a ∷ l) = All (λ b. a ≡ b → ⊥) l × Distinct l

-- The same elements in the same order, by a test of two of them.
unfoldable pub same_by : {A : Type 0} → (A → A → Bool) → List A → List A → Bool
same_by same [] [] = true
same_by same [] (b ∷ m) = false
same_by same (a ∷ l) [] = false
same_by same (a ∷ l) (b ∷ m) = same a b && same_by same l m

-- The last element, or `d` where there is none.
unfoldable pub last : {A : Type 0} → A → List A → A
last d [] = d
last d (a ∷ l) = last a l

unfoldable pub sum : List ℕ → ℕ
sum l = foldr ◌+◌ 0 l
