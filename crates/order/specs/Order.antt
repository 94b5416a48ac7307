-- Orders as tests: `before a b` says whether `a` comes before `b`.
use Rattle.std.specs.Prelude.{Bool, true, false, cond, ◌&&◌}
use mathlib.Core.List.{List, [], ◌∷◌, foldl}

-- A test of two things by a test of their keys.
abbrev pub on : {A K : Type 0} → (K → K → Bool) → (A → K) → A → A → Bool
on less key a b = less (key a) (key b)

-- By `less` first; where neither is less, by `next`.
unfoldable pub lex : {A : Type 0} → (A → A → Bool) → (A → A → Bool) → A → A → Bool
lex less next a b = cond (less a b) true (cond (less b a) false (next a b))

-- Each element comes before the one after it.
unfoldable pub ascending : {A : Type 0} → (A → A → Bool) → List A → Bool
ascending before [] = true
ascending before (a ∷ []) = true
ascending before (a ∷ (b ∷ l)) = before a b && ascending before (b ∷ l)

-- The order the other way round.
abbrev pub after : {A : Type 0} → (A → A → Bool) → A → A → Bool
after before a b = before b a

-- The one of two that comes first; where neither does, the first of them.
unfoldable pub first_of : {A : Type 0} → (A → A → Bool) → A → A → A
first_of before a b = cond (before b a) b a

-- The element of a list that comes first, or `d` where there is none.
unfoldable pub foremost : {A : Type 0} → (A → A → Bool) → A → List A → A
foremost before d [] = d
foremost before d (a ∷ l) = foldl (first_of before) a l
