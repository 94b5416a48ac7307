-- The two sweeps, step by step, for any things that pair up; then for strips of sites.
use Rattle.std.specs.Prelude.{Bool, cond, List, [], ◌∷◌, map, ℕ, take}
use Rattle.std.specs.Int.Signed.{le_z}
use Rattle.site.specs.Site.{gap, square}
use Rattle.entry.specs.declared.Entry.{Entry}
use Rattle.entry.specs.Entry.{apart}
use Rattle.sweep.specs.declared.Way.{Way}
use Rattle.sweep.specs.declared.Way.TheVariants.{Classic, ReverseRun}
use Rattle.sweep.specs.Strip.{Placed, pair}
use Rattle.sweep.specs.Scan.{Candidate, State, state, scan}

-- `leads a b`: the reference is the first list's `a` and not the second list's `b`. `counts`: which pairs the list takes.
module _ {A B : Type 0} (leads : A → B → Bool) (look : A → B → Candidate) (counts : Entry → Bool) (k : ℕ) where
  -- The reference "is scanned against the other list from that finger to the right", and its finger moves one on.
  unfoldable pub classic_over : List A → List B → State → State
  classic_over [] q s = s
  classic_over (a ∷ p) [] s = s
  classic_over (a ∷ p) (b ∷ q) s =
      let byFirst = classic_over p (b ∷ q) (scan counts k (map (look a) (b ∷ q)) s).state in
      let bySecond = classic_over (a ∷ p) q (scan counts k (map (λ c. look c b) (a ∷ p)) s).state in
      cond (leads a b) byFirst bySecond

  -- A reference is scanned against the other list's sites `u` or `v`, "latest first"; those not passed are dropped.
  unfoldable pub reverse_over : List A → List B → List A → List B → State → State
  reverse_over [] [] u v s = s
  reverse_over [] (b ∷ q) u v s =
      let r = scan counts k (map (λ c. look c b) u) s in
      reverse_over [] q (take r.passed u) (b ∷ v) r.state
  reverse_over (a ∷ p) [] u v s =
      let r = scan counts k (map (look a) v) s in
      reverse_over p [] (a ∷ u) (take r.passed v) r.state
  reverse_over (a ∷ p) (b ∷ q) u v s =
      let byFirst = scan counts k (map (look a) v) s in
      let bySecond = scan counts k (map (λ c. look c b) u) s in
      let first = reverse_over p (b ∷ q) (a ∷ u) (take byFirst.passed v) byFirst.state in
      let second = reverse_over (a ∷ p) q (take bySecond.passed u) (b ∷ v) bySecond.state in
      cond (leads a b) first second

-- The first list's site is the reference "if its x is at most the other's".
unfoldable pub leads : Placed → Placed → Bool
leads p q = le_z p.site.x q.site.x

-- "A look tests the x-difference of one reference site and one other."
unfoldable pub look : Placed → Placed → Candidate
look p q = record { gap = square (gap p.site.x q.site.x); entry = pair p q }

-- The sweep named, over two strips, on a list that may hold entries already. (01: classic, Reverse Run.)
unfoldable pub sweep : Way → ℕ → List Placed → List Placed → List Entry → State
sweep Classic k p q l = classic_over leads look apart k p q (state l 0 0)
sweep ReverseRun k p q l = reverse_over leads look apart k p q [] [] (state l 0 0)
