-- The join by halves, step by step, for any things that pair up; then for strips of sites.
use Rattle.std.specs.Prelude.{Bool, cond, List, [], ◌∷◌, ℕ, zero, suc, ◌+◌, ◌/◌, leb, ltb, eqb, length, take, drop}
use Rattle.entry.specs.declared.Entry.{Entry}
use Rattle.entry.specs.Entry.{apart}
use Rattle.sweep.specs.Strip.{Placed, pair}
use Rattle.sweep.specs.Scan.{beyond, taken}
use Rattle.halves.specs.Gap.{squared_strip_gap}

-- The list, and "the number of range pairs this rule visits". (02 k: range pairs.)
pub record Visited : Type 0 where
  pub entries : List Entry
  pub range_pairs : ℕ

abbrev pub visited : List Entry → ℕ → Visited
visited entries range_pairs = record { entries = entries; range_pairs = range_pairs }

-- "A range of places splits at its middle, the lower half taking half the length rounded down."
unfoldable pub lower : {A : Type 0} → List A → List A
lower l = take (length l / 2) l

unfoldable pub upper : {A : Type 0} → List A → List A
upper l = drop (length l / 2) l

-- "Halves are visited by smaller gap first, lower places at equality": each half's gap is worked out before either visit.
unfoldable pub sooner : {A : Type 0} → (List A → ℕ) → List A → List A
sooner gap l = cond (ltb (gap (upper l)) (gap (lower l))) (upper l) (lower l)

unfoldable pub later : {A : Type 0} → (List A → ℕ) → List A → List A
later gap l = cond (ltb (gap (upper l)) (gap (lower l))) (lower l) (upper l)

-- `gap`: of two ranges; `pair`: the entry of one thing each; `counts`: which pairs the list takes.
module _ {A B : Type 0} (gap : List A → List B → ℕ) (pair : A → B → Entry) (counts : Entry → Bool) (k : ℕ) where
  -- A pair of ranges that is not dropped: "a pair of single sites is offered"; any other "splits the longer one, the first
  -- list's at equal length", and `on` visits the halves.
  unfoldable pub expand : (List A → List B → Visited → Visited) → List A → List B → Visited → Visited
  expand on [] q s = s
  expand on (a ∷ p) [] s = s
  expand on (a ∷ p) (b ∷ q) s =
      let first : List A = a ∷ p in
      let second : List B = b ∷ q in
      let byFirst : List A → ℕ = λ half. gap half second in
      let bySecond : List B → ℕ = λ half. gap first half in
      let offered = visited (taken counts k (pair a b) s.entries) s.range_pairs in
      let splitFirst = on (later byFirst first) second (on (sooner byFirst first) second s) in
      let splitSecond = on first (later bySecond second) (on first (sooner bySecond second) s) in
      let split = cond (leb (length second) (length first)) splitFirst splitSecond in
      cond (eqb (length p + length q) 0) offered split

  -- One visit: it counts, and the pair is dropped "when, on its visit, K entries are held and its box gap squared is greater
  -- than the last squared distance". Where a range is empty, no range pair is visited.
  unfoldable pub visit : (List A → List B → Visited → Visited) → List A → List B → Visited → Visited
  visit on [] q s = s
  visit on (a ∷ p) [] s = s
  visit on (a ∷ p) (b ∷ q) s =
      let here = visited s.entries (suc s.range_pairs) in
      let kept = expand on (a ∷ p) (b ∷ q) here in
      cond (beyond k s.entries (gap (a ∷ p) (b ∷ q))) here kept

  -- Visits no more than `depth` deep.
  unfoldable pub visit_to : ℕ → List A → List B → Visited → Visited
  visit_to zero p q s = s
  visit_to (suc depth) p q s = visit (visit_to depth) p q s

  -- The whole join: the sum of the two lengths falls at each split, so that it is deep enough.
  unfoldable pub halves_over : List A → List B → Visited → Visited
  halves_over p q s = visit_to (length p + length q) p q s

-- The join by halves of two strips, on from what is there. (02 k: join by halves.)
unfoldable pub halves_from : ℕ → List Placed → List Placed → Visited → Visited
halves_from k p q s = halves_over squared_strip_gap pair apart k p q s

-- On a list that may hold entries already.
unfoldable pub halves : ℕ → List Placed → List Placed → List Entry → Visited
halves k p q l = halves_from k p q (visited l 0)
