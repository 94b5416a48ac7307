-- An entry, and its rank.
use Rattle.std.specs.Prelude.{Bool, cond, ◌&&◌, List, map, ℕ, leb, ltb, take}
use Rattle.order.specs.Order.{on, lex}
use Rattle.order.specs.Lists.{last}
use Rattle.order.specs.Sort.{insert, sort}
use Rattle.entry.specs.declared.Entry.{Entry}
use Rattle.entry.specs.declared.Ordering.{Ordering}
use Rattle.entry.specs.declared.Ordering.TheVariants.{Before, Same, After}

abbrev pub entry : ℕ → ℕ → ℕ → Entry
entry distance first second = record { distance = distance; first = first; second = second }

-- "Smaller squared distance first, then smaller first place, then smaller second place." (01: rank.)
unfoldable pub rank_before : Entry → Entry → Bool
rank_before = lex (on ltb (λ e. e.distance)) (lex (on ltb (λ e. e.first)) (on ltb (λ e. e.second)))

-- "It tells before, same or after exactly by 01's rank". (02 c: rank without jumps.)
unfoldable pub rank_compare : Entry → Entry → Ordering
rank_compare a b = cond (rank_before a b) Before (cond (rank_before b a) After Same)

-- "two cells at one x and y aren't a handover case": a pair is "at squared distance 1 or more". (02 d: co-sited cells.)
unfoldable pub apart : Entry → Bool
apart e = leb 1 e.distance

-- A K from 1 to a greatest one: 4,096, or (02 j) "any number from 1 to the present K".
abbrev pub k_up_to : ℕ → ℕ → Bool
k_up_to most k = leb 1 k && leb k most

-- "K is 1 to 4,096."
unfoldable pub lawful_k : ℕ → Bool
lawful_k k = k_up_to 4_096 k

-- "The first K pairs by rank, or all when that is fewer."
unfoldable pub best_k : ℕ → List Entry → List Entry
best_k k l = take k (sort rank_before l)

-- "the pair takes its place by rank, the entry past K dropping out."
unfoldable pub offer : ℕ → Entry → List Entry → List Entry
offer k e l = take k (insert rank_before e l)

-- The squared distance of the last entry.
unfoldable pub last_distance : List Entry → ℕ
last_distance l = last 0 (map (λ e. e.distance) l)
