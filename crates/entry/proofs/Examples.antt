-- Examples of the rank and of what a pair is: what M1 to M10 do not tell apart.
use mathlib.Core.Path.{◌≡◌, refl}
use mathlib.Core.Bool.{true, false}
use mathlib.Core.List.{[], ◌∷◌}
use Rattle.order.specs.Sort.{insert, sort}
use Rattle.order.specs.Order.{lex}
use Rattle.entry.specs.declared.Ordering.TheVariants.{Before, Same, After}
use Rattle.entry.specs.Entry.{entry, rank_before, rank_compare, apart, best_k, offer}

-- At equal distance the smaller first place comes first, and only then the smaller second place.
ties : best_k 4 (entry 9 1 0 ∷ entry 1 1 1 ∷ entry 9 0 1 ∷ entry 1 0 0 ∷ []) ≡ entry 1 0 0 ∷ entry 1 1 1 ∷ entry 9 0 1 ∷ entry 9 1 0 ∷ []
unfolding lex insert sort rank_before best_k
ties = refl

second_places : best_k 2 (entry 9 0 2 ∷ entry 9 0 1 ∷ entry 9 0 3 ∷ []) ≡ entry 9 0 1 ∷ entry 9 0 2 ∷ []
unfolding lex insert sort rank_before best_k
second_places = refl

-- A number that differs earlier outweighs all later ones; same is told of equal entries.
compared : (rank_compare (entry 1 9 9) (entry 2 0 0) ≡ Before) × (rank_compare (entry 5 3 0) (entry 5 2 9) ≡ After)
    × (rank_compare (entry 5 2 8) (entry 5 2 9) ≡ Before) × (rank_compare (entry 5 2 9) (entry 5 2 9) ≡ Same)
unfolding lex rank_before rank_compare
compared = (refl, refl, refl, refl)

-- The entry past K drops out.
drops : offer 2 (entry 4 7 7) (entry 1 0 0 ∷ entry 9 0 1 ∷ []) ≡ entry 1 0 0 ∷ entry 4 7 7 ∷ []
unfolding lex insert rank_before offer
drops = refl

-- Co-sited cells are no pair; anything further apart is one.
co_sited_lem : (apart (entry 0 3 4) ≡ false) × (apart (entry 1 3 3) ≡ true)
unfolding apart
co_sited_lem = (refl, refl)
