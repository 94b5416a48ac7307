-- What pricing answers, and what the price column holds then.
use mathlib.Core.Path.{◌≡◌, ◌∙◌}
use mathlib.Core.List.{List, map}
use Prim.Native.Nat.{ℕ}
use lib.ListN.{take}
use Rattle.order.specs.Lists.{sum}
use Rattle.column.specs.Column.{overwritten}
use Rattle.std.specs.Prelude.{Ok, Err}
use Rattle.site.specs.declared.refusals.Refusal.{Refusal}
use Rattle.site.specs.Answer.{Answer, afterwards, or_else, number, answer_of}
use Rattle.site.proofs.Answer.{result_ok, result_err, after_err, after_answered, or_none}
use Rattle.bands.specs.Calls.{PriceValues, price_values, priced_by, entries_refusal}

module _ (fault : ℕ) (price : ℕ → ℕ) (distance : List ℕ) (count : ℕ) (prices : List ℕ) where
  abbrev answer : Answer PriceValues
  answer = priced_by fault price distance count prices

  -- The first of both refusals: its number, and the column is left.
  pub refused_is : (r : Refusal) → number r ≡ or_else fault (entries_refusal distance count prices)
      → (answer_of (price_values prices) (Err r) ≡ answer) × (prices ≡ afterwards (λ v. v.prices) answer prices)
  unfolding priced_by
  refused_is r e = (result_err (price_values prices) _ r e, after_err (price_values prices) (λ v. v.prices) _ prices r e)

  -- Neither: the prices and their sum.
  pub answered_is : {n : ℕ} {after : List ℕ} → fault ≡ 0 → entries_refusal distance count prices ≡ 0
      → (let each = map price (take count distance) in (after ≡ overwritten each prices) × (n ≡ sum each))
      → (answer_of (price_values after) (Ok n) ≡ answer) × (after ≡ afterwards (λ v. v.prices) answer prices)
  unfolding priced_by
  answered_is {n} {after} none ok w =
      let all = or_none _ _ none ∙ ok in
      (result_ok (price_values after) n all (λ i. price_values (w.0 i) (w.1 i)), w.0 ∙ after_answered (λ v. v.prices) _ prices all)
