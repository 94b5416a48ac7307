-- How an answer crosses to C and Rust.
use Rattle.std.specs.Prelude.{◌≡◌, ℕ}
use Rattle.column.specs.Lent.{Held}
use Rattle.site.specs.Answer.{Answer, number_of, afterwards}

-- Its number is returned, and its values stand in the lent places; a refusal leaves these as they were.
pub record Crosses {A : Type 0} (answer : Answer A) (returned : ℕ) (places : Held A) : Type 0 where
  pub number : returned ≡ number_of answer
  pub values : places.exit ≡ afterwards (λ v. v) answer places.entry
