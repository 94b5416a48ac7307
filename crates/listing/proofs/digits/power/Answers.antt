-- A power of ten is the table's entry, by the table's rule.
use borrow.Author.Rules.{rules}
use Rattle.listing.proofs.Decimal.{power_of_ten}
use Rattle.listing.proofs.digits.power.Goals as goal

pub returns : goal.returns
returns c = power_of_ten _ (search rules)
