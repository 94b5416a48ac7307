-- The count of a number's digits: the first power of ten above the number.
use Prim.Native.Nat.{◌≤◌, ◌<◌, ◌^◌}
use borrow.Author.Rules.{rules}
use borrow.Author.Tests.{tests}
use Rattle.std.proofs.lemmas.Iterator.{first_from_Range}
use Rattle.listing.proofs.Decimal.{digits_first}
use Rattle.listing.proofs.digits.digits.Goals as goal

pub returns : goal.returns
returns c =
    let n = c.args.n in
    let first = first_from_Range _ _ _ _ (λ i. n < 10 ^ i) (λ i. 10 ^ i ≤ n) c.find.ensures.ran (λ x q k. search (rules, tests)) (λ x q k. search (rules, tests)) in
    rw c.unwrap_or.ensures (digits_first n c.ranges.n.fits _ first)
