-- The tests of an input, one after another.
use mathlib.Core.Path.{refl}
use mathlib.Core.Bool.{true, false}
use Rattle.site.specs.Answer.{number, refusal_of}
use Rattle.site.proofs.Answer.{passed_on, refusal_numbered}
use Rattle.listing.proofs.Listing.{input_long, input_short, input_file, input_k}
use borrow.Author.Rules.{rules}
use Rattle.listing.proofs.input.input_refusal.Goals as goal

pub returns-then-input-gt48020 : goal.returns-then-input-gt48020
unfolding refusal_of number
returns-then-input-gt48020 c = input_long _ (search rules)

pub returns-then-input-lt4 : goal.returns-then-input-lt4
unfolding refusal_of number
returns-then-input-lt4 c = input_short _ (search rules)

pub returns-in_err-file_refusal : goal.returns-in_err-file_refusal
unfolding refusal_of
returns-in_err-file_refusal c =
    rw (passed_on c.from_residual.ensures)
    (input_file _ (search rules) (search rules) c.in_err-file_refusal.ensures (refusal_numbered _))

pub returns-then-lawful_k : goal.returns-then-lawful_k
unfolding refusal_of
returns-then-lawful_k c =
    input_k _ (search rules) (search rules) c.in_ok-file_refusal.ensures refl true c.word_at.ensures c.lawful_k.ensures
    c.if-lawful_k.true

pub returns-else-lawful_k : goal.returns-else-lawful_k
unfolding refusal_of number
returns-else-lawful_k c =
    input_k _ (search rules) (search rules) c.in_ok-file_refusal.ensures refl false c.word_at.ensures c.lawful_k.ensures
    c.if-lawful_k.false
