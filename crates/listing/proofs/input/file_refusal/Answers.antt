-- The refusal that reading a file answers.
use Rattle.site.specs.Answer.{refusal_of}
use Rattle.site.proofs.Answer.{passed_on}
use Rattle.listing.proofs.Listing.{read_none, read_number}
use Rattle.listing.proofs.input.file_refusal.Goals as goal

pub returns-in_err-read : goal.returns-in_err-read
unfolding refusal_of
returns-in_err-read c = rw (passed_on c.from_residual.ensures) (read_number _ _ _ c.in_err-read.ensures)

pub returns : goal.returns
unfolding refusal_of
returns c = read_none _ _ _ c.in_ok-read.ensures
