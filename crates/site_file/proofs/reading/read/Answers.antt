-- `read` meets its contract: the refusal, or both counts.
use Rattle.site.specs.Answer.{refusal_of}
use Rattle.site.proofs.Answer.{passed_on}
use Rattle.site_file.proofs.ReadAnswer.{read_refused, read_answered}
use Rattle.site_file.proofs.reading.read.Goals as goal

pub returns-in_err-read_refusal : goal.returns-in_err-read_refusal
unfolding refusal_of
returns-in_err-read_refusal c =
    rw (passed_on c.from_residual.ensures) (read_refused _ _ c.in_err-read_refusal.ensures)

pub returns : goal.returns
unfolding refusal_of
returns c =
    read_answered _ c.in_ok-read_refusal.ensures c.word_at.ensures
    c.word_at-2.ensures
