-- `contents_refusal` meets its contract.
use mathlib.Core.Path.{◌∙◌}
use native.Mathlib.Omega.{arith}
use Rattle.site.specs.Answer.{number, refusal_of}
use Rattle.site_file.proofs.ReadAnswer.{
  short_file,
  first_long,
  second_long,
  first_start_wrong,
  second_start_wrong,
  length_wrong,
  contents_right,
}
use Rattle.site_file.proofs.reading.contents_refusal.Goals as goal
use Rattle.site_file.proofs.reading.contents_refusal.Goals.{
  then-n-gt65535-via-then-n-gt65535,
  then-n-gt65535-via-else-n-gt65535+then-m-gt65535,
  then-word_at-ne16-via-then-word_at-ne16,
  then-word_at-ne16-via-else-word_at-ne16+then-word_at-n,
  then-word_at-ne16-via-else-word_at-ne16+else-word_at-n+then-file-n,
}

pub returns-then-file-lt16 : goal.returns-then-file-lt16
unfolding refusal_of number
returns-then-file-lt16 c = short_file _ c.if-file-lt16.true

pub returns-then-n-gt65535 : goal.returns-then-n-gt65535
unfolding refusal_of number
returns-then-n-gt65535 c =
    elim c.then-n-gt65535.branch [
      | then-n-gt65535-via-then-n-gt65535 w ↦ first_long _ c.if-file-lt16.false (omega arith)
      | then-n-gt65535-via-else-n-gt65535+then-m-gt65535 w ↦ second_long _ c.if-file-lt16.false (omega arith)
    ]

pub returns-then-word_at-ne16 : goal.returns-then-word_at-ne16
unfolding refusal_of number
returns-then-word_at-ne16 c =
    elim c.then-word_at-ne16.branch [
      | then-word_at-ne16-via-then-word_at-ne16 w ↦
          first_start_wrong _ c.if-file-lt16.false (omega arith) (omega arith)
          (λ e. w.if-word_at-ne16.true (c.word_at.ensures ∙ e))
      | then-word_at-ne16-via-else-word_at-ne16+then-word_at-n w ↦
          second_start_wrong _ c.if-file-lt16.false (omega arith)
          (omega arith) (omega arith) (λ e. w.if-word_at-n.true (omega arith))
      | then-word_at-ne16-via-else-word_at-ne16+else-word_at-n+then-file-n w ↦
          length_wrong _ c.if-file-lt16.false (omega arith)
          (omega arith) (omega arith) (omega arith) (λ e. w.if-file-n.true (omega arith))
    ]

pub returns : goal.returns
unfolding refusal_of
returns c =
    contents_right _ c.if-file-lt16.false
    (omega arith) (omega arith) (omega arith) (omega arith) (omega arith)
