-- `site_from` meets its contract: one test after another, then the site.
use Prim.Native.Nat.{◌+◌, ◌*◌, ◌≤◌}
use native.Mathlib.Omega.{arith}
use lib.ListN.{length}
use Rattle.site.specs.Answer.{number, answer_of, refusal_of}
use Rattle.site.proofs.Answer.{passed_on, refusal_numbered}
use Rattle.site_file.proofs.ReaderAnswer.{
  held_refused,
  held_first_wrong,
  held_second_wrong,
  held_past,
  held_found,
  held_reach,
}
use Rattle.site_file.proofs.consulting.site_from.Goals as goal
use Rattle.site_file.proofs.consulting.site_from.Goals.{
  then-word_at-first-via-then-word_at-first,
  then-word_at-first-via-else-word_at-first+then-word_at-second,
}

-- The site lies inside the file.
reach : (c : goal.After-held_start)
    → (c.held_start.result + 12 * c.args.place + 12 ≤ length c.args.file.now) × (length c.args.file.now ≤ 1_572_856)
unfolding refusal_of
reach c =
    held_reach _ _ _ _ _ c.in_ok-contents_refusal.ensures
    c.word_at.ensures c.if-word_at-first.false c.word_at-else-word_at-first.ensures c.if-word_at-second.false
    c.count_in-count.ensures c.if-count-place.false c.held_start.ensures

pub returns-in_err-contents_refusal : goal.returns-in_err-contents_refusal
unfolding answer_of refusal_of
returns-in_err-contents_refusal c =
    rw (passed_on c.from_residual.ensures) (held_refused _ _ _ _ _ c.in_err-contents_refusal.ensures (refusal_numbered _))

pub returns-then-word_at-first : goal.returns-then-word_at-first
unfolding answer_of number refusal_of
returns-then-word_at-first c =
    elim c.then-word_at-first.branch [
      | then-word_at-first-via-then-word_at-first w ↦
          held_first_wrong _ _ _ _ _ c.in_ok-contents_refusal.ensures
          c.word_at.ensures w.if-word_at-first.true
      | then-word_at-first-via-else-word_at-first+then-word_at-second w ↦
          held_second_wrong _ _ _ _ _ c.in_ok-contents_refusal.ensures
          c.word_at.ensures w.if-word_at-first.false w.word_at-else-word_at-first.ensures w.if-word_at-second.true
    ]

pub returns-then-count-place : goal.returns-then-count-place
unfolding answer_of number refusal_of
returns-then-count-place c =
    held_past _ _ _ _ _ c.in_ok-contents_refusal.ensures
    c.word_at.ensures c.if-word_at-first.false c.word_at-else-word_at-first.ensures c.if-word_at-second.false
    c.count_in-count.ensures c.if-count-place.true

pub overflow_mul-place : goal.overflow_mul-place
overflow_mul-place c = omega (arith, reach c)

pub overflow_add-held_start : goal.overflow_add-held_start
overflow_add-held_start c = omega (arith, reach c)

pub site_at-requires : goal.site_at-requires
site_at-requires c = (reach c).0

pub returns : goal.returns
unfolding answer_of number refusal_of
returns c =
    held_found _ _ _ _ _ c.in_ok-contents_refusal.ensures
    c.word_at.ensures c.if-word_at-first.false c.word_at-else-word_at-first.ensures c.if-word_at-second.false
    c.count_in-count.ensures c.if-count-place.false c.held_start.ensures c.site_at.ensures
