-- `read_refusal` meets its contract: the contents, then the sites of each list.
use mathlib.Core.Path.{refl, sym}
use native.Mathlib.Omega.{arith}
use Rattle.site.specs.Answer.{refusal_of}
use Rattle.site.proofs.Answer.{passed_on, refusal_numbered}
use Rattle.site_file.proofs.ReadAnswer.{laid, read_stops, read_first, read_second}
use Rattle.site_file.proofs.reading.read_refusal.Goals as goal

pub returns-in_err-contents_refusal : goal.returns-in_err-contents_refusal
unfolding refusal_of
returns-in_err-contents_refusal c =
    rw (passed_on c.from_residual.ensures) (read_stops _ c.in_err-contents_refusal.ensures (refusal_numbered _))

pub content_refusal-requires : goal.content_refusal-requires
unfolding refusal_of
content_refusal-requires c =
    let g = laid _ (sym c.in_ok-contents_refusal.ensures) in
    omega (arith, c.word_at.ensures)

pub returns-in_err-content_refusal : goal.returns-in_err-content_refusal
unfolding refusal_of
returns-in_err-content_refusal c =
    rw (passed_on c.from_residual-in_err-content_refusal.ensures)
    (read_first _ c.in_ok-contents_refusal.ensures c.word_at.ensures c.in_err-content_refusal.ensures (refusal_numbered _))

pub content_refusal-requires-2 : goal.content_refusal-requires-2
unfolding refusal_of
content_refusal-requires-2 c =
    let g = laid _ (sym c.in_ok-contents_refusal.ensures) in
    omega (arith, c.word_at-2.ensures, c.word_at-3.ensures)

pub returns : goal.returns
unfolding refusal_of
returns c =
    read_second _ c.in_ok-contents_refusal.ensures c.word_at.ensures
    c.in_ok-content_refusal.ensures refl c.word_at-2.ensures
    c.word_at-3.ensures c.content_refusal-2.ensures
