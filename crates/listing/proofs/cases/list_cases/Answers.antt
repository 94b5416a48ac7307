-- The listing: a refusal, or the text of an accepted file.
use mathlib.Core.Path.{sym, ap, ◌∙◌}
use native.Mathlib.Omega.{arith}
use Rattle.site.specs.Answer.{refusal_of}
use Rattle.site.proofs.Answer.{refusal_numbered}
use Rattle.listing.proofs.Listing.{taken, put_start, listing_refused, part_ready, part_listed}
use Rattle.listing.proofs.cases.list_cases.Goals as goal

pub slice_bounds-list_file-count : goal.slice_bounds-list_file-count
unfolding refusal_of
slice_bounds-list_file-count c = (taken _ c.input_refusal.ensures (ap refusal_of c.in-Ok.is)).least

pub slice_bounds-list_file-start : goal.slice_bounds-list_file-start
unfolding refusal_of
slice_bounds-list_file-start c = (taken _ c.input_refusal.ensures (ap refusal_of c.in-Ok.is)).least

pub list_file-requires : goal.list_file-requires
unfolding refusal_of
list_file-requires c =
    part_ready _ c.input_refusal.ensures (ap refusal_of c.in-Ok.is) c.word_at-k.ensures (omega arith)

pub returns-in-Ok : goal.returns-in-Ok
unfolding refusal_of
returns-in-Ok c =
    put_start (part_listed _ c.input_refusal.ensures (ap refusal_of c.in-Ok.is) c.word_at-k.ensures)
    c.list_file.ensures

pub returns-in-Err : goal.returns-in-Err
unfolding refusal_of
returns-in-Err c =
    put_start
    (listing_refused _ _ (c.number.ensures ∙ sym (ap refusal_of c.in-Err.is) ∙ c.input_refusal.ensures)
    (λ none. refusal_numbered _ (sym c.number.ensures ∙ none)))
    c.put_refused.ensures
