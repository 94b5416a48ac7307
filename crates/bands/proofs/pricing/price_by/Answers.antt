-- `bands::price_by` meets its contract.
use mathlib.Core.Path.{refl, sym}
use lib.Seq.{length-take-le}
use Rattle.site.specs.Answer.{refusal_of}
use Rattle.site.proofs.Answer.{passed_on, refusal_numbered, first_refused, next_decides}
use Rattle.bands.proofs.Entries.{entries_accepted, chargeable}
use Rattle.bands.proofs.PriceAnswer.{refused_is, answered_is}
use Rattle.bands.proofs.pricing.price_by.Goals as goal

pub returns-in_err-tariff : goal.returns-in_err-tariff
unfolding refusal_of
returns-in_err-tariff c =
    let r = c.in_err-tariff.field-0.0 in
    rw (passed_on c.from_residual.ensures)
    (refused_is _ _ _ _ _ r (first_refused _ (rw c.in_err-tariff.was) (refusal_numbered r)))

pub returns-in_err-entries_refusal : goal.returns-in_err-entries_refusal
unfolding refusal_of
returns-in_err-entries_refusal c =
    let r = c.in_err-entries_refusal.field-0.0 in
    rw (passed_on c.from_residual-in_err-entries_refusal.ensures)
    (refused_is _ _ _ _ _ r (next_decides refl (rw c.in_ok-tariff.was) c.in_err-entries_refusal.ensures))

pub slice_bounds-distance-end : goal.slice_bounds-distance-end
unfolding refusal_of
slice_bounds-distance-end c =
    sym (length-take-le _ _ (entries_accepted _ _ _ (sym c.in_ok-entries_refusal.ensures)).room.entries)

pub write_prices-requires : goal.write_prices-requires
unfolding refusal_of
write_prices-requires c = chargeable _ _ _ (sym c.in_ok-entries_refusal.ensures) c.requires (rw c.in_ok-tariff.was)

pub returns : goal.returns
unfolding refusal_of
returns c =
    answered_is _ _ _ _ _ (rw c.in_ok-tariff.was) (sym c.in_ok-entries_refusal.ensures) c.write_prices.ensures
