-- `bands::entries_refusal` meets its contract.
use mathlib.Core.Path.{sym, ap, ◌∙◌}
use mathlib.Core.Bool.{Bool, not}
use mathlib.Core.Logic.{⊎_elim}
use native.Mathlib.Omega.{arith}
use borrow.Author.Tests.{lt-ltb, le-ltb}
use lib.ListN.{length}
use Rattle.site.specs.Answer.{refuse_if, or_else, number, refusal_of}
use Rattle.bands.specs.Calls.{entries_refusal}
use Rattle.bands.proofs.Entries.{Room, distances_decide}
use Rattle.bands.proofs.pricing.entries_refusal.Goals as goal

pub returns-then-prices-n : goal.returns-then-prices-n
unfolding entries_refusal or_else refusal_of number
returns-then-prices-n c =
    let count = c.args.count in
    let prices = length c.args.prices.now in
    let distance = length c.args.distance.now in
    ⊎_elim (λ w. rw (lt-ltb prices count w))
    (⊎_elim (λ w. rw (le-ltb prices count w.0, lt-ltb distance count w.1))
    (λ w. rw (le-ltb prices count w.0, le-ltb distance count w.1, lt-ltb 4_096 count w.2)))
    c.then-prices-n.either

pub returns-then-all_below : goal.returns-then-all_below
unfolding refusal_of
returns-then-all_below c =
    let room : Room c.args.distance.now c.args.count c.args.prices.now =
    record { column = omega arith; entries = omega arith; few = omega arith } in
    sym (distances_decide _ _ _ room c.all_below.ensures ∙ ap (λ (t : Bool). refuse_if (not t) 7) c.if-all_below.true)

pub returns-else-all_below : goal.returns-else-all_below
unfolding refusal_of number
returns-else-all_below c =
    let room : Room c.args.distance.now c.args.count c.args.prices.now =
    record { column = omega arith; entries = omega arith; few = omega arith } in
    sym (distances_decide _ _ _ room c.all_below.ensures ∙ ap (λ (t : Bool). refuse_if (not t) 7) c.if-all_below.false)
