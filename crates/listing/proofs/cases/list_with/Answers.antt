-- The text from the K list that the columns take.
use mathlib.Core.Path.{refl, ◌∙◌}
use Rattle.sweep.specs.declared.Way.TheVariants.{ReverseRun}
use Rattle.join.specs.declared.Join.TheVariants.{Sweep}
use Rattle.listing.proofs.ListingText.{count_asks, on_plane, never_refused, text_ready, text_written}
use Rattle.listing.proofs.cases.list_with.Goals as goal

pub count_pairs-total-requires : goal.count_pairs-total-requires
count_pairs-total-requires c =
    let p = c.requires in
    rw (c.spots-p.ensures, c.spots-q.ensures) (count_asks _ _ p.lawful.lists refl refl p.grounded.0 p.grounded.1)

pub put_text-requires : goal.put_text-requires
put_text-requires c =
    let p = c.requires in
    let t = text_ready (Sweep ReverseRun) _ _ _ _ p.lawful p.second_value _ (c.k_list.ensures.0 ∙ on_plane (Sweep ReverseRun) _ _ _ _ refl refl p.grounded.0 p.grounded.1) c.in-Ok.is in
    record { second_value = t.0; count_in_bounds = t.1 }

pub returns-in-Ok : goal.returns-in-Ok
returns-in-Ok c =
    let p = c.requires in
    text_written (Sweep ReverseRun) _ _ _ _ p.lawful p.second_value _ (c.k_list.ensures.0 ∙ on_plane (Sweep ReverseRun) _ _ _ _ refl refl p.grounded.0 p.grounded.1) c.in-Ok.is
    refl refl p.grounded.0 p.grounded.1 (rw (c.spots-p.ensures, c.spots-q.ensures) at c.count_pairs-total.ensures) c.put_text.ensures

pub returns-in-Err : goal.returns-in-Err
returns-in-Err c =
    let p = c.requires in
    absurd
    (never_refused (Sweep ReverseRun) _ _ _ _ p.lawful p.second_value _ (c.k_list.ensures.0 ∙ on_plane (Sweep ReverseRun) _ _ _ _ refl refl p.grounded.0 p.grounded.1) c.in-Err.is)
