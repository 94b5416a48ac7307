-- `campaign::soundness::all_sound` meets its contract. The loop's invariant: the entries from place `i` on have no fault where
-- none has.
use Rattle.std.proofs.Common.{◌≡◌, drop}
use Rattle.order.specs.Lists.{all}
use Rattle.site.specs.Terms.{Numbered}
use Rattle.entry.specs.Results.{results, entries_of}
use Rattle.campaign.specs.Soundness.{sound_entry}
use Rattle.campaign.proofs.soundness.all_sound.Given as goal

abbrev pub invariant-loop-i : goal.invariant-loop-i
invariant-loop-i l =
    let entries = entries_of l.count (results l.distance l.first l.second) in
    let faultless = sound_entry l.marks l.first_ends l.second_ends in
    Numbered l.a.x.now l.a.y.now l.a.height.now l.b.x.now l.b.y.now l.b.height.now (λ a b. all (faultless a b) (drop l.i entries) ≡ all (faultless a b) entries)
