-- `campaign::soundness::sound_entries` meets its contract: the tests read the first `count` elements of each column.
use mathlib.Core.Path.{sym, ap, ◌∙◌}
use native.Mathlib.Omega.{arith}
use lib.Seq.{length-take-le}
use Rattle.order.specs.Order.{ascending}
use Rattle.entry.specs.Entry.{rank_before}
use Rattle.entry.specs.Results.{results}
use Rattle.entry.proofs.Results.{room_lengths, room_below, entries_below}
use Rattle.campaign.proofs.Sound.{order_fails, entries_decide}
use Rattle.campaign.proofs.soundness.sound_entries.Goals as goal

pub slice_bounds-distances-end : goal.slice_bounds-distances-end
slice_bounds-distances-end c =
    let n = room_lengths _ _ c.requires.room.room in sym (length-take-le _ _ (omega (arith, n, c.requires.room.most)))

pub slice_bounds-firsts-end : goal.slice_bounds-firsts-end
slice_bounds-firsts-end c =
    let n = room_lengths _ _ c.requires.room.room in sym (length-take-le _ _ (omega (arith, n, c.requires.room.most)))

pub slice_bounds-seconds-end : goal.slice_bounds-seconds-end
slice_bounds-seconds-end c =
    let n = room_lengths _ _ c.requires.room.room in sym (length-take-le _ _ (omega (arith, n, c.requires.room.most)))

pub in_order-requires : goal.in_order-requires
in_order-requires c = room_below _ _ (results c.args.distance.now c.args.first.now c.args.second.now) c.requires.room.room c.requires.room.most

pub all_sound-requires-clause-second_value : goal.all_sound-requires-clause-second_value
all_sound-requires-clause-second_value c =
    room_below _ _ (results c.args.distance.now c.args.first.now c.args.second.now) c.requires.room.room c.requires.room.most

pub returns-then-in_order : goal.returns-then-in_order
returns-then-in_order c =
    let read = entries_below c.args.c.entries (results c.args.distance.now c.args.first.now c.args.second.now) in
    record {
      numbered = λ an bn la lb.
          entries_decide _ _ _ _ read (sym (c.in_order.ensures ∙ ap (ascending rank_before) read) ∙ c.if-in_order.true)
          (c.all_sound.ensures.numbered an bn la lb);
    }

pub returns-else-in_order : goal.returns-else-in_order
returns-else-in_order c =
    let read = entries_below c.args.c.entries (results c.args.distance.now c.args.first.now c.args.second.now) in
    record {
      numbered = λ an bn la lb.
          c.if-in_order.false
          ∙ order_fails _ _ _ _ (sym (c.in_order.ensures ∙ ap (ascending rank_before) read) ∙ c.if-in_order.false);
    }
