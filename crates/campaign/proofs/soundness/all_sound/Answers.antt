-- `campaign::soundness::all_sound` meets its contract.
use mathlib.Core.Path.{ap, ◌∙◌}
use native.Mathlib.Omega.{arith}
use Rattle.site.specs.SiteList.{raised, sites}
use Rattle.entry.specs.Entry.{entry}
use Rattle.campaign.specs.Soundness.{sound_entry}
use Rattle.campaign.proofs.SoundEntry.{stands_at, entries_many}
use Rattle.campaign.proofs.AllAscending.{all_more, all_falls, all_end}
use Rattle.campaign.proofs.soundness.all_sound.Goals as goal

pub returns-then-not-sound_entry : goal.returns-then-not-sound_entry
returns-then-not-sound_entry c = record {
  numbered = λ an bn la lb.
      let test =
      sound_entry c.args.marks.now c.args.first_ends.now c.args.second_ends.now
      (sites (raised c.args.a.x.now c.args.a.y.now an c.args.a.height.now))
      (sites (raised c.args.b.x.now c.args.b.y.now bn c.args.b.height.now)) in
      all_falls test _ c.loop-i.i (c.loop-i.invariant.numbered an bn la lb) (entry 0 0 0)
      (omega (arith, entries_many _ _ c.requires.second_value, c.loop-i-test.true))
      (c.sound_entry.ensures.numbered an bn la lb
      ∙ ap test (stands_at _ _ c.requires.second_value _ c.loop-i-test.true c.entry_at-e.ensures))
      c.if-not-sound_entry.true;
}

pub loop-i-preserved : goal.loop-i-preserved
loop-i-preserved c = record {
  numbered = λ an bn la lb.
      let test =
      sound_entry c.args.marks.now c.args.first_ends.now c.args.second_ends.now
      (sites (raised c.args.a.x.now c.args.a.y.now an c.args.a.height.now))
      (sites (raised c.args.b.x.now c.args.b.y.now bn c.args.b.height.now)) in
      all_more test _ c.loop-i.i (c.loop-i.invariant.numbered an bn la lb) (entry 0 0 0)
      (omega (arith, entries_many _ _ c.requires.second_value, c.loop-i-test.true))
      (c.sound_entry.ensures.numbered an bn la lb
      ∙ ap test (stands_at _ _ c.requires.second_value _ c.loop-i-test.true c.entry_at-e.ensures))
      c.if-not-sound_entry.false;
}

pub returns : goal.returns
returns c = record {
  numbered = λ an bn la lb.
      all_end _ _ c.loop-i.i (c.loop-i.invariant.numbered an bn la lb)
      (omega (arith, entries_many _ _ c.requires.second_value, c.loop-i-test.false));
}
