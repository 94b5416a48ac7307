-- `campaign::soundness::sound` meets its contract.
use mathlib.Core.Path.{◌≡◌, sym, ◌∙◌}
use mathlib.Core.Bool.{true, true≢false}
use mathlib.Core.List.{List}
use borrow.Author.Tests.{eq-eqb, leb-false}
use Rattle.std.proofs.Common.{rules, ℕ, ◌≤◌, length}
use Rattle.site.specs.SiteList.{raised}
use Rattle.entry.specs.Results.{results, room_for}
use Rattle.campaign.specs.Terms.{sound_plan}
use Rattle.campaign.proofs.SoundPlan.{plan_parts}
use Rattle.campaign.proofs.Sound.{plan_fails, room_fails, too_many, entries_fail, full_sound, total_decides}
use Rattle.campaign.proofs.soundness.sound.Goals as goal
use Rattle.campaign.proofs.soundness.sound.Goals.{then-sound_plan, else-sound_plan, then-room, else-room, then-c, else-c}

pub sound_entries-requires-clause-first_strips_bound : goal.sound_entries-requires-clause-first_strips_bound
sound_entries-requires-clause-first_strips_bound c =
    let plan : sound_plan c.args.c (length c.args.a.x.now) (length c.args.b.x.now) ≡ true = search rules in
    let p = plan_parts _ _ _ plan in
    (p.rows, p.cols)

pub returns-then-c-2 : goal.returns-then-c-2
returns-then-c-2 c =
    let plan : sound_plan c.args.c (length c.args.a.x.now) (length c.args.b.x.now) ≡ true = search rules in
    let room : room_for c.args.c.k (results c.args.distance.now c.args.first.now c.args.second.now) ≡ true = search rules in
    let long : (length c.args.c.first_ends ≡ 32) × (length c.args.c.second_ends ≡ 32) = (search rules, search rules) in
    elim c.if-c.branch [
      | then-c w ↦
          record {
            numbered = λ an bn la lb.
                eq-eqb _ _ c.if-c-2.true
                ∙ full_sound _ (raised c.args.a.x.now c.args.a.y.now an c.args.a.height.now) (raised c.args.b.x.now c.args.b.y.now bn c.args.b.height.now) _
                la lb plan room (w.sound_entries.ensures.numbered an bn la lb) (sym w.value-is ∙ c.if-sound_entries.true)
                long.0 long.1 c.if-c-2.true;
          }
      | else-c w ↦ absurd (true≢false (sym c.if-sound_entries.true ∙ w.value-is ∙ w.if-c.false))
    ]

pub returns-else-c-2 : goal.returns-else-c-2
returns-else-c-2 c =
    let plan : sound_plan c.args.c (length c.args.a.x.now) (length c.args.b.x.now) ≡ true = search rules in
    let room : room_for c.args.c.k (results c.args.distance.now c.args.first.now c.args.second.now) ≡ true = search rules in
    let most : c.args.c.entries ≤ c.args.c.k = search rules in
    elim c.if-c.branch [
      | then-c w ↦
          record {
            numbered = λ an bn la lb.
                total_decides _ (raised c.args.a.x.now c.args.a.y.now an c.args.a.height.now) (raised c.args.b.x.now c.args.b.y.now bn c.args.b.height.now) _
                la lb plan room (w.sound_entries.ensures.numbered an bn la lb) (sym w.value-is ∙ c.if-sound_entries.true)
                most c.if-c-2.false (c.settled_pairs.ensures.numbered an bn la lb);
          }
      | else-c w ↦ absurd (true≢false (sym c.if-sound_entries.true ∙ w.value-is ∙ w.if-c.false))
    ]

pub returns-else-sound_entries : goal.returns-else-sound_entries
returns-else-sound_entries c =
    let first = λ (an : List ℕ). raised c.args.a.x.now c.args.a.y.now an c.args.a.height.now in
    let second = λ (bn : List ℕ). raised c.args.b.x.now c.args.b.y.now bn c.args.b.height.now in
    rw c.if-sound_entries.false
    (elim c.if-c.branch [
      | then-c w ↦
          let plan : sound_plan c.args.c (length c.args.a.x.now) (length c.args.b.x.now) ≡ true = search rules in
          let room : room_for c.args.c.k (results c.args.distance.now c.args.first.now c.args.second.now) ≡ true = search rules in
          record {
            numbered = λ an bn la lb.
                entries_fail _ (first an) (second bn) _ la lb plan room (w.sound_entries.ensures.numbered an bn la lb)
                (sym w.value-is ∙ c.if-sound_entries.false);
          }
      | else-c w ↦
          elim c.if-room.branch [
            | then-room v ↦
                let plan : sound_plan c.args.c (length c.args.a.x.now) (length c.args.b.x.now) ≡ true = search rules in
                let room : room_for c.args.c.k (results c.args.distance.now c.args.first.now c.args.second.now) ≡ true = search rules in
                record {
                  numbered = λ an bn la lb.
                      too_many _ (first an) (second bn) _ la lb plan room (leb-false _ _ (sym v.value-is ∙ w.if-c.false));
                }
            | else-room v ↦
                elim c.if-sound_plan.branch [
                  | then-sound_plan u ↦
                      record {
                        numbered = λ an bn la lb.
                            room_fails _ (first an) (second bn) _ la lb (sym c.sound_plan.ensures ∙ u.if-sound_plan.true)
                            (sym u.room.ensures ∙ sym u.value-is ∙ v.if-room.false);
                      }
                  | else-sound_plan u ↦
                      record {
                        numbered = λ an bn la lb.
                            plan_fails _ (first an) (second bn) _ la lb (sym c.sound_plan.ensures ∙ u.if-sound_plan.false);
                      }
                ]
          ]
    ])
