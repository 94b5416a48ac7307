-- `campaign::soundness::sound_entry` meets its contract.
use mathlib.Core.Path.{◌≡◌, sym, ◌∙◌}
use mathlib.Core.Bool.{true≢false}
use borrow.Author.Tests.{eqb-true, eq-eqb}
use Rattle.std.proofs.Common.{rules, arith, ℕ, ◌<◌, ◌≤◌, List, length}
use Rattle.site.specs.SiteList.{raised}
use Rattle.campaign.proofs.SoundEntry.{holding_few, first_outside, second_outside, co_sited_lem, wrong_distance, its_job}
use Rattle.campaign.proofs.soundness.sound_entry.Goals as goal
use Rattle.campaign.proofs.soundness.sound_entry.Goals.{then-i-a, else-i-a, then-j-b, else-j-b, then-e-ne0, else-e-ne0}

pub is_settled-requires : goal.is_settled-requires
is_settled-requires c = (
  omega (arith, c.holding.ensures, c.requires.first_ends_len_bound, holding_few c.args.first_ends.now c.args.e.first),
  omega (arith, c.holding-then-e-distance_at.ensures, c.requires.first_ends_len_bound, holding_few c.args.second_ends.now c.args.e.second),
)

pub returns-then-e-distance_at : goal.returns-then-e-distance_at
returns-then-e-distance_at c =
    let inside : (c.args.e.first < length c.args.a.x.now) × (c.args.e.second < length c.args.b.x.now) = search rules in
    let some : c.args.e.distance ≡ 0 → ⊥ = search rules in
    elim c.if-e-ne0.branch [
      | then-e-ne0 w ↦
          record {
            numbered = λ an bn la lb.
                its_job _ _ _ (raised c.args.a.x.now c.args.a.y.now an c.args.a.height.now) (raised c.args.b.x.now c.args.b.y.now bn c.args.b.height.now)
                la lb c.args.e inside.0 inside.1 some (w.distance_at.ensures.numbered an bn la lb)
                (eqb-true _ _ (sym w.value-is ∙ c.if-e-distance_at.true))
                c.holding.ensures c.holding-then-e-distance_at.ensures c.is_settled.ensures;
          }
      | else-e-ne0 w ↦ absurd (true≢false (sym c.if-e-distance_at.true ∙ w.value-is ∙ w.if-e-ne0.false))
    ]

pub returns-else-e-distance_at : goal.returns-else-e-distance_at
returns-else-e-distance_at c =
    let first = λ (an : List ℕ). raised c.args.a.x.now c.args.a.y.now an c.args.a.height.now in
    let second = λ (bn : List ℕ). raised c.args.b.x.now c.args.b.y.now bn c.args.b.height.now in
    rw c.if-e-distance_at.false
    (elim c.if-e-ne0.branch [
      | then-e-ne0 w ↦
          let inside : (c.args.e.first < length c.args.a.x.now) × (c.args.e.second < length c.args.b.x.now) = search rules in
          let some : c.args.e.distance ≡ 0 → ⊥ = search rules in
          record {
            numbered = λ an bn la lb.
                wrong_distance _ _ _ (first an) (second bn) la lb c.args.e inside.0 inside.1 some (w.distance_at.ensures.numbered an bn la lb)
                (λ e. true≢false (sym (eq-eqb _ _ e) ∙ sym w.value-is ∙ c.if-e-distance_at.false));
          }
      | else-e-ne0 w ↦
          elim c.if-j-b.branch [
            | then-j-b v ↦
                let inside : (c.args.e.first < length c.args.a.x.now) × (c.args.e.second < length c.args.b.x.now) = search rules in
                let none : c.args.e.distance ≡ 0 = search rules in
                record {
                  numbered = λ an bn la lb. co_sited_lem _ _ _ (first an) (second bn) la lb c.args.e inside.0 inside.1 none;
                }
            | else-j-b v ↦
                elim c.if-i-a.branch [
                  | then-i-a u ↦
                      let past : length c.args.b.x.now ≤ c.args.e.second = search rules in
                      record {
                        numbered = λ an bn la lb. second_outside _ _ _ (first an) (second bn) la lb c.args.e u.if-i-a.true past;
                      }
                  | else-i-a u ↦
                      record {
                        numbered = λ an bn la lb. first_outside _ _ _ (first an) (second bn) la lb c.args.e u.if-i-a.false;
                      }
                ]
          ]
    ])
