-- A look: each return is one of its outcomes.
use mathlib.Core.Path.{refl}
use Rattle.sweep.proofs.LookLaws.{look_stops, look_flat, look_passes, look_leaves, look_offers}
use Rattle.sweep.proofs.look.look.Goals as goal
use Rattle.sweep.proofs.look.look.Goals.{then-tally-squared-via-then-tally-squared, then-tally-squared-via-else-tally-squared+then-squared-eq0}

pub returns-then-tally-squared_gap_at : goal.returns-then-tally-squared_gap_at
returns-then-tally-squared_gap_at c = look_stops c.requires c.squared_gap_at.ensures c.if-tally-squared_gap_at.true

pub returns-then-tally-plane_distance_at : goal.returns-then-tally-plane_distance_at
returns-then-tally-plane_distance_at c = look_flat c.requires c.squared_gap_at.ensures refl c.if-tally-squared_gap_at.false c.plane_distance_at.ensures c.if-tally-plane_distance_at.true

pub returns-then-tally-squared : goal.returns-then-tally-squared
returns-then-tally-squared c =
    elim c.then-tally-squared.branch [
      | then-tally-squared-via-then-tally-squared w ↦
          look_passes c.requires c.squared_gap_at.ensures c.squared_distance_at-squared.ensures c.if-tally-squared_gap_at.false w.if-tally-squared.true
      | then-tally-squared-via-else-tally-squared+then-squared-eq0 w ↦
          look_leaves c.requires c.squared_gap_at.ensures c.squared_distance_at-squared.ensures c.if-tally-squared_gap_at.false w.if-squared-eq0.true
    ]

pub returns : goal.returns
returns c =
    rw c.gone_on.ensures
    (look_offers c.requires c.squared_gap_at.ensures c.squared_distance_at-squared.ensures c.if-tally-squared_gap_at.false
    c.if-squared-eq0.false refl c.offered-next.ensures)
