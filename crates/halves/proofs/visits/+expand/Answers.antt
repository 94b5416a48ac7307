-- A pair of ranges that is kept is offered, or two smaller ones are visited in turn.
use native.Mathlib.Omega.{arith}
use Rattle.halves.proofs.SquaredStripGap.{range_within}
use Rattle.halves.proofs.Visiting.{number_fits, kept_asks, kept_done, dropped_done, expand_offers, sooner_asks, first_turns, second_turns, later_fits, later_kept, both_done, first_alone}
use Rattle.halves.proofs.visits.+expand.Goals as goal
use Rattle.halves.proofs.visits.+expand.Goals.{then-sooner-tally, else-sooner-tally, then-sooner-tally-2, else-sooner-tally-2}

pub returns-then-n-m-eq2 : goal.returns-then-n-m-eq2
returns-then-n-m-eq2 t c = (c.offer.ensures.0, expand_offers c.requires.expand_asked.ranges c.if-n-m-eq2.true c.offer.ensures.1)

pub halve-requires : goal.halve-requires
halve-requires t c =
    let w = c.requires.expand_asked.ranges in
    let other = w.second.places in
    (w.first, (omega (arith, c.if-m-n.true, c.if-n-m-eq2.false, w.first.places.some, other.some), range_within other w.second.box))

pub halve-requires-2 : goal.halve-requires-2
halve-requires-2 t c =
    let w = c.requires.expand_asked.ranges in
    let own = w.first.places in
    (w.second, (omega (arith, c.if-m-n.false, own.some), range_within own w.first.box))

pub overflow_add-tally : goal.overflow_add-tally
overflow_add-tally t c =
    let a = c.requires.expand_asked in
    let turns = first_turns a.ranges c.if-m-n.true (omega (arith, c.if-n-m-eq2.false, a.ranges.first.places.some, a.ranges.second.places.some)) c.halve.ensures in
    omega (arith, number_fits _ c.requires.tally_len (sooner_asks a turns) turns.fits.0)

pub expand-requires : goal.expand-requires
expand-requires t c =
    let a = c.requires.expand_asked in
    let turns = first_turns a.ranges c.if-m-n.true (omega (arith, c.if-n-m-eq2.false, a.ranges.first.places.some, a.ranges.second.places.some)) c.halve.ensures in
    (omega (arith, c.decreases, turns.fall.0), kept_asks _ c.requires.tally_len (sooner_asks a turns) turns.fits.0 c.if-sooner-tally.true)

pub overflow_add-tally-then-m-n : goal.overflow_add-tally-then-m-n
overflow_add-tally-then-m-n t c =
    let a = c.requires.expand_asked in
    let turns = first_turns a.ranges c.if-m-n.true (omega (arith, c.if-n-m-eq2.false, a.ranges.first.places.some, a.ranges.second.places.some)) c.halve.ensures in
    elim c.if-sooner-tally.branch [
      | then-sooner-tally w ↦ omega (arith, later_fits a turns (kept_done _ c.requires.tally_len (sooner_asks a turns) turns.fits.0 w.if-sooner-tally.true w.expand.ensures w.tally-is w.distance-is w.first-is w.second-is))
      | else-sooner-tally w ↦ omega (arith, later_fits a turns (dropped_done _ c.requires.tally_len (sooner_asks a turns) turns.fits.0 w.if-sooner-tally.false w.tally-is w.distance-is w.first-is w.second-is))
    ]

pub expand-requires-then-later-tally : goal.expand-requires-then-later-tally
expand-requires-then-later-tally t c =
    let a = c.requires.expand_asked in
    let turns = first_turns a.ranges c.if-m-n.true (omega (arith, c.if-n-m-eq2.false, a.ranges.first.places.some, a.ranges.second.places.some)) c.halve.ensures in (
      omega (arith, c.decreases, turns.fall.1),
      elim c.if-sooner-tally.branch [
        | then-sooner-tally w ↦ later_kept a turns
            (kept_done _ c.requires.tally_len (sooner_asks a turns) turns.fits.0 w.if-sooner-tally.true w.expand.ensures w.tally-is w.distance-is w.first-is w.second-is) c.if-later-tally.true
        | else-sooner-tally w ↦ later_kept a turns
            (dropped_done _ c.requires.tally_len (sooner_asks a turns) turns.fits.0 w.if-sooner-tally.false w.tally-is w.distance-is w.first-is w.second-is) c.if-later-tally.true
      ],
    )

pub returns-then-later-tally : goal.returns-then-later-tally
returns-then-later-tally t c =
    let a = c.requires.expand_asked in
    let turns = first_turns a.ranges c.if-m-n.true (omega (arith, c.if-n-m-eq2.false, a.ranges.first.places.some, a.ranges.second.places.some)) c.halve.ensures in
    elim c.if-sooner-tally.branch [
      | then-sooner-tally w ↦ both_done a turns
          (kept_done _ c.requires.tally_len (sooner_asks a turns) turns.fits.0 w.if-sooner-tally.true w.expand.ensures w.tally-is w.distance-is w.first-is w.second-is) c.if-later-tally.true _ c.expand-then-later-tally.ensures
      | else-sooner-tally w ↦ both_done a turns
          (dropped_done _ c.requires.tally_len (sooner_asks a turns) turns.fits.0 w.if-sooner-tally.false w.tally-is w.distance-is w.first-is w.second-is) c.if-later-tally.true _ c.expand-then-later-tally.ensures
    ]

pub returns-else-later-tally : goal.returns-else-later-tally
returns-else-later-tally t c =
    let a = c.requires.expand_asked in
    let turns = first_turns a.ranges c.if-m-n.true (omega (arith, c.if-n-m-eq2.false, a.ranges.first.places.some, a.ranges.second.places.some)) c.halve.ensures in
    elim c.if-sooner-tally.branch [
      | then-sooner-tally w ↦ first_alone a turns
          (kept_done _ c.requires.tally_len (sooner_asks a turns) turns.fits.0 w.if-sooner-tally.true w.expand.ensures w.tally-is w.distance-is w.first-is w.second-is) c.if-later-tally.false
      | else-sooner-tally w ↦ first_alone a turns
          (dropped_done _ c.requires.tally_len (sooner_asks a turns) turns.fits.0 w.if-sooner-tally.false w.tally-is w.distance-is w.first-is w.second-is) c.if-later-tally.false
    ]

pub overflow_add-tally-2 : goal.overflow_add-tally-2
overflow_add-tally-2 t c =
    let a = c.requires.expand_asked in
    let turns = second_turns a.ranges c.if-m-n.false c.halve-2.ensures in
    omega (arith, number_fits _ c.requires.tally_len (sooner_asks a turns) turns.fits.0)

pub expand-requires-then-sooner-tally-2 : goal.expand-requires-then-sooner-tally-2
expand-requires-then-sooner-tally-2 t c =
    let a = c.requires.expand_asked in
    let turns = second_turns a.ranges c.if-m-n.false c.halve-2.ensures in
    (omega (arith, c.decreases, turns.fall.0), kept_asks _ c.requires.tally_len (sooner_asks a turns) turns.fits.0 c.if-sooner-tally-2.true)

pub overflow_add-tally-3 : goal.overflow_add-tally-3
overflow_add-tally-3 t c =
    let a = c.requires.expand_asked in
    let turns = second_turns a.ranges c.if-m-n.false c.halve-2.ensures in
    elim c.if-sooner-tally-2.branch [
      | then-sooner-tally-2 w ↦ omega (arith, later_fits a turns (kept_done _ c.requires.tally_len (sooner_asks a turns) turns.fits.0 w.if-sooner-tally-2.true w.expand-then-sooner-tally-2.ensures w.tally-is w.distance-is w.first-is w.second-is))
      | else-sooner-tally-2 w ↦ omega (arith, later_fits a turns (dropped_done _ c.requires.tally_len (sooner_asks a turns) turns.fits.0 w.if-sooner-tally-2.false w.tally-is w.distance-is w.first-is w.second-is))
    ]

pub expand-requires-then-later-tally-2 : goal.expand-requires-then-later-tally-2
expand-requires-then-later-tally-2 t c =
    let a = c.requires.expand_asked in
    let turns = second_turns a.ranges c.if-m-n.false c.halve-2.ensures in (
      omega (arith, c.decreases, turns.fall.1),
      elim c.if-sooner-tally-2.branch [
        | then-sooner-tally-2 w ↦ later_kept a turns
            (kept_done _ c.requires.tally_len (sooner_asks a turns) turns.fits.0 w.if-sooner-tally-2.true w.expand-then-sooner-tally-2.ensures w.tally-is w.distance-is w.first-is w.second-is) c.if-later-tally-2.true
        | else-sooner-tally-2 w ↦ later_kept a turns
            (dropped_done _ c.requires.tally_len (sooner_asks a turns) turns.fits.0 w.if-sooner-tally-2.false w.tally-is w.distance-is w.first-is w.second-is) c.if-later-tally-2.true
      ],
    )

pub returns-then-later-tally-2 : goal.returns-then-later-tally-2
returns-then-later-tally-2 t c =
    let a = c.requires.expand_asked in
    let turns = second_turns a.ranges c.if-m-n.false c.halve-2.ensures in
    elim c.if-sooner-tally-2.branch [
      | then-sooner-tally-2 w ↦ both_done a turns
          (kept_done _ c.requires.tally_len (sooner_asks a turns) turns.fits.0 w.if-sooner-tally-2.true w.expand-then-sooner-tally-2.ensures w.tally-is w.distance-is w.first-is w.second-is) c.if-later-tally-2.true _ c.expand-then-later-tally-2.ensures
      | else-sooner-tally-2 w ↦ both_done a turns
          (dropped_done _ c.requires.tally_len (sooner_asks a turns) turns.fits.0 w.if-sooner-tally-2.false w.tally-is w.distance-is w.first-is w.second-is) c.if-later-tally-2.true _ c.expand-then-later-tally-2.ensures
    ]

pub returns-else-later-tally-2 : goal.returns-else-later-tally-2
returns-else-later-tally-2 t c =
    let a = c.requires.expand_asked in
    let turns = second_turns a.ranges c.if-m-n.false c.halve-2.ensures in
    elim c.if-sooner-tally-2.branch [
      | then-sooner-tally-2 w ↦ first_alone a turns
          (kept_done _ c.requires.tally_len (sooner_asks a turns) turns.fits.0 w.if-sooner-tally-2.true w.expand-then-sooner-tally-2.ensures w.tally-is w.distance-is w.first-is w.second-is) c.if-later-tally-2.false
      | else-sooner-tally-2 w ↦ first_alone a turns
          (dropped_done _ c.requires.tally_len (sooner_asks a turns) turns.fits.0 w.if-sooner-tally-2.false w.tally-is w.distance-is w.first-is w.second-is) c.if-later-tally-2.false
    ]
