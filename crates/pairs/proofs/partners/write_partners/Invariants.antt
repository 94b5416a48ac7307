-- The numbers of the places passed are written and summed.
use Rattle.std.proofs.Common.{map}
use Rattle.column.proofs.Filled.{Filled}
use Rattle.site.specs.Site.{gap}
use Rattle.pairs.specs.Forecast.{count_within}
use Rattle.pairs.proofs.NearPairs.{Ready}
use Rattle.pairs.proofs.partners.write_partners.Given as goal

abbrev pub invariant-loop-i : goal.invariant-loop-i
invariant-loop-i l =
    (Ready l.ax l.bx l.e l.i l.run)
    × (Filled (λ x. count_within l.e (map (gap x) l.bx)) 65_535 l.ax l.initial.partners l.i l.partners l.total)
