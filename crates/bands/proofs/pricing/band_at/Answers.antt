-- `bands::band_at` meets its contract.
use Rattle.std.proofs.Common.{◌-◌, ◌<◌, ◌≤◌, get_or, arith}
use Rattle.std.proofs.lemmas.Bool.Decides.{nat_tests}
use Rattle.bands.proofs.Ends.{end_found}
use Rattle.bands.proofs.pricing.band_at.Goals as goal
use Rattle.bands.proofs.pricing.band_at.Goals.{then-ends-at, else-ends-at+then-at-gt0, else-ends-at+else-at-gt0}

pub returns-else-d-ends : goal.returns-else-d-ends
returns-else-d-ends c =
    let rising = c.requires.0 in
    let ends = c.args.ends.now in
    let at = c.args.at in
    let around : (c.args.d < get_or ends at 0) × (0 < at → get_or ends (at - 1) 0 ≤ c.args.d) =
    elim c.if-ends-at.branch [
      | then-ends-at w ↦ grind (arith, nat_tests, w.value-is)
      | else-ends-at+then-at-gt0 w ↦ grind (arith, nat_tests, w.value-is)
      | else-ends-at+else-at-gt0 w ↦ grind (arith, nat_tests, w.value-is)
    ] in
    end_found _ _ _ rising.sorted (omega (arith, rising.long, c.requires.2)) around.0 around.1
