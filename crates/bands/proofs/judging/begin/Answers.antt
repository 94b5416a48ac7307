-- `bands::begin` meets its contract: both choices are made by the one test of the number.
use Rattle.std.proofs.Common.{◌≡◌, cond, arith}
use Rattle.std.proofs.lemmas.Grind.{common_steps}
use Rattle.site.specs.Answer.{number}
use Rattle.site.specs.Site.{square}
use Rattle.bands.specs.Bands.{lawful_number}
use Rattle.bands.specs.Internal.{begun}
use Rattle.bands.proofs.judging.begin.Goals as goal
use Rattle.bands.proofs.judging.begin.Goals.{then-lawful, else-lawful}

pub returns : goal.returns
unfolding begun square lawful_number number
returns c =
    let lawful : c.contains-lawful.result ≡ lawful_number c.args.count = grind (arith, common_steps) in
    let many : c.if-lawful.result ≡ cond c.contains-lawful.result c.args.count 0 =
    elim c.if-lawful.branch [
      | then-lawful w ↦ rw w.if-lawful.true w.result-is
      | else-lawful w ↦ rw w.if-lawful.false w.result-is
    ] in
    rw (c.refuse_if.ensures, many, lawful)
