-- What the comparison tells is the rank.
use native.Mathlib.Omega.{arith}
use Rattle.entry.proofs.RankCompare.{before_iff}
use Rattle.entry.proofs.before.Goals as goal

pub returns-in-Before : goal.returns-in-Before
returns-in-Before c = grind (arith, before_iff)

pub returns-in_default : goal.returns-in_default
returns-in_default c = grind (arith, before_iff)
