-- `site::squared_gap` meets its contract: a gap of two `i32` is below 2 ^ 32.
use mathlib.Core.Path.{◌≡◌, ap₂}
use mir.Facts.{to_z-of_z}
use Prim.Native.Nat.{◌*◌}
use borrow.Author.Rules.{rules}
use Rattle.site.specs.Site.{gap, square}
use Rattle.site.proofs.Signed.{at₂, gap_squared_fits}
use Rattle.site.proofs.positions.squared_gap.Statement.{statement}
use Rattle.site.proofs.positions.squared_gap.Tie as tie

learnt : (c : tie.After-gap-g) → c.gap-g.result ≡ gap c.before.args.a c.before.args.b
learnt c = at₂ gap (to_z-of_z c.ranges.a) (to_z-of_z c.ranges.b) c.gap-g.ensures

mul-result : tie.Need-overflow_mul-result
mul-result c = gap_squared_fits c.ranges.a c.ranges.b (learnt c)

returns : tie.Need-returns
unfolding square
returns c = ap₂ ◌*◌ (learnt c) (learnt c)

pub squared_gap_spec : {M : Type 1} → statement M
squared_gap_spec = tie.close (tie.spec (λ c κs. search rules) mul-result returns)
