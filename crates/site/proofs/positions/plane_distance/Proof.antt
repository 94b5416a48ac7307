-- `site::plane_distance` meets its contract: inside the limits the sum is below 2 ^ 63.
use mathlib.Core.Path.{◌≡◌, ◌∙◌, sym, ap₂}
use Prim.Native.Nat.{◌+◌}
use native.Mathlib.Omega.{arith}
use borrow.Author.Rules.{rules}
use lib.IntN.{ℤ}
use mir.Facts.{to_z-of_z}
use Rattle.site.specs.Site.{gap, square}
use Rattle.site.proofs.Signed.{at₂}
use Rattle.site.proofs.Distance.{squared_gap_within, squared_distance_plane}
use Rattle.site.proofs.positions.plane_distance.Statement.{statement}
use Rattle.site.proofs.positions.plane_distance.Tie as tie

along_x : (c : tie.After-squared_gap) → c.squared_gap.result ≡ square (gap c.before.args.ax c.before.args.bx)
along_x c =
    at₂ (λ (a b : ℤ). square (gap a b)) (to_z-of_z c.ranges.ax) (to_z-of_z c.ranges.bx) c.squared_gap.ensures

along_y : (c : tie.After-squared_gap-2) → c.squared_gap-2.result ≡ square (gap c.before.before.args.ay c.before.before.args.by)
along_y c =
    at₂ (λ (a b : ℤ). square (gap a b)) (to_z-of_z c.ranges.ay) (to_z-of_z c.ranges.by)
    c.squared_gap-2.ensures

add-result : tie.Need-overflow_add-result
add-result c =
    let p = c.requires in
    let a = c.args in
    let x = squared_gap_within a.ax a.bx p.0 p.2 in
    let y = squared_gap_within a.ay a.by p.1 p.3 in
    omega (arith, along_x c.before, along_y c)

returns : tie.Need-returns
returns c =
    let a = c.args in
    ap₂ ◌+◌ (along_x c.before) (along_y c) ∙ sym (squared_distance_plane a.ax a.ay a.bx a.by 0 0)

pub plane_distance_spec : {M : Type 1} → statement M
plane_distance_spec = tie.close (tie.spec (λ c κs. search rules) (λ c κs. search rules) add-result returns)
