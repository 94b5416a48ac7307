-- `site::between` meets its contract.
use mir.Facts.{to_z-of_z}
use Rattle.site.proofs.Within.{between_upper, between_lower}
use Rattle.site.proofs.between.Goals as goal

pub returns-then-low-c : goal.returns-then-low-c
returns-then-low-c c =
    let f = c.ranges in
    between_upper (to_z-of_z f.low) (to_z-of_z f.high) (to_z-of_z f.c) c.if-low-c.true

pub returns-else-low-c : goal.returns-else-low-c
returns-else-low-c c = let f = c.ranges in between_lower _ (to_z-of_z f.low) (to_z-of_z f.c) c.if-low-c.false
