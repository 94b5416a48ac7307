-- `entry::room` meets its contract.
use native.Mathlib.Omega.{arith}
use Rattle.entry.specs.Results.{room_for}
use Rattle.entry.proofs.room.Goals as goal

pub returns-then-k-first : goal.returns-then-k-first
unfolding room_for
returns-then-k-first c = grind arith

pub returns-else-k-first : goal.returns-else-k-first
unfolding room_for
returns-else-k-first c = grind arith
