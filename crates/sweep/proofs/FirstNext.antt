-- Which list has the next reference.
use mathlib.Core.Path.{◌≡◌, sym}
use mathlib.Core.Bool.{true, false}
use mathlib.Core.List.{List}
use Prim.Native.Nat.{ℕ, ◌≤◌, ◌<◌}
use lib.IntN.{ℤ, pos}
use lib.ListN.{get_or}
use lib.Signed.{le_z}
use borrow.Author.Tests.{lt-ltb, le-ltb, le-leb, lt-leb}
use Rattle.sweep.specs.Sweep.{leads}
use Rattle.sweep.specs.Terms.{spot}
use Rattle.sweep.specs.Internal.{first_next}

module _ (ax : List ℤ) (i aTo : ℕ) (bx : List ℤ) (j bTo : ℕ) where
  pub next_none : aTo ≤ i → false ≡ first_next ax i aTo bx j bTo
  unfolding first_next
  next_none h = simp (le-ltb i aTo h)

  pub next_alone : i < aTo → bTo ≤ j → true ≡ first_next ax i aTo bx j bTo
  unfolding first_next
  next_alone h g = simp (lt-ltb i aTo h, le-leb bTo j g)

  next_both : i < aTo → j < bTo → first_next ax i aTo bx j bTo ≡ le_z (get_or ax i (pos 0)) (get_or bx j (pos 0))
  unfolding first_next
  next_both h g = simp (lt-ltb i aTo h, lt-leb bTo j g)

  -- The next of both lists: which one leads.
  pub next_leads : (ay ah by bh : List ℤ) → i < aTo → j < bTo → leads (spot ax ay ah i) (spot bx by bh j) ≡ first_next ax i aTo bx j bTo
  unfolding leads spot
  next_leads ay ah by bh h g = sym (next_both h g)
