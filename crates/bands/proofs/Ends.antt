-- Where a squared distance falls among ascending ends.
use mathlib.Core.Path.{◌≡◌}
use mathlib.Core.Bool.{Bool, true, false}
use mathlib.Core.List.{List, [], ◌∷◌}
use Prim.Native.Nat.{ℕ, zero, suc, ◌*◌, ◌-◌, ◌≤◌, ◌<◌}
use native.Mathlib.Omega.{arith}
use borrow.Author.Tests.{ltb-false, le-leb, lt-leb}
use mir.Val.{bool_byte}
use lib.Dec.{leb, ltb}
use lib.ListN.{length, get_or}
use Rattle.order.specs.Terms.{Sorted}
use Rattle.order.proofs.Order.{by_test}
use Rattle.order.proofs.Lists.{keep_yes, keep_no, keep_none, all_at, all_weaken}
use Rattle.bands.specs.Internal.{band_at}

-- The ends not above `d`.
abbrev under : ℕ → ℕ → Bool
under d e = leb e d

-- An end at most the distance comes before its band.
pub end_below : (ends : List ℕ) (d i : ℕ) → Sorted ltb ends → i < length ends → get_or ends i 0 ≤ d → i < band_at ends d
unfolding Sorted band_at
end_below [] d i s h g = absurd (omega arith)
end_below (e ∷ l) d zero s h g = rw (keep_yes (under d) e l (le-leb e d g)) (omega arith)
end_below (e ∷ l) d (suc i) s h g =
    let first : e ≤ get_or l i 0 = ltb-false _ _ (all_at (λ x. ltb x e ≡ false) l i 0 (omega arith) s.0) in
    rw (keep_yes (under d) e l (le-leb e d (omega arith))) (omega (arith, end_below l d i s.1 (omega arith) g))

-- The band of the distance is no later than an end above it.
pub end_above : (ends : List ℕ) (d i : ℕ) → Sorted ltb ends → i < length ends → d < get_or ends i 0 → band_at ends d ≤ i
unfolding Sorted band_at
end_above [] d i s h g = absurd (omega arith)
end_above (e ∷ l) d zero s h g =
    let none = keep_none (under d) l
    (all_weaken (λ x. ltb x e ≡ false) (λ x. under d x ≡ false) (λ x f. lt-leb x d (omega (arith, ltb-false x e f))) l s.0) in
    rw (keep_no (under d) e l (lt-leb e d g), none) (omega arith)
end_above (e ∷ l) d (suc i) s h g =
    let rest = end_above l d i s.1 (omega arith) g in
    by_test (under d e) (λ t. rw (keep_yes (under d) e l t) (omega arith)) (λ f. rw (keep_no (under d) e l f) (omega arith))

-- So the first end above the distance is its band's.
pub end_found : (ends : List ℕ) (d i : ℕ) → Sorted ltb ends → i < length ends → d < get_or ends i 0
    → (0 < i → get_or ends (i - 1) 0 ≤ d) → i ≡ band_at ends d
end_found ends d zero s h g k = omega (arith, end_above ends d 0 s h g)
end_found ends d (suc i) s h g k =
    omega (arith, end_above ends d (suc i) s h g, end_below ends d (suc i - 1) s (omega arith) (k (omega arith)))

-- ---- a step with no jump: a half further where a test holds

module _ (half : ℕ) (t : Bool) where
  pub step_taken : t ≡ true → half * bool_byte t ≡ half
  step_taken y = rw y (omega arith)

  pub step_left : t ≡ false → half * bool_byte t ≡ 0
  step_left n = rw n (omega arith)
