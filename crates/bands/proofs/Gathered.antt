-- A tariff under way: the bands of a table taken one by one.
use mathlib.Core.Path.{◌≡◌, refl, sym, ap, ◌∙◌}
use mathlib.Core.Bool.{◌&&◌}
use mathlib.Core.List.{List, [], ◌∷◌}
use Prim.Native.Nat.{ℕ, zero, suc, ◌+◌, ◌≤◌, ◌<◌}
use native.Mathlib.Omega.{arith}
use native.Mathlib.Nat.{le_of_suc-le-suc, le_refl, zero-add, add-zero, add-suc, suc-add}
use borrow.Author.Tests.{leb-true}
use lib.Dec.{leb}
use lib.ListN.{length, take, get_or}
use Rattle.order.proofs.Order.{by_test}
use Rattle.site.proofs.Tests.{and_second}
use Rattle.bands.specs.declared.Band.{Band}
use Rattle.bands.specs.Bands.{lawful_number}
use Rattle.bands.specs.Internal.{Tariff, begun, taken, taken_from, gathered}

-- With the first `i` bands of a table taken.
unfoldable pub gathered_to : List Band → ℕ → Tariff
gathered_to bands i = taken_from (begun (length bands)) 0 (take i bands)

-- No band is taken yet.
pub gathered_none : (bands : List Band) → gathered_to bands 0 ≡ begun (length bands)
unfolding gathered_to taken_from
gathered_none bands = refl

taken_last : (t : Tariff) (j : ℕ) (bands : List Band) (i : ℕ) (d : Band) → i < length bands
    → taken_from t j (take (suc i) bands) ≡ taken (taken_from t j (take i bands)) (j + i) (get_or bands i d)
unfolding taken_from
taken_last t j [] i d less = absurd (omega arith)
taken_last t j (b ∷ l) zero d less = ap (λ (k : ℕ). taken t k b) (sym (add-zero j))
taken_last t j (b ∷ l) (suc i) d less =
    taken_last (taken t j b) (suc j) l i d (le_of_suc-le-suc less)
    ∙ ap (λ (k : ℕ). taken (taken_from (taken t j b) (suc j) (take i l)) k (get_or l i d)) (suc-add j i ∙ sym (add-suc j i))

-- The band at place `i` is taken next.
pub gathered_next : (bands : List Band) (i : ℕ) (d : Band) → i < length bands
    → gathered_to bands (suc i) ≡ taken (gathered_to bands i) i (get_or bands i d)
unfolding gathered_to
gathered_next bands i d less =
    let t = begun (length bands) in
    taken_last t 0 bands i d less ∙ ap (λ (k : ℕ). taken (taken_from t 0 (take i bands)) k (get_or bands i d)) (zero-add i)

-- All that are to be taken are.
pub gathered_all : (bands : List Band) → gathered_to bands (begun (length bands)).bands ≡ gathered bands
unfolding gathered_to gathered
gathered_all bands = refl

-- As many as there are at most are to be taken, and at most 64.
pub begun_few : (n : ℕ) → ((begun n).bands ≤ n) × ((begun n).bands ≤ 64)
unfolding begun lawful_number
begun_few n =
    by_test (leb 1 n && leb n 64) (λ h. (rw h (le_refl n), rw h (leb-true n 64 (and_second (leb 1 n) (leb n 64) h))))
    (λ h. (rw h (omega arith), rw h (omega arith)))
