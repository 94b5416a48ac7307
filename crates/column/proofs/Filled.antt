-- A number for each element of a list, written into a column and summed one after another.
use mathlib.Core.Path.{◌≡◌, refl, ◌∙◌}
use mathlib.Core.List.{List, [], ◌∷◌, ◌++◌, map, map-append}
use Prim.Native.Nat.{ℕ, ◌+◌, ◌*◌, ◌≤◌, ◌<◌}
use native.Mathlib.Nat.{mul-suc}
use native.Mathlib.Numerals.{add-one}
use native.Mathlib.Omega.{arith}
use lib.ListN.{length, take, get_or, set, length-map, length-set}
use lib.Seq.{take-suc, take_all, length-take-le}
use Rattle.order.specs.Lists.{sum}
use Rattle.order.proofs.Lists.{sum_append}
use Rattle.column.specs.Column.{overwritten}
use Rattle.column.proofs.Stored.{overwritten_last}

-- The numbers of the first `i` elements are written, each at most `most`, and `t` is their sum.
pub record Filled {A : Type 0} (number : A → ℕ) (most : ℕ) (l : List A) (before : List ℕ) (i : ℕ) (column : List ℕ) (t : ℕ)
    : Type 0 where
  pub holds : column ≡ overwritten (map number (take i l)) before
  pub total : t ≡ sum (map number (take i l))
  pub few : t ≤ most * i
  pub long : length column ≡ length before

module _ {A : Type 0} {number : A → ℕ} {most : ℕ} {l : List A} {before : List ℕ} where
  -- None yet.
  pub filled_none : Filled number most l before 0 before 0
  unfolding sum overwritten
  filled_none = record { holds = refl; total = refl; few = omega arith; long = refl }

  -- One more.
  pub filled_more : (d : A) {i : ℕ} {column : List ℕ} {t v : ℕ} → i < length l → length l ≤ length before
      → v ≡ number (get_or l i d) → v ≤ most → Filled number most l before i column t
      → Filled number most l before (i + 1) (set column i v) (t + v)
  unfolding sum
  filled_more d {i} {column} {t} {v} h room e small w =
      let each = map number (take i l) in
      let n : length each ≡ i = length-map (take i l) number ∙ length-take-le i l (omega arith) in
      let more : map number (take (i + 1) l) ≡ each ++ (v ∷ []) =
      rw (add-one i, take-suc l i d h, e) (map-append number (take i l) (get_or l i d ∷ [])) in
      record {
        holds = rw (w.holds, more) (rw n at (overwritten_last each before v (omega arith)));
        total = rw more (omega (arith, w.total, sum_append each (v ∷ [])));
        few = rw (add-one i, mul-suc most i) (omega (arith, w.few));
        long = length-set column i v ∙ w.long;
      }

  -- All of them.
  pub filled_all : {i : ℕ} {column : List ℕ} {t : ℕ} → length l ≤ i → Filled number most l before i column t
      → let each = map number l in (column ≡ overwritten each before) × (t ≡ sum each)
  filled_all {i} h w =
      let all = take_all i l h in
      (rw all at w.holds, rw all at w.total)
