-- A column of any elements, replaced one after another by as many values.
use mathlib.Core.Path.{◌≡◌, refl, sym, ◌∙◌}
use mathlib.Core.List.{List}
use Prim.Native.Nat.{ℕ, suc, ◌≤◌, ◌<◌}
use native.Mathlib.Omega.{arith}
use lib.ListN.{length, take, get_or, set, length-set}
use lib.Seq.{take-suc, take-suc-set, take_all}

-- The first `i` elements of a column are those of the values, which are as many.
pub record Replaced {A : Type 0} (values column : List A) (i : ℕ) : Type 0 where
  pub size : length column ≡ length values
  pub first : take i column ≡ take i values

module _ {A : Type 0} (values : List A) where
  pub replaced_none : {column : List A} → length column ≡ length values → Replaced values column 0
  replaced_none h = record { size = h; first = refl }

  pub replaced_more : (d : A) {column : List A} (i : ℕ) {v : A} → i < length values → v ≡ get_or values i d
      → Replaced values column i → Replaced values (set column i v) (suc i)
  replaced_more d {column} i {v} h e f =
      record {
        size = length-set column i v ∙ f.size;
        first = rw (take-suc-set column i v (omega (arith, f.size)), take-suc values i d h, f.first, e);
      }

  pub replaced_all : {column : List A} (i : ℕ) → length values ≤ i → Replaced values column i → column ≡ values
  replaced_all {column} i h f =
      sym (take_all i column (omega (arith, f.size))) ∙ f.first ∙ take_all i values h
