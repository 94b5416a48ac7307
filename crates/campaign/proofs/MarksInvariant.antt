-- Marks taken one at a time.
use mathlib.Core.Path.{◌≡◌, refl, sym, ap, ◌∙◌}
use mathlib.Core.Bool.{Bool, true, false, ◌&&◌}
use mathlib.Core.List.{List, [], ◌∷◌}
use Prim.Native.Nat.{ℕ, suc, ◌+◌, ◌≤◌, ◌<◌}
use native.Mathlib.Numerals.{add-one}
use lib.ListN.{length, get_or, drop, drop_of_length-le}
use lib.Seq.{drop-cons}
use Rattle.campaign.specs.Grid.{lawful_mark, lawful_marks}

marks_cons : (rows cols i m : ℕ) (l : List ℕ) → lawful_marks rows cols i (m ∷ l) ≡ (lawful_mark rows cols i m && lawful_marks rows cols (suc i) l)
unfolding lawful_marks
marks_cons rows cols i m l = refl

marks_nil : (rows cols i : ℕ) → lawful_marks rows cols i [] ≡ true
unfolding lawful_marks
marks_nil rows cols i = refl

module _ (rows cols : ℕ) (marks : List ℕ) (i : ℕ) (left : lawful_marks rows cols i (drop i marks) ≡ lawful_marks rows cols 0 marks) where
  module _ (inside : i < length marks) {r : Bool} (is : r ≡ lawful_mark rows cols i (get_or marks i 0)) where
    here : lawful_marks rows cols 0 marks ≡ (r && lawful_marks rows cols (i + 1) (drop (i + 1) marks))
    here =
        sym left
        ∙ ap (λ (l : List ℕ). lawful_marks rows cols i l) (drop-cons marks i 0 inside)
        ∙ marks_cons rows cols i (get_or marks i 0) (drop (suc i) marks)
        ∙ rw (is, add-one i)

    pub marks_more : r ≡ true → lawful_marks rows cols (i + 1) (drop (i + 1) marks) ≡ lawful_marks rows cols 0 marks
    marks_more t = sym (here ∙ rw t)

    pub marks_fall : r ≡ false → false ≡ lawful_marks rows cols 0 marks
    marks_fall t = sym (here ∙ rw t)

  pub marks_end : length marks ≤ i → true ≡ lawful_marks rows cols 0 marks
  marks_end h = sym (sym left ∙ ap (λ (l : List ℕ). lawful_marks rows cols i l) (drop_of_length-le marks h) ∙ marks_nil rows cols i)
