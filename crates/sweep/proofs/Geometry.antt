-- What a sweep needs of the things that it pairs up.
use mathlib.Core.Path.{◌≡◌, sym, ◌∙◌}
use mathlib.Core.Bool.{Bool, true, false}
use mathlib.Core.List.{List, [], ◌∷◌}
use Prim.Native.Nat.{◌≤◌}
use native.Mathlib.Nat.{le_trans}
use lib.IntN.{ℤ}
use lib.Signed.{lt_z, le_z}
use Rattle.order.specs.Lists.{All}
use Rattle.order.specs.Terms.{Sorted}
use Rattle.order.proofs.Order.{by_test, never_both, irrefl, lt_z_order}
use Rattle.order.proofs.Lists.{all_weaken, mem_all}
use Rattle.order.specs.Order.{on}
use Rattle.site.specs.Site.{gap, square}
use Rattle.site.proofs.Integers.{not_lt_le, le_total, le_trans as leZ-trans}
use Rattle.site.proofs.Distance.{gap_sym, gap_grows, gap_shrinks, square_le}
use Rattle.sweep.specs.Scan.{Candidate}
use Rattle.sweep.proofs.ScanLaws.{Widening, Bounding}

-- `leftA`, `left_b`: the first is left of the second. A gap is at most the distance; and two that are moved apart keep which of
-- them leads, and their gap does not shrink.
pub record Geometry {A B : Type 0} (leftA : A → A → Bool) (left_b : B → B → Bool) (leads : A → B → Bool) (look : A → B → Candidate) : Type 0 where
  pub still_a : (a : A) → leftA a a ≡ false
  pub still_b : (b : B) → left_b b b ≡ false
  pub bound : (a : A) (b : B) → (look a b).gap ≤ (look a b).entry.distance
  pub leads_on : (a c : A) (b d : B) → leads a b ≡ true → leftA a c ≡ false → left_b d b ≡ false → leads c d ≡ true
  pub leads_wider : (a c : A) (b d : B) → leads a b ≡ true → leftA a c ≡ false → left_b d b ≡ false → (look a b).gap ≤ (look c d).gap
  pub follows_wider : (a c : A) (b d : B) → leads a b ≡ false → leftA c a ≡ false → left_b b d ≡ false → (look a b).gap ≤ (look c d).gap

-- Gaps that do not shrink from an element to any later one.
pub widening : {X : Type 0} (f : X → Candidate) (left : X → X → Bool) (P : X → Type 0)
    → ((x y : X) → P x → left y x ≡ false → (f x).gap ≤ (f y).gap) → (l : List X) → All P l → Sorted left l → Widening f l
unfolding All Sorted Widening
widening f left P g [] h s = tt
widening f left P g (x ∷ l) h s =
    (all_weaken (λ y. left y x ≡ false) (λ y. (f x).gap ≤ (f y).gap) (λ y n. g x y h.0 n) l s.0, widening f left P g l h.1 s.1)

module _ {A B : Type 0} {leftA : A → A → Bool} {left_b : B → B → Bool} {leads : A → B → Bool} {look : A → B → Candidate}
    (G : Geometry leftA left_b leads look) where
  pub follows_on : (a c : A) (b d : B) → leads a b ≡ false → leftA c a ≡ false → left_b b d ≡ false → leads c d ≡ false
  follows_on a c b d h p q = by_test (leads c d) (λ t. never_both (G.leads_on c a d b t p q) h) (λ f. f)

  -- Where `a` leads the first, it leads all to its right.
  pub leads_all : (a : A) (b : B) (q : List B) → leads a b ≡ true → Sorted left_b (b ∷ q) → All (λ d. leads a d ≡ true) (b ∷ q)
  unfolding All Sorted
  leads_all a b q h s =
      (h, all_weaken (λ d. left_b d b ≡ false) (λ d. leads a d ≡ true) (λ d n. G.leads_on a a b d h (G.still_a a) n) q s.0)

  pub follows_all : (a : A) (b : B) (p : List A) → leads a b ≡ false → Sorted leftA (a ∷ p) → All (λ c. leads c b ≡ false) (a ∷ p)
  unfolding All Sorted
  follows_all a b p h s =
      (h, all_weaken (λ c. leftA c a ≡ false) (λ c. leads c b ≡ false) (λ c n. follows_on a c b b h n (G.still_b b)) p s.0)

  -- From a reference of the first list to the right, and to the left.
  pub row_widening : (a : A) (q : List B) → All (λ b. leads a b ≡ true) q → Sorted left_b q → Widening (look a) q
  row_widening a q h s =
      widening (look a) left_b (λ b. leads a b ≡ true) (λ b d l n. G.leads_wider a a b d l (G.still_a a) n) q h s

  pub row_widening_back : (a : A) (v : List B) → All (λ b. leads a b ≡ false) v → Sorted (λ b d. left_b d b) v → Widening (look a) v
  row_widening_back a v h s =
      widening (look a) (λ b d. left_b d b) (λ b. leads a b ≡ false) (λ b d l n. G.follows_wider a a b d l (G.still_a a) n) v h s

  -- From a reference of the second list.
  pub column_widening : (b : B) (p : List A) → All (λ a. leads a b ≡ false) p → Sorted leftA p → Widening (λ a. look a b) p
  column_widening b p h s =
      widening (λ a. look a b) leftA (λ a. leads a b ≡ false) (λ a c l n. G.follows_wider a c b b l n (G.still_b b)) p h s

  pub column_widening_back : (b : B) (u : List A) → All (λ a. leads a b ≡ true) u → Sorted (λ a c. leftA c a) u → Widening (λ a. look a b) u
  column_widening_back b u h s =
      widening (λ a. look a b) (λ a c. leftA c a) (λ a. leads a b ≡ true) (λ a c l n. G.leads_wider a c b b l n (G.still_b b)) u h s

  pub row_bounding : (a : A) (q : List B) → Bounding (look a) q
  unfolding Bounding
  row_bounding a q = mem_all (λ b. (look a b).gap ≤ (look a b).entry.distance) q (λ b m. G.bound a b)

  pub column_bounding : (b : B) (p : List A) → Bounding (λ a. look a b) p
  unfolding Bounding
  column_bounding b p = mem_all (λ a. (look a b).gap ≤ (look a b).entry.distance) p (λ a m. G.bound a b)

-- ---- things that stand on a line

gap_apart : (x v y w : ℤ) → le_z x y ≡ true → le_z v x ≡ true → le_z y w ≡ true → gap x y ≤ gap v w
gap_apart x v y w h p q = le_trans (gap_grows x y w h q) (gap_shrinks v x w p (leZ-trans x y w h q))

module _ {A B : Type 0} (keyA : A → ℤ) (keyB : B → ℤ) (leads : A → B → Bool) (look : A → B → Candidate)
    (by_key : (a : A) (b : B) → leads a b ≡ le_z (keyA a) (keyB b))
    (by-gap : (a : A) (b : B) → (look a b).gap ≡ square (gap (keyA a) (keyB b)))
    (under : (a : A) (b : B) → (look a b).gap ≤ (look a b).entry.distance) where
  keys_lead : (a c : A) (b d : B) → leads a b ≡ true → lt_z (keyA a) (keyA c) ≡ false → lt_z (keyB d) (keyB b) ≡ false → leads c d ≡ true
  keys_lead a c b d h p q =
      by_key c d ∙
      leZ-trans (keyA c) (keyA a) (keyB d) (not_lt_le (keyA c) (keyA a) p)
      (leZ-trans (keyA a) (keyB b) (keyB d) (sym (by_key a b) ∙ h) (not_lt_le (keyB b) (keyB d) q))

  keys_wider : (a c : A) (b d : B) → gap (keyA a) (keyB b) ≤ gap (keyA c) (keyB d) → (look a b).gap ≤ (look c d).gap
  keys_wider a c b d h = rw (by-gap a b, by-gap c d) (square_le h)

  -- The x-difference squared, or that of any other integer key, under any distance that it bounds.
  pub by_keys : Geometry (on lt_z keyA) (on lt_z keyB) leads look
  by_keys = record {
    still_a = λ a. irrefl lt_z_order (keyA a);
    still_b = λ b. irrefl lt_z_order (keyB b);
    bound = under;
    leads_on = keys_lead;
    leads_wider = λ a c b d h p q.
        keys_wider a c b d
        (gap_apart (keyA a) (keyA c) (keyB b) (keyB d) (sym (by_key a b) ∙ h) (not_lt_le (keyA c) (keyA a) p) (not_lt_le (keyB b) (keyB d) q));
    follows_wider = λ a c b d h p q.
        keys_wider a c b d
        (rw (gap_sym (keyA a) (keyB b), gap_sym (keyA c) (keyB d))
        (gap_apart (keyB b) (keyB d) (keyA a) (keyA c) (le_total (keyA a) (keyB b) (sym (by_key a b) ∙ h))
        (not_lt_le (keyB d) (keyB b) q) (not_lt_le (keyA a) (keyA c) p)));
  }
