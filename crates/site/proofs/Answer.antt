-- The laws of refusal numbers: what is answered under one, which of several comes first, and what it leaves as it was.
use mathlib.Core.Path.{◌≡◌, refl, sym, ap, ◌∙◌}
use mathlib.Core.Bool.{Bool, true, false, not, cond}
use Prim.Native.Nat.{ℕ, zero, suc}
use native.Mathlib.Omega.{arith}
use Rattle.std.specs.Prelude.{Result, Ok, Err}
use Rattle.std.specs.Result.{IsErr, IsErrAnd}
use borrow.Author.Tests.{not-false}
use Rattle.site.specs.declared.refusals.Refusal.{Refusal}
use Rattle.site.specs.declared.refusals.Refusal.TheVariants as refusal
use Rattle.site.specs.Answer.{refused, answered, answer_unless, afterwards, number_of, or_else, number, answer_of}

-- There is none, or there is one.
pub by_number : {P : Type 0} → (n : ℕ) → (n ≡ 0 → P) → ((n ≡ 0 → ⊥) → P) → P
by_number zero none some = none refl
by_number (suc n) none some = some (λ e. omega arith)

-- ---- what is answered

module _ {A : Type 0} where
  -- No refusal: the values.
  pub answer_values : {n : ℕ} {v : A} → n ≡ 0 → answered v ≡ answer_unless n v
  unfolding answer_unless
  answer_values {n} {v} e = rw e

  -- A refusal, as it was found: its number.
  pub answer_refused : {n r : ℕ} (v : A) → r ≡ n → (r ≡ 0 → ⊥) → refused r ≡ answer_unless n v
  unfolding answer_unless
  answer_refused {r = zero} v e h = absurd (h refl)
  answer_refused {r = suc r} v e h = rw (← e)

  -- Values were answered: there is no refusal, and they are those.
  pub answered_values : (n : ℕ) (values c : A) → answer_unless n values ≡ answered c → (n ≡ 0) × (values ≡ c)
  unfolding answer_unless
  answered_values zero values c h = (refl, cc)
  answered_values (suc n) values c h = let z : ◌≡◌ {A = ℕ} 0 1 = cc in absurd (omega arith)

  -- A number was answered: it is the refusal's.
  pub refused_number : (n r : ℕ) (values : A) → refused r ≡ answer_unless n values → (r ≡ n) × (n ≡ 0 → ⊥)
  unfolding answer_unless
  refused_number zero r values h = let z : ◌≡◌ {A = ℕ} 0 1 = cc in absurd (omega arith)
  refused_number (suc n) r values h = (cc, λ e. omega arith)

  -- An answer depends on its values only where nothing refuses.
  pub answer_same : (n : ℕ) {v w : A} → (n ≡ 0 → v ≡ w) → answer_unless n v ≡ answer_unless n w
  unfolding answer_unless
  answer_same zero h = rw (h refl)
  answer_same (suc n) h = refl

  pub answer_number : (n : ℕ) (values : A) → number_of (answer_unless n values) ≡ n
  unfolding answer_unless number_of
  answer_number zero values = refl
  answer_number (suc n) values = refl

-- ---- what a lent place holds

module _ {A B : Type 0} (value : A → B) where
  pub after_refused : {n r : ℕ} (values : A) (before : B) → r ≡ n → (r ≡ 0 → ⊥)
      → before ≡ afterwards value (answer_unless n values) before
  unfolding answer_unless afterwards
  after_refused {r = zero} values before e h = absurd (h refl)
  after_refused {r = suc r} values before e h = rw (← e)

  pub after_answered : {n : ℕ} (values : A) (before : B) → n ≡ 0 → value values ≡ afterwards value (answer_unless n values) before
  unfolding answer_unless afterwards
  after_answered values before e = rw e

-- ---- what a result of the code answers

-- No refusal has the number 0.
pub refusal_numbered : (r : Refusal) → number r ≡ 0 → ⊥
unfolding number
refusal_numbered refusal.Columns h = omega arith
refusal_numbered refusal.Limits h = omega arith
refusal_numbered refusal.Order h = omega arith
refusal_numbered refusal.K h = omega arith
refusal_numbered refusal.Ends h = omega arith
refusal_numbered refusal.Room h = omega arith
refusal_numbered refusal.Unsound h = omega arith
refusal_numbered refusal.Place h = omega arith
refusal_numbered refusal.Settled h = omega arith
refusal_numbered refusal.File h = omega arith
refusal_numbered refusal.Present h = omega arith
refusal_numbered refusal.Gap h = omega arith
refusal_numbered refusal.Overlap h = omega arith
refusal_numbered refusal.Price h = omega arith
refusal_numbered refusal.Customer h = omega arith
refusal_numbered refusal.Absent h = omega arith

-- What `?` passes on is the refusal that it met.
pub passed_on : {A : Type 0} {r : Result A Refusal} {e : Refusal} → IsErr r × IsErrAnd r (λ x. x ≡ e) → r ≡ Err e
passed_on {r = Ok v} h = absurd h.1
passed_on {r = Err x} h = ap Err h.1

module _ {A B : Type 0} (values : A → B) where
  -- Its value, where nothing refuses.
  pub result_ok : {n : ℕ} {v : B} (value : A) → n ≡ 0 → values value ≡ v → answer_of values (Ok value) ≡ answer_unless n v
  unfolding answer_of
  result_ok {n} {v} value none is = rw is (answer_values {v = v} none)

  -- Its refusal.
  pub result_err : {n : ℕ} (v : B) (r : Refusal) → number r ≡ n → answer_of values (Err r) ≡ answer_unless n v
  unfolding answer_of
  result_err v r is = answer_refused v is (refusal_numbered r)

  -- A place that it leaves as it was.
  pub after_err : {C : Type 0} (place : B → C) {n : ℕ} (v : B) (before : C) (r : Refusal) → number r ≡ n
      → before ≡ afterwards place (answer_unless n v) before
  after_err place v before r is = after_refused place v before is (refusal_numbered r)

-- ---- the first of two

pub or_none : (m n : ℕ) → m ≡ 0 → or_else m n ≡ n
unfolding or_else
or_none m n h = rw h

pub or_some : (m n : ℕ) → (m ≡ 0 → ⊥) → or_else m n ≡ m
unfolding or_else
or_some zero n h = absurd (h refl)
or_some (suc m) n h = refl

-- It depends on the second one only where the first is none.
pub or_same : (m : ℕ) {n k : ℕ} → (m ≡ 0 → n ≡ k) → or_else m n ≡ or_else m k
unfolding or_else
or_same zero h = h refl
or_same (suc m) h = refl

-- No second one, and the first of three.
pub or_nothing : (n : ℕ) → or_else n 0 ≡ n
unfolding or_else
or_nothing zero = refl
or_nothing (suc n) = refl

pub or_groups : (m n k : ℕ) → or_else (or_else m n) k ≡ or_else m (or_else n k)
unfolding or_else
or_groups zero n k = refl
or_groups (suc m) n k = refl

-- The first one, as it was found, refuses.
pub first_refused : {m r : ℕ} (n : ℕ) → r ≡ m → (r ≡ 0 → ⊥) → r ≡ or_else m n
first_refused {r} n e h = rw (← e) (sym (or_some r n h))

-- It does not, and the next one decides.
pub next_decides : {m n q r : ℕ} → q ≡ m → q ≡ 0 → r ≡ n → r ≡ or_else m n
next_decides {m} {n} e h next = next ∙ sym (or_none m n (sym e ∙ h))

-- Neither refuses.
pub or_else_first : (m n : ℕ) → or_else m n ≡ 0 → m ≡ 0
unfolding or_else
or_else_first zero n h = refl
or_else_first (suc m) n h = absurd (omega arith)

pub or_else_second : (m n : ℕ) → or_else m n ≡ 0 → n ≡ 0
unfolding or_else
or_else_second zero n h = h
or_else_second (suc m) n h = absurd (omega arith)

-- ---- one fault

pub no_fault : (b : Bool) (n : ℕ) → cond b (suc n) 0 ≡ 0 → b ≡ false
no_fault true n h = absurd (omega arith)
no_fault false n h = refl

pub fault_none : (b : Bool) (n : ℕ) → cond (not b) (suc n) 0 ≡ 0 → b ≡ true
fault_none b n h = not-false b (no_fault (not b) n h)
