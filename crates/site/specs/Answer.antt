-- What a call tells its caller. A refusal is its number in document 01; 0 is none.
use Rattle.std.specs.Prelude.{Bool, cond, ℕ, zero, suc, Result, Ok, Err}
use Rattle.site.specs.declared.refusals.Refusal.{Refusal}
use Rattle.site.specs.declared.refusals.Refusal.TheVariants as refusal

-- "A refusal answers its number alone"; a success answers its values.
pub data Answer (A : Type 0) : Type 0 where
  refused : ℕ → Answer A
  answered : A → Answer A

-- The answer under a refusal number: the values where it is 0.
unfoldable pub answer_unless : {A : Type 0} → ℕ → A → Answer A
answer_unless zero values = answered values
answer_unless (suc n) values = refused (suc n)

-- What a lent place holds afterwards: a value of the answer, or what it held before a refusal.
unfoldable pub afterwards : {A B : Type 0} → (A → B) → Answer A → B → B
afterwards value (refused number) before = before
afterwards value (answered values) before = value values

-- The refusal's number of an answer, 0 for none.
unfoldable pub number_of : {A : Type 0} → Answer A → ℕ
number_of (refused number) = number
number_of (answered values) = 0

-- The number where the fault is there, else none.
abbrev pub refuse_if : Bool → ℕ → ℕ
refuse_if fault number = cond fault number 0

-- The first refusal of two in their order.
unfoldable pub or_else : ℕ → ℕ → ℕ
or_else zero next = next
or_else (suc n) next = suc n

-- The number of a refusal.
unfoldable pub number : Refusal → ℕ
number refusal.Columns = 1
number refusal.Limits = 2
number refusal.Order = 3
number refusal.K = 4
number refusal.Ends = 5
number refusal.Room = 6
number refusal.Unsound = 7
number refusal.Place = 8
number refusal.Settled = 9
number refusal.File = 10
number refusal.Present = 11
number refusal.Gap = 12
number refusal.Overlap = 13
number refusal.Price = 14
number refusal.Customer = 15
number refusal.Absent = 16

-- What a result of the code answers: the values that its value stands for, or the refusal's number.
unfoldable pub answer_of : {A B : Type 0} → (A → B) → Result A Refusal → Answer B
answer_of values (Ok value) = answered (values value)
answer_of values (Err r) = refused (number r)

-- The number of a result's refusal, 0 for none.
unfoldable pub refusal_of : {A : Type 0} → Result A Refusal → ℕ
refusal_of (Ok value) = 0
refusal_of (Err r) = number r
