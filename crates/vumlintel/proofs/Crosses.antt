-- An answer crosses: in its values, or in its number and what was there before.
use mathlib.Core.Path.{◌≡◌, refl, ap, ◌∙◌}
use Prim.Native.Nat.{ℕ}
use lib.IntN.{ℤ}
use mir.Syntax.{w32}
use mir.Val.{SFits, to_z, of_z}
use mir.Facts.{to_z-of_z}
use Rattle.std.specs.Prelude.{Result, Ok, Err}
use Rattle.column.specs.Lent.{Held}
use Rattle.site.specs.declared.Changed.{Changed}
use Rattle.site.specs.declared.refusals.Refusal.{Refusal}
use Rattle.site.specs.SiteList.{Columns, site, raised_site}
use Rattle.site.specs.Answer.{Answer, refused, answered, number_of, afterwards, number, answer_of}
use Rattle.site.specs.InUse.{ChangeValues, change_values, changed}
use Rattle.vumlintel.specs.Crosses.{Crosses}

module _ {A : Type 0} {answer : Answer A} where
  pub crossed_values : {v : A} {places : Held A} → answered v ≡ answer → places.exit ≡ v → Crosses answer 0 places
  unfolding number_of afterwards
  crossed_values told stand = rw (← told) (record { number = refl; values = stand })

  pub crossed_refusal : {n : ℕ} {places : Held A}
      → refused n ≡ answer → places.exit ≡ places.entry → Crosses answer n places
  unfolding number_of afterwards
  crossed_refusal told stay = rw (← told) (record { number = refl; values = stay })

  -- A refusal leaves a place as it was.
  pub refusal_leaves : {B : Type 0} (value : A → B) {n : ℕ} {before after : B}
      → refused n ≡ answer → after ≡ afterwards value answer before → after ≡ before
  unfolding afterwards
  refusal_leaves value told place = rw (← told) at place

-- A site made of parameters has their values.
pub site_of_lem : {x y : ℤ} (number : ℕ)
    → SFits w32 x → SFits w32 y → site (to_z w32 (of_z w32 x)) (to_z w32 (of_z w32 y)) number ≡ site x y number
site_of_lem number fx fy = λ i. site (to_z-of_z fx i) (to_z-of_z fy i) number

pub site_up_of : {x y h : ℤ} (number : ℕ) → SFits w32 x → SFits w32 y → SFits w32 h
    → raised_site (to_z w32 (of_z w32 x)) (to_z w32 (of_z w32 y)) number (to_z w32 (of_z w32 h)) ≡ raised_site x y number h
site_up_of number fx fy fh = λ i. raised_site (to_z-of_z fx i) (to_z-of_z fy i) number (to_z-of_z fh i)

-- A change of a list crosses beside its columns: those that the call left, and those that it was lent.
pub crossed_change : {answer : Answer ChangeValues} {n : ℕ} (told : Result Changed Refusal) {c d : Columns} {p k p' k' : ℕ}
    → (answer_of (changed d) told ≡ answer) × (d ≡ afterwards (λ v. v.columns) answer c)
    → ((e : Columns) → Crosses (answer_of (changed e) told) n (record { entry = change_values e p k; exit = change_values e p' k' }))
    → Crosses answer n (record { entry = change_values c p k; exit = change_values d p' k' })
unfolding afterwards
crossed_change {answer = refused m} told {d = d} call crossed = rw (← call.1) (rw call.0 at (crossed d))
crossed_change {answer = answered values} told {d = d} call crossed =
    let there = rw call.0 at (crossed d) in
    record { number = there.number; values = there.values }

-- An answer with its values made into others.
unfoldable pub over : {A B : Type 0} → (A → B) → Answer A → Answer B
over f (refused n) = refused n
over f (answered values) = answered (f values)

-- A value crosses beside what is lent with it: what the call left, or, where it is refused, what was lent.
pub crossed_over : {A B : Type 0} {answer : Answer A} {n : ℕ} {k k' : B} (told : Answer B) {before after : B → A}
    → over after told ≡ answer
    → ((m : ℕ) → refused m ≡ answer → after ≡ before)
    → Crosses told n (record { entry = k; exit = k' })
    → Crosses answer n (record { entry = before k; exit = after k' })
unfolding over number_of afterwards
crossed_over (answered value) {after = after} call leaves crossed =
    rw crossed.number (crossed_values call (ap after crossed.values))
crossed_over (refused m) call leaves crossed =
    rw crossed.number (crossed_refusal call (λ i. leaves m call i (crossed.values i)))

result_over : {A B : Type 0} (after : B → A) (told : Result B Refusal)
    → over after (answer_of (λ value. value) told) ≡ answer_of after told
unfolding over answer_of
result_over after (Ok value) = refl
result_over after (Err refusal) = refl

-- So the value of a result.
pub crossed_value : {A B : Type 0} {answer : Answer A} {n : ℕ} {k k' : B} (told : Result B Refusal) {before after : B → A}
    → answer_of after told ≡ answer
    → ((m : ℕ) → refused m ≡ answer → after ≡ before)
    → Crosses (answer_of (λ value. value) told) n (record { entry = k; exit = k' })
    → Crosses answer n (record { entry = before k; exit = after k' })
crossed_value told {after = after} call leaves crossed =
    crossed_over (answer_of (λ value. value) told) (result_over after told ∙ call) leaves crossed
