-- What a call is lent: a place, or what some places hold, each at entry and at exit.
use Rattle.std.specs.Borrow.{Bor, MutBor}
use denote.Triple.Both.{Both}

infixl 50 ◌of◌ ◌of_mut◌ ◌with◌
-- A lent place: one to be read, and one to be written.
abbrev pub Lent : Type 0 → Type 0
Lent A = Both (Bor A) (Bor A)

abbrev pub LentMut : Type 0 → Type 0
LentMut A = Both (MutBor A) (MutBor A)

-- What lent places hold.
abbrev pub Held : Type 0 → Type 0
Held A = Both A A

-- The same value made of what each place holds, at entry and at exit.
abbrev pub the : {A : Type 0} → A → Held A
the make = record { entry = make; exit = make }

abbrev pub ◌of◌ : {A B : Type 0} → Held (A → B) → Lent A → Held B
make of place = record { entry = make.entry place.entry.now; exit = make.exit place.exit.now }

abbrev pub ◌of_mut◌ : {A B : Type 0} → Held (A → B) → LentMut A → Held B
make of_mut place = record { entry = make.entry place.entry.now; exit = make.exit place.exit.now }

-- The same for places that are bundled already.
abbrev pub ◌with◌ : {A B : Type 0} → Held (A → B) → Held A → Held B
make with part = record { entry = make.entry part.entry; exit = make.exit part.exit }
