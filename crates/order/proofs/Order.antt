-- Laws of orders that are tests: by keys, one test after another, and what follows from a strict order.
use mathlib.Core.Path.{◌≡◌, refl, sym, ap, ◌∙◌}
use mathlib.Core.Bool.{Bool, true, false, true≢false}
use Prim.Native.Nat.{ℕ}
use native.Mathlib.Omega.{arith}
use lib.Dec.{ltb}
use lib.IntN.{ℤ, pos, negsuc}
use lib.Signed.{lt_z}
use borrow.Author.Tests.{ltb-true, ltb-false, lt-ltb, le-ltb}
use Rattle.order.specs.Order.{on, lex}

-- A proof by the two values of a test.
pub by_test : {P : Type 0} → (b : Bool) → (b ≡ true → P) → (b ≡ false → P) → P
by_test true t f = t refl
by_test false t f = f refl

-- A test is not both.
pub never_both : {P : Type 0} {b : Bool} → b ≡ true → b ≡ false → P
never_both t f = absurd (true≢false (sym t ∙ f))

-- An order up to sameness: never both ways, not coming before is transitive,
-- and where neither comes first the two are the same in some way.
pub record OrderUpTo {A : Type 0} (same : A → A → Type 0) (before : A → A → Bool) : Type 0 where
  pub asym : (a b : A) → before a b ≡ true → before b a ≡ false
  pub weak : (a b c : A) → before b a ≡ false → before c b ≡ false → before c a ≡ false
  pub total : (a b : A) → before a b ≡ false → before b a ≡ false → same a b

-- A strict order: an order up to equality.
abbrev pub StrictOrder : {A : Type 0} → (A → A → Bool) → Type 0
StrictOrder before = OrderUpTo (λ a b. a ≡ b) before

module _ {A : Type 0} {same : A → A → Type 0} {before : A → A → Bool} (o : OrderUpTo same before) where
  -- Nothing comes before itself.
  pub irrefl : (a : A) → before a a ≡ false
  irrefl a = by_test (before a a) (λ t. o.asym a a t) (λ f. f)

  -- Coming before is transitive.
  pub before_trans : (a b c : A) → before a b ≡ true → before b c ≡ true → before a c ≡ true
  before_trans a b c p q = by_test (before a c) (λ t. t) (λ f. never_both q (o.weak c a b f (o.asym a b p)))

  -- `a` comes before what does not come before `b`, where it comes before `b`.
  pub before_weak : (a b c : A) → before a b ≡ true → before c b ≡ false → before a c ≡ true
  before_weak a b c p q = by_test (before a c) (λ t. t) (λ f. never_both p (o.weak b c a q f))

  -- What does not come after `b` comes before what `b` comes before.
  pub weak_before : (a b c : A) → before b a ≡ false → before b c ≡ true → before a c ≡ true
  weak_before a b c p q = by_test (before a c) (λ t. t) (λ f. never_both q (o.weak c a b f p))

  -- An order up to a sameness that is equality is strict.
  pub strict : ((a b : A) → same a b → a ≡ b) → StrictOrder before
  strict equal = record { asym = o.asym; weak = o.weak; total = λ a b p q. equal a b (o.total a b p q) }

-- What is transitive and tells any two apart that are not the same is a strict order.
pub by_trans : {A : Type 0} {before : A → A → Bool} → ((a b : A) → before a b ≡ true → before b a ≡ false)
    → ((a b c : A) → before a b ≡ true → before b c ≡ true → before a c ≡ true)
    → ((a b : A) → before a b ≡ false → before b a ≡ false → a ≡ b) → StrictOrder before
by_trans {before = before} asym trans total = record {
  asym = asym;
  weak = λ a b c p q.
      by_test (before c a)
      (λ t. by_test (before a b) (λ u. never_both (trans c a b t u) q) (λ u. let e : a ≡ b = total a b u p in rw e q))
      (λ f. f);
  total = total;
}

-- Smaller first, of numbers.
pub ltb_order : StrictOrder ltb
ltb_order =
    by_trans (λ a b h. le-ltb b a (omega (arith, ltb-true a b h)))
    (λ a b c h g. lt-ltb a c (omega (arith, ltb-true a b h, ltb-true b c g)))
    (λ a b h g. omega (arith, ltb-false a b h, ltb-false b a g))

lt_z_asym : (a b : ℤ) → lt_z a b ≡ true → lt_z b a ≡ false
lt_z_asym (pos a) (pos b) h = ltb_order.asym a b h
lt_z_asym (pos a) (negsuc b) h = never_both h refl
lt_z_asym (negsuc a) (pos b) h = refl
lt_z_asym (negsuc a) (negsuc b) h = ltb_order.asym b a h

lt_z_trans : (a b c : ℤ) → lt_z a b ≡ true → lt_z b c ≡ true → lt_z a c ≡ true
lt_z_trans (pos a) (pos b) (pos c) h g = before_trans ltb_order a b c h g
lt_z_trans (pos a) (pos b) (negsuc c) h g = g
lt_z_trans (pos a) (negsuc b) c h g = never_both h refl
lt_z_trans (negsuc a) (pos b) (pos c) h g = refl
lt_z_trans (negsuc a) (pos b) (negsuc c) h g = never_both g refl
lt_z_trans (negsuc a) (negsuc b) (pos c) h g = refl
lt_z_trans (negsuc a) (negsuc b) (negsuc c) h g = before_trans ltb_order c b a g h

lt_z_total : (a b : ℤ) → lt_z a b ≡ false → lt_z b a ≡ false → a ≡ b
lt_z_total (pos a) (pos b) h g = ap pos (ltb_order.total a b h g)
lt_z_total (pos a) (negsuc b) h g = never_both refl g
lt_z_total (negsuc a) (pos b) h g = never_both refl h
lt_z_total (negsuc a) (negsuc b) h g = ap negsuc (ltb_order.total a b g h)

-- Smaller first, of integers.
pub lt_z_order : StrictOrder lt_z
lt_z_order = by_trans lt_z_asym lt_z_trans lt_z_total

-- By a key.
pub on_order : {A K : Type 0} {same : K → K → Type 0} {less : K → K → Bool} → OrderUpTo same less
    → (key : A → K) → OrderUpTo (λ a b. same (key a) (key b)) (on less key)
on_order o key = record {
  asym = λ a b. o.asym (key a) (key b);
  weak = λ a b c. o.weak (key a) (key b) (key c);
  total = λ a b. o.total (key a) (key b);
}

-- By a number, smaller first.
pub by_number_lem : {A : Type 0} (key : A → ℕ) → OrderUpTo (λ a b. key a ≡ key b) (on ltb key)
by_number_lem key = on_order ltb_order key

-- By an integer, smaller first.
pub by_integer : {A : Type 0} (key : A → ℤ) → OrderUpTo (λ a b. key a ≡ key b) (on lt_z key)
by_integer key = on_order lt_z_order key

module _ {A : Type 0} (less next : A → A → Bool) where
  pub lex_less : (a b : A) → less a b ≡ true → lex less next a b ≡ true
  unfolding lex
  lex_less a b p = rw p

  pub lex_more : (a b : A) → less a b ≡ false → less b a ≡ true → lex less next a b ≡ false
  unfolding lex
  lex_more a b p q = rw (p, q)

  pub lex_next : (a b : A) → less a b ≡ false → less b a ≡ false → lex less next a b ≡ next a b
  unfolding lex
  lex_next a b p q = rw (p, q)

  lex_not : (a b : A) → lex less next a b ≡ false → less a b ≡ false
  lex_not a b p = by_test (less a b) (λ t. never_both (lex_less a b t) p) (λ f. f)

  lex_not_next : (a b : A) → lex less next a b ≡ false → less b a ≡ false → next a b ≡ false
  lex_not_next a b p q = sym (lex_next a b (lex_not a b p) q) ∙ p

module _ {A : Type 0} {s t : A → A → Type 0} {less next : A → A → Bool} (o : OrderUpTo s less) (n : OrderUpTo t next) where
  lex_asym : (a b : A) → lex less next a b ≡ true → lex less next b a ≡ false
  lex_asym a b p =
      by_test (less b a)
      (λ u. never_both p (lex_more less next a b (o.asym b a u) u))
      (λ u. by_test (less a b)
      (λ v. lex_more less next b a u v)
      (λ v. lex_next less next b a u v ∙ n.asym a b (sym (lex_next less next a b v u) ∙ p)))

  lex_weak : (a b c : A) → lex less next b a ≡ false → lex less next c b ≡ false → lex less next c a ≡ false
  lex_weak a b c p q =
      let ba : less b a ≡ false = lex_not less next b a p in
      let cb : less c b ≡ false = lex_not less next c b q in
      let ca : less c a ≡ false = o.weak a b c ba cb in
      by_test (less a c) (lex_more less next c a ca)
      (λ ac.
      let ab : less a b ≡ false = o.weak b c a cb ac in
      let bc : less b c ≡ false = o.weak c a b ac ba in
      lex_next less next c a ca ac ∙ n.weak a b c (lex_not_next less next b a p ab) (lex_not_next less next c b q bc))

  -- By one test, and where it leaves two open by the next.
  pub lex_order : OrderUpTo (λ a b. s a b × t a b) (lex less next)
  lex_order = record {
    asym = lex_asym;
    weak = lex_weak;
    total = λ a b p q.
        let ab : less a b ≡ false = lex_not less next a b p in
        let ba : less b a ≡ false = lex_not less next b a q in
        (o.total a b ab ba, n.total a b (lex_not_next less next a b p ba) (lex_not_next less next b a q ab));
  }
