-- The order of sites: its steps, and that it tells apart what differs in x, y or number.
use mathlib.Core.Path.{◌≡◌, refl}
use mathlib.Core.Bool.{true, false, cond}
use lib.Dec.{ltb}
use lib.Signed.{lt_z}
use Rattle.order.specs.Order.{lex}
use Rattle.order.proofs.Order.{OrderUpTo, lex_order, by_integer, by_number_lem}
use Rattle.site.specs.Site.{Site, site_before}

module _ (s t : Site) where
  pub before_is : site_before s t
      ≡ cond (lt_z s.x t.x) true (cond (lt_z t.x s.x) false
      (cond (lt_z s.y t.y) true (cond (lt_z t.y s.y) false (ltb s.number t.number))))
  unfolding site_before lex
  before_is = refl

  -- What each step of the comparison answers.
  pub first_below : lt_z s.x t.x ≡ true → true ≡ site_before s t
  first_below p = simp (before_is, p)

  pub first_above : lt_z s.x t.x ≡ false → lt_z t.x s.x ≡ true → false ≡ site_before s t
  first_above p q = simp (before_is, p, q)

  pub second_below : lt_z s.x t.x ≡ false → lt_z t.x s.x ≡ false → lt_z s.y t.y ≡ true → true ≡ site_before s t
  second_below p q r = simp (before_is, p, q, r)

  pub second_above : lt_z s.x t.x ≡ false → lt_z t.x s.x ≡ false → lt_z s.y t.y ≡ false → lt_z t.y s.y ≡ true
      → false ≡ site_before s t
  second_above p q r u = simp (before_is, p, q, r, u)

  pub number_decides : lt_z s.x t.x ≡ false → lt_z t.x s.x ≡ false → lt_z s.y t.y ≡ false
      → lt_z t.y s.y ≡ false → ltb s.number t.number ≡ site_before s t
  number_decides p q r u = simp (before_is, p, q, r, u)

-- The same x, y and number, whatever the other coordinates.
abbrev pub SameSite : Site → Site → Type 0
SameSite s t = (s.x ≡ t.x) × (s.y ≡ t.y) × (s.number ≡ t.number)

pub site_order : OrderUpTo SameSite site_before
unfolding site_before
site_order =
    let o =
    lex_order (by_integer (λ (s : Site). s.x)) (lex_order (by_integer (λ (s : Site). s.y)) (by_number_lem (λ (s : Site). s.number))) in
    record { asym = o.asym; weak = o.weak; total = λ a b p q. let e = o.total a b p q in (e.0, e.1.0, e.1.1) }
