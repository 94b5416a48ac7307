-- The laws of gaps and squared distances.
use mathlib.Core.Path.{◌≡◌, refl, ap, ap₂, ◌∙◌}
use mathlib.Core.Bool.{true}
use mathlib.Core.List.{List, [], ◌∷◌, zip_with}
use Prim.Native.Nat.{ℕ, zero, suc, ◌+◌, ◌*◌, ◌≤◌}
use native.Mathlib.Nat.{mul-le-mul, suc-mul}
use native.Mathlib.Omega.{arith}
use borrow.Author.Tests.{leb-true}
use lib.Dec.{leb}
use lib.IntN.{ℤ, pos, negsuc}
use lib.Signed.{lt_z, le_z}
use mir.Syntax.{w32, w64}
use mir.Val.{Fits}
use Rattle.order.specs.Lists.{sum}
use Rattle.site.specs.Site.{Site, coordinates, between, within, height_within, gap, square, squared_distance}
use Rattle.site.specs.SiteList.{site, raised_site}
use Rattle.order.proofs.Order.{by_test}
use Rattle.site.proofs.Tests.{and_first, and_second}
use Rattle.site.proofs.Integers.{up, down, le_sides, le_total, le_refl, le_trans as leZ-trans, lt_sides, lt_le, lt_total, size_up, size_down}

-- The site with the number 0.
abbrev pub unnumbered : Site → Site
unnumbered s = record { x = s.x; y = s.y; number = 0; further = s.further }

-- A gap by sides.
gap_up : (a b : ℤ) → le_z a b ≡ true → gap a b + (up a + down b) ≡ up b + down a
unfolding gap
gap_up a b h = size_up a b h

gap_down : (a b : ℤ) → le_z b a ≡ true → gap a b + (up b + down a) ≡ up a + down b
unfolding gap
gap_down a b h = size_down a b h

pub gap_sym : (a b : ℤ) → gap a b ≡ gap b a
gap_sym a b =
    by_test (le_z a b) (λ h. omega (arith, gap_up a b h, gap_down b a h))
    (λ h. let k = le_total a b h in omega (arith, gap_down a b k, gap_up b a k))

-- A gap grows away from its reference, to either side.
pub gap_grows : (a b c : ℤ) → le_z a b ≡ true → le_z b c ≡ true → gap a b ≤ gap a c
gap_grows a b c h k =
    omega (arith, gap_up a b h, gap_up b c k, gap_up a c (leZ-trans a b c h k), le_sides b c k)

pub gap_shrinks : (a b c : ℤ) → le_z a b ≡ true → le_z b c ≡ true → gap b c ≤ gap a c
gap_shrinks a b c h k =
    omega (arith, gap_up a b h, gap_up b c k, gap_up a c (leZ-trans a b c h k), le_sides a b h)

-- A gap is 0 exactly between a coordinate and itself.
pub gap_some : (a b : ℤ) → lt_z a b ≡ true → 1 ≤ gap a b
gap_some a b h = omega (arith, lt_sides a b h, gap_up a b (lt_le a b h))

pub gap_same : (a : ℤ) → gap a a ≡ 0
gap_same a = omega (arith, gap_up a a (le_refl a))

pub gap_none : (a b : ℤ) → gap a b ≡ 0 → a ≡ b
gap_none a b h =
    lt_total a b (by_test (lt_z a b) (λ t. absurd (omega (arith, gap_some a b t))) (λ f. f))
    (by_test (lt_z b a) (λ t. absurd (omega (arith, gap_some b a t, gap_sym a b))) (λ f. f))

square_none : (n : ℕ) → square n ≡ 0 → n ≡ 0
unfolding square
square_none zero h = refl
square_none (suc n) h = absurd (omega (arith, suc-mul n (suc n)))

pub square_le : {m n : ℕ} → m ≤ n → square m ≤ square n
unfolding square
square_le h = mul-le-mul h h

-- The square of a `u32` fits 64 bits.
pub square_fits : {e : ℕ} → Fits w32 e → Fits w64 (e * e)
square_fits {e} h =
    let k : e ≤ 4_294_967_295 = omega (arith, h.fits) in
    record { fits = omega (arith, mul-le-mul k k) }

pub squared_gap_grows : (a b c : ℤ) → le_z a b ≡ true → le_z b c ≡ true → square (gap a b) ≤ square (gap a c)
squared_gap_grows a b c h k = square_le (gap_grows a b c h k)

pub squared_gap_shrinks : (a b c : ℤ) → le_z a b ≡ true → le_z b c ≡ true → square (gap b c) ≤ square (gap a c)
squared_gap_shrinks a b c h k = square_le (gap_shrinks a b c h k)

-- A coordinate inside the limits, by sides.
within_sides : (c : ℤ) → within c ≡ true → (up c ≤ 1_000_000_000) × (down c ≤ 1_000_000_000)
unfolding within between up down
within_sides (pos n) h =
    let u = leb-true n 1_000_000_000 (and_second (le_z (negsuc 999_999_999) (pos n)) (leb n 1_000_000_000) h) in
    (omega arith, omega arith)
within_sides (negsuc n) h =
    let l = leb-true n 999_999_999 (and_first (leb n 999_999_999) (le_z (negsuc n) (pos 1_000_000_000)) h) in
    (omega arith, omega arith)

height_sides : (h : ℤ) → height_within h ≡ true → (up h ≤ 10_000) × (down h ≤ 10_000)
unfolding height_within between up down
height_sides (pos n) h =
    let u = leb-true n 10_000 (and_second (le_z (negsuc 9_999) (pos n)) (leb n 10_000) h) in
    (omega arith, omega arith)
height_sides (negsuc n) h =
    let l = leb-true n 9_999 (and_first (leb n 9_999) (le_z (negsuc n) (pos 10_000)) h) in
    (omega arith, omega arith)

pub gap_within : (a b : ℤ) → within a ≡ true → within b ≡ true → gap a b ≤ 2_000_000_000
gap_within a b h k =
    let p = within_sides a h in
    let q = within_sides b k in
    by_test (le_z a b) (λ t. omega (arith, gap_up a b t)) (λ t. omega (arith, gap_down a b (le_total a b t)))

pub squared_gap_within : (a b : ℤ) → within a ≡ true → within b ≡ true → square (gap a b) ≤ 4_000_000_000_000_000_000
unfolding square
squared_gap_within a b h k = mul-le-mul (gap_within a b h k) (gap_within a b h k)

pub height_gap_within : (a b : ℤ) → height_within a ≡ true → height_within b ≡ true → gap a b ≤ 20_000
height_gap_within a b h k =
    let p = height_sides a h in
    let q = height_sides b k in
    by_test (le_z a b) (λ t. omega (arith, gap_up a b t)) (λ t. omega (arith, gap_down a b (le_total a b t)))

pub squared_height_within : (a b : ℤ) → height_within a ≡ true → height_within b ≡ true → square (gap a b) ≤ 400_000_000
unfolding square
squared_height_within a b h k = mul-le-mul (height_gap_within a b h k) (height_gap_within a b h k)

-- ---- over any number of coordinates

-- The sum of the squared differences of two lists of coordinates: symmetric,
abbrev pub squared_over : List ℤ → List ℤ → ℕ
squared_over l m = sum (zip_with (λ a b. square (gap a b)) l m)

pub squared_over_sym : (l m : List ℤ) → squared_over l m ≡ squared_over m l
unfolding sum zip_with
squared_over_sym [] [] = refl
squared_over_sym [] (b ∷ m) = refl
squared_over_sym (a ∷ l) [] = refl
squared_over_sym (a ∷ l) (b ∷ m) = ap₂ ◌+◌ (ap square (gap_sym a b)) (squared_over_sym l m)

pub squared_distance_sym : (s t : Site) → squared_distance s t ≡ squared_distance t s
unfolding squared_distance
squared_distance_sym s t = squared_over_sym (coordinates s) (coordinates t)

-- 0 between equal ones,
pub squared_over_same : (l : List ℤ) → squared_over l l ≡ 0
unfolding sum square zip_with
squared_over_same [] = refl
squared_over_same (a ∷ l) = rw (gap_same a) (omega (arith, squared_over_same l))

pub squared_distance_same : (s t : Site) → coordinates s ≡ coordinates t → squared_distance s t ≡ 0
unfolding squared_distance
squared_distance_same s t e = rw e (squared_over_same (coordinates t))

-- and only there, as far as both go.
pub squared_over_none : (a b : ℤ) (l m : List ℤ) → squared_over (a ∷ l) (b ∷ m) ≡ 0 → (a ≡ b) × (squared_over l m ≡ 0)
unfolding sum zip_with
squared_over_none a b l m h = (gap_none a b (square_none (gap a b) (omega arith)), omega arith)

-- The squared distance by the differences of x and y and the rest,
pub squared_distance_is : (s t : Site)
    → squared_distance s t ≡ square (gap s.x t.x) + (square (gap s.y t.y) + squared_over s.further t.further)
unfolding squared_distance sum zip_with
squared_distance_is s t = refl

pub squared_gap_x : (s t : Site) → square (gap s.x t.x) ≤ squared_distance s t
squared_gap_x s t = omega (arith, squared_distance_is s t)

pub squared_gap_y : (s t : Site) → square (gap s.y t.y) ≤ squared_distance s t
squared_gap_y s t = omega (arith, squared_distance_is s t)

pub squared_distance_none : (s t : Site) → squared_distance s t ≡ 0 → (s.x ≡ t.x) × (s.y ≡ t.y)
unfolding squared_distance
squared_distance_none s t h =
    let p = squared_over_none s.x t.x (s.y ∷ s.further) (t.y ∷ t.further) h in
    (p.0, (squared_over_none s.y t.y s.further t.further p.1).0)

-- in the plane,
pub squared_distance_plane : (x y u v : ℤ) (n m : ℕ) → squared_distance (site x y n) (site u v m) ≡ square (gap x u) + square (gap y v)
unfolding sum zip_with
squared_distance_plane x y u v n m = squared_distance_is (site x y n) (site u v m) ∙ omega arith

-- and with a height.
pub squared_distance_up : (x y h u v k : ℤ) (n m : ℕ)
    → squared_distance (raised_site x y n h) (raised_site u v m k) ≡ square (gap x u) + square (gap y v) + square (gap h k)
unfolding squared_distance sum zip_with
squared_distance_up x y h u v k n m = omega arith

-- which can only enlarge it.
pub plane_under : (x y h u v k : ℤ) (n m : ℕ)
    → squared_distance (site x y n) (site u v m) ≤ squared_distance (raised_site x y n h) (raised_site u v m k)
plane_under x y h u v k n m = omega (arith, squared_distance_plane x y u v n m, squared_distance_up x y h u v k n m)

pub squared_distance_within : (x y h u v k : ℤ) (n m : ℕ) → within x ≡ true → within y ≡ true → height_within h ≡ true
    → within u ≡ true → within v ≡ true → height_within k ≡ true
    → squared_distance (raised_site x y n h) (raised_site u v m k) ≤ 8_000_000_000_400_000_000
squared_distance_within x y h u v k n m p q r p' q' r' =
    omega (arith, squared_distance_up x y h u v k n m, squared_gap_within x u p p', squared_gap_within y v q q', squared_height_within h k r r')

-- A squared distance looks at the coordinates and not at the numbers.
pub numberless : (s t : Site) → squared_distance s t ≡ squared_distance (unnumbered s) (unnumbered t)
unfolding squared_distance
numberless s t = refl
