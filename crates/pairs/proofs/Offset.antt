-- Offsets of coordinates: which sites are too far in x.
use Rattle.std.proofs.Common.{◌≡◌, ℕ, ◌+◌, ◌-◌, ◌*◌, ◌%◌, ◌^◌, ◌<◌, ◌≤◌, true, false, ◌&&◌, ltb, leb, ◌⊎◌, List, get_or, ℤ, pos, negsuc, refl, inl, inr, ⊎_elim, mul-le-mul_right, mul-le-mul_left, mul-lt-mul_of_pos_right, arith, ltb-false, ltb-true, le-leb}
use borrow.Author.Tests.{lt-leb}
use lib.Signed.{le_z}
use Rattle.site.specs.Site.{Site, between, within, gap, square, squared_distance}
use Rattle.site.specs.SiteList.{raised_site}
use Rattle.site.specs.Terms.{position_at, Coordinates}
use Rattle.site.proofs.Accepted.{coordinate_x}
use Rattle.site.proofs.PositionOrder.{not_before_x}
use Rattle.site.proofs.Tests.{by_test, and_first}
use Rattle.site.proofs.Integers.{up, down, le_sides, le_total, le_trans, size_up, size_down}
use Rattle.site.proofs.Distance.{squared_gap_x, squared_gap_y}
use Rattle.pairs.specs.declared.Run.{Run}
use Rattle.pairs.specs.Internal.{offset, Rising, Across, RunOf, near}

within_tests : (x : ℤ) → within x ≡ true → (le_z (negsuc 999_999_999) x && le_z x (pos 1_000_000_000)) ≡ true
unfolding within between
within_tests x h = h

-- An offset by sides.
offset_sides : (x : ℤ) → within x ≡ true → offset x + down x ≡ up x + 2_147_483_648
unfolding offset gap down up
offset_sides x h =
    let l = and_first (le_z (negsuc 999_999_999) x) (le_z x (pos 1_000_000_000)) (within_tests x h) in
    omega (arith, size_down x (negsuc 2_147_483_647) (le_trans (negsuc 2_147_483_647) (negsuc 999_999_999) x refl l))

pub offset_rises : (a b : ℤ) → within a ≡ true → within b ≡ true → le_z a b ≡ true → offset a ≤ offset b
offset_rises a b h k t = omega (arith, offset_sides a h, offset_sides b k, le_sides a b t)

-- The x of a lawful list never falls.
pub rising : {xs ys : List ℤ} → Coordinates xs ys → Rising xs
rising {xs} {ys} c = record {
  rises = λ k m h g.
      let x = get_or xs k (pos 0) in
      let y = get_or xs m (pos 0) in
      offset_rises x y (coordinate_x c k (omega arith)) (coordinate_x c m g)
      (not_before_x (position_at xs ys m) (position_at xs ys k) (c.rising k m h g));
}

pub across : {xs ys : List ℤ} → Coordinates xs ys → Across xs
across c = record { few = c.few; inside = c.xs_within; rising = rising c }

-- A difference is that of the offsets.
gap_offsets : (a b : ℤ) → within a ≡ true → within b ≡ true
    → (offset a + gap a b ≡ offset b) ⊎ (offset b + gap a b ≡ offset a)
unfolding gap
gap_offsets a b h k =
    let p = offset_sides a h in
    let q = offset_sides b k in
    by_test (le_z a b) (λ l. inl (omega (arith, size_up a b l))) (λ l. inr (omega (arith, size_down a b (le_total a b l))))

-- So offsets that are more than `e` apart, and that are not.
module _ (a b : ℤ) (e : ℕ) (h : within a ≡ true) (k : within b ≡ true) where
  pub far_left : offset b + e < offset a → e < gap a b
  far_left t = ⊎_elim (λ g. omega arith) (λ g. omega arith) (gap_offsets a b h k)

  pub far_right : offset a + e < offset b → e < gap a b
  far_right t = ⊎_elim (λ g. omega arith) (λ g. omega arith) (gap_offsets a b h k)

  pub near_x : offset b ≤ offset a + e → offset a ≤ offset b + e → gap a b ≤ e
  near_x t u = ⊎_elim (λ g. omega arith) (λ g. omega arith) (gap_offsets a b h k)

pub square_lt : (m n : ℕ) → m < n → square m < square n
unfolding square
square_lt m n h =
    let p : m * n ≤ n * n = mul-le-mul_right n (omega arith) in
    let q : m * m ≤ m * n = mul-le-mul_left m (omega arith) in
    let r : m * n < n * n = mul-lt-mul_of_pos_right h (omega arith) in
    omega arith

-- Near or not, by the squared distance.
module _ {limit d : ℕ} (x y h : ℤ) (s : Site) (e : d ≡ squared_distance (raised_site x y 0 h) s) where
  pub near_within : d ≤ limit → leb 1 d ≡ near limit x y h s
  unfolding near
  near_within t = rw (← e, le-leb d limit t)

  pub near_beyond : limit < d → leb d limit ≡ near limit x y h s
  unfolding near
  near_beyond t = rw (← e, lt-leb d limit t)

-- A site further than `e` in x is not near.
pub far : (x y h : ℤ) (s : Site) (e : ℕ) → e < gap x s.x → near (square e) x y h s ≡ false
unfolding near
far x y h s e beyond =
    let here = raised_site x y 0 h in
    rw (lt-leb (squared_distance here s) (square e)
    (omega (arith, square_lt e (gap x s.x) beyond, squared_gap_x here s)))

-- Nor is one further than `e` in y, by a difference that wraps.
pub far_y : (x y h : ℤ) (s : Site) (e : ℕ) {a b : ℕ} → within y ≡ true → within s.y ≡ true → e < 2 ^ 32
    → a ≡ offset s.y → a < 2 ^ 32 → b ≡ offset y → b < 2 ^ 32 → 2 * e < (a + e + (2 ^ 64 - b)) % 2 ^ 64
    → near (e * e) x y h s ≡ false
unfolding near square
far_y x y h s e {a} {b} i k u p g q f t =
    let here = raised_site x y 0 h in
    let beyond : e < gap y s.y =
    by_test (ltb (a + e) b)
    (λ l. far_left y s.y e i k (omega (arith, ltb-true (a + e) b l)))
    (λ l. far_right y s.y e i k (omega (arith, ltb-false (a + e) b l))) in
    rw (lt-leb (squared_distance here s) (e * e)
    (omega (arith, square_lt e (gap y s.y) beyond, squared_gap_y here s)))

-- Its ends do not cross.
pub run_ends : {a b : List ℤ} {e i : ℕ} {run : Run} → RunOf a b e i run → run.left ≤ run.right
run_ends {run = run} r =
    by_test (ltb run.right run.left)
    (λ t.
    let h = ltb-true run.right run.left t in
    let l = r.behind.left in
    omega (arith, r.behind.below run.right h, r.above run.right (omega arith) (omega arith)))
    (λ t. ltb-false run.right run.left t)
