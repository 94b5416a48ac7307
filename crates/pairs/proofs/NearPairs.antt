-- A distance list row by row.
use Rattle.std.proofs.Common.{◌≡◌, ℕ, ◌+◌, ◌-◌, ◌*◌, ◌<◌, ◌≤◌, Bool, ◌&&◌, leb, List, [], ◌++◌, map, length, get_or, ℤ, pos, sym, ap, ◌∙◌, ap₂, mul-le-mul, arith, length-append}
use lib.ListN.{length-map}
use Rattle.order.specs.Lists.{keep}
use Rattle.order.proofs.Lists.{keep_append, keep_nil, keep_map, keep_both, length_keep}
use Rattle.site.specs.Site.{square}
use Rattle.site.specs.SiteList.{raised, sites}
use Rattle.site.specs.Terms.{Level, Coordinates, Heights}
use Rattle.site.proofs.SiteList.{sites_length}
use Rattle.site.proofs.Accepted.{coordinate_x, coordinate_y, height_at}
use Rattle.entry.specs.declared.Entry.{Entry}
use Rattle.entry.specs.Entry.{apart}
use Rattle.sweep.specs.Strip.{Placed, product, pair, pairs}
use Rattle.sweep.specs.Terms.{spot_of, spot, rightward}
use Rattle.sweep.proofs.Strip.{length_pairs_most, strip_whole}
use Rattle.sweep.proofs.ProductLaws.{product_nil, product_cons}
use Rattle.sweep.proofs.SiteRuns.{rightward_nil, rightward_cons, length_rightward}
use Rattle.sweep.proofs.Unnumbered.{pairs_strips}
use Rattle.pairs.specs.declared.Run.{Run}
use Rattle.pairs.specs.DistanceList.{distance_list}
use Rattle.pairs.specs.Internal.{
  Behind,
  RunOf,
  Rising,
  offset_at,
  near,
  near_sites,
  row_pairs,
  near_pairs,
  Reference,
}
use Rattle.pairs.proofs.NearSites.{row_run}

-- A distance list reads no number.
pub list_is : (e : ℕ) (ax ay : List ℤ) (an : List ℕ) (ah bx by : List ℤ) (bn : List ℕ) (bh : List ℤ)
    → Level (raised ax ay an ah) → Level (raised bx by bn bh)
    → distance_list e (sites (raised ax ay an ah)) (sites (raised bx by bn bh)) ≡ near_pairs e ax ay ah bx by bh 0
unfolding distance_list near_pairs
list_is e ax ay an ah bx by bn bh la lb =
    let a = raised ax ay an ah in
    let b = raised bx by bn bh in
    let p = strip_whole (length ax) (sites a) (omega (arith, sites_length a la)) in
    let q = strip_whole (length bx) (sites b) (omega (arith, sites_length b lb)) in
    ap (keep (λ p. leb p.distance (square e)))
    (ap₂ pairs (sym p) (sym q)
    ∙ pairs_strips ax ay an ah bx by bn bh 0 (length ax) 0 (length bx) la lb (omega arith) (omega arith))

-- ---- row by row

module _ (e : ℕ) (ax ay ah bx by bh : List ℤ) where
  abbrev test : Entry → Bool
  test p = leb p.distance (square e) && apart p

  -- The first list's sites from a place on, all of the second's, and the pairs left.
  abbrev references : ℕ → List Placed
  references i = rightward ax ay ah i (length ax - i)

  abbrev others : List Placed
  others = rightward bx by bh 0 (length bx - 0)

  abbrev left : ℕ → List Entry
  left i = near_pairs e ax ay ah bx by bh i

  -- They are those of which both tests hold.
  left_is : (i : ℕ) → left i ≡ keep test (product pair (references i) others)
  unfolding near_pairs pairs
  left_is i = keep_both (λ p. leb p.distance (square e)) apart (product pair (references i) others)

  pub pairs_none : (i : ℕ) → length ax ≤ i → left i ≡ []
  pairs_none i h = left_is i ∙ rw (rightward_nil ax ay ah i (length ax) h, product_nil pair others) (keep_nil test)

  -- Where no reference is left, what is counted is all.
  pub pairs_end : {i count all : ℕ} → length ax ≤ i → count + length (left i) ≡ all → count ≡ all
  pairs_end {i} h e = omega (arith, e, ap length (pairs_none i h))

  -- The near sites of a reference between two places.
  abbrev row : ℕ → ℕ → ℕ → List Placed
  row i from to =
      near_sites (square e) (get_or ax i (pos 0)) (get_or ay i (pos 0)) (get_or ah i (pos 0)) bx by bh from to

  pairs_cons : (i : ℕ) → i < length ax
      → left i ≡ map (pair (spot ax ay ah i)) (row i 0 (length bx)) ++ left (i + 1)
  unfolding near_sites near spot pair apart
  pairs_cons i h =
      let rest = product pair (references (i + 1)) others in
      left_is i
      ∙ ap (λ (p : List Placed). keep test (product pair p others)) (rightward_cons ax ay ah i (length ax) h)
      ∙ ap (keep test) (product_cons pair (spot ax ay ah i) (references (i + 1)) others)
      ∙ keep_append test (map (pair (spot ax ay ah i)) others) rest
      ∙ ap₂ (λ (l m : List Entry). l ++ m) (keep_map test (pair (spot ax ay ah i)) others) (sym (left_is (i + 1)))

  module _ (a : Coordinates ax ay × Heights (length ax) ah) (b : Coordinates bx by × Heights (length bx) bh) where
    -- There are few pairs.
    pub pairs_few : length (left 0) ≤ 4_294_836_225
    unfolding near_pairs
    pairs_few =
        let i : length ax - 0 ≤ 65_535 = omega (arith, a.0.few) in
        let j : length bx - 0 ≤ 65_535 = omega (arith, b.0.few) in
        let size : length (references 0) * length others ≡ (length ax - 0) * (length bx - 0) =
        ap₂ ◌*◌ (length_rightward ax ay ah 0 (length ax - 0)) (length_rightward bx by bh 0 (length bx - 0)) in
        omega (
          arith,
          mul-le-mul i j,
          length_pairs_most (references 0) others,
          length_keep (λ p. leb p.distance (square e)) (pairs (references 0) others),
        )

    -- One row, as the functions on rows ask and answer it.
    module _ {i : ℕ} {run : Run} {x y h : ℤ} (below : i < length ax) (r : RunOf ax bx e i run)
        (p : x ≡ get_or ax i (pos 0)) (q : y ≡ get_or ay i (pos 0)) (s : h ≡ get_or ah i (pos 0)) where
      pub row_asks : Reference x y h bx by bh
      row_asks =
          record {
            inside_x = rw p (coordinate_x a.0 i below);
            inside_y = rw q (coordinate_y a.0 i below);
            inside_height = rw s (height_at a.1 i below);
            others = b.0;
            heights = b.1;
          }

      pub row_first : left i ≡ row_pairs e x y h i bx by bh run.left run.right ++ left (i + 1)
      unfolding square spot
      row_first =
          rw (p, q, s)
          (pairs_cons i below
          ∙ ap (λ (l : List Placed). map (pair (spot ax ay ah i)) l ++ left (i + 1))
          (row_run b.0 r (get_or ay i (pos 0)) (get_or ah i (pos 0)) bh (coordinate_x a.0 i below)))

      pub row_counted : {n : ℕ} → n ≡ length (near_sites (e * e) x y h bx by bh run.left run.right)
          → length (left i) ≡ n + length (left (i + 1))
      row_counted {n} d =
          let near = near_sites (e * e) x y h bx by bh run.left run.right in
          let f = pair (spot_of x y h i) in
          omega (arith, ap length row_first, length-append (map f near) (left (i + 1)), length-map near f)

      -- With a row's, those counted are few too.
      pub row_few : (count n : ℕ) → count + length (left i) ≡ length (left 0)
          → n ≡ length (near_sites (e * e) x y h bx by bh run.left run.right) → count + n ≤ 4_294_836_225
      row_few count n g d = omega (arith, g, row_counted d, pairs_few)

-- ---- the run before a row

pub record Ready (a b : List ℤ) (e i : ℕ) (run : Run) : Type 0 where
  pub within : i ≤ length a
  pub behind : i < length a → Behind a b e i run

pub ready_starts : {a b : List ℤ} {e : ℕ} → Ready a b e 0 (record { left = 0; right = 0 })
ready_starts =
    record {
      within = omega arith;
      behind = λ h. record {
        left = omega arith;
        right = omega arith;
        below = λ k p. absurd (omega arith);
        reached = λ k p. absurd (omega arith);
      };
    }

-- The next reference stands further right.
pub ready_more : {a b : List ℤ} {e i : ℕ} {run : Run} → Rising a → i < length a → RunOf a b e i run
    → Ready a b e (i + 1) run
ready_more {a} {b} {e} {i} {run} rising h r =
    record {
      within = omega arith;
      behind = λ g. record { left = r.behind.left; right = r.behind.right; below = below g; reached = reached g };
    }
  where
    below : i + 1 < length a → (k : ℕ) → k < run.left → offset_at b k + e < offset_at a (i + 1)
    below g k p = omega (arith, r.behind.below k p, rising.rises i (i + 1) (omega arith) g)

    reached : i + 1 < length a → (k : ℕ) → k < run.right → offset_at b k ≤ offset_at a (i + 1) + e
    reached g k p = omega (arith, r.behind.reached k p, rising.rises i (i + 1) (omega arith) g)
