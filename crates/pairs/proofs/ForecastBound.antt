-- A distance list has no more pairs than the forecast, in all and for each place.
use Rattle.std.proofs.Common.{◌≡◌, ℕ, zero, suc, ◌+◌, ◌≤◌, Bool, true, false, ◌&&◌, eqb, ltb, leb, List, [], ◌∷◌, ◌++◌, map, length, get_or, ap, ◌∙◌, add-zero, zero-add, arith, length-append, ltb-true, ne_eqb, leb-false, leb-true}
use mathlib.Core.List.{map-map}
use Rattle.order.specs.Lists.{keep, All, sum}
use Rattle.order.proofs.Lists.{
  mem_all,
  all_nil,
  all_weaken,
  all_map,
  all_keep,
  keep_append,
  keep_nil,
  keep_none,
  keep_both,
  keep_fewer,
  length_keep,
  length_keep_map,
}
use Rattle.site.specs.Site.{Site, square, squared_distance}
use Rattle.site.proofs.Tests.{by_test, and_first}
use Rattle.site.proofs.Distance.{squared_gap_x}
use Rattle.entry.specs.declared.Entry.{Entry}
use Rattle.entry.specs.Entry.{apart}
use Rattle.sweep.specs.Strip.{Placed, placed_from, whole, sites_of, pair, product, pairs}
use Rattle.sweep.proofs.Strip.{placed, placed_later, sites_whole}
use Rattle.sweep.proofs.ProductLaws.{product_nil, product_cons, all_product}
use Rattle.pairs.specs.DistanceList.{distance_list}
use Rattle.pairs.specs.Forecast.{count_within, x_gap, forecast_total, forecast_partners}
use Rattle.pairs.proofs.Offset.{square_lt}
use Rattle.pairs.proofs.ForecastAnswer.{total_sums}

-- How many pairs of a list have this first place.
abbrev pub pairs_for : ℕ → List Entry → ℕ
pairs_for place l = length (keep (λ p. eqb p.first place) l)

module _ (e : ℕ) where
  -- The test of a distance list's pairs.
  abbrev test : Entry → Bool
  test p = leb p.distance (square e) && apart p

  -- A pair within the limit is within it in x.
  near_across : (o r : Placed) → test (pair o r) ≡ true → leb (x_gap o.site r.site) e ≡ true
  unfolding pair
  near_across o r h =
      let d = squared_distance o.site r.site in
      let g = x_gap o.site r.site in
      let most = leb-true d (square e) (and_first (leb d (square e)) _ h) in
      by_test (leb g e) (λ t. t)
      (λ t. absurd (omega (arith, most, squared_gap_x o.site r.site, square_lt e g (leb-false g e t))))

  -- So a row has no more than its place's partners.
  row_fewer : (o : Placed) (q : List Placed)
      → length (keep test (map (pair o) q)) ≤ count_within e (map (x_gap o.site) (sites_of q))
  unfolding count_within
  row_fewer o q =
      let across : List ℕ = map (λ (r : Placed). x_gap o.site r.site) q in
      let same : map (x_gap o.site) (sites_of q) ≡ across = map-map (x_gap o.site) (λ s. s.site) q in
      rw (same, length_keep_map test (pair o) q, length_keep_map (λ d. leb d e) (λ (r : Placed). x_gap o.site r.site) q)
      (keep_fewer (λ r. test (pair o r)) (λ r. leb (x_gap o.site r.site) e) (near_across o) q)

  -- The pairs of a place among two parts, and among pairs of other places.
  pairs_for_both : (place : ℕ) (l m : List Entry) → pairs_for place (l ++ m) ≡ pairs_for place l + pairs_for place m
  pairs_for_both place l m =
      let here : Entry → Bool = λ p. eqb p.first place in
      ap length (keep_append here l m) ∙ length-append (keep here l) (keep here m)

  pairs_for_none : (place : ℕ) (l : List Entry) → All (λ p. p.first ≡ place → ⊥) l → pairs_for place (keep test l) ≡ 0
  pairs_for_none place l h =
      let here : Entry → Bool = λ p. eqb p.first place in
      let none = all_weaken _ (λ p. here p ≡ false) (λ p. ne_eqb p.first place) l h in
      ap length (keep_none here (keep test l) (all_keep test (λ p. here p ≡ false) l none))

  module _ (q : List Placed) where
    -- The pairs of the sites from a place on.
    abbrev from : ℕ → List Site → List Entry
    from n l = product pair (placed_from n l) q

    abbrev row : ℕ → Site → List Entry
    row n s = map (pair (placed n s)) q

    abbrev partners : List Site → List ℕ
    partners l = forecast_partners e l (sites_of q)

    next_row : (n : ℕ) (s : Site) (l : List Site)
        → keep test (from n (s ∷ l)) ≡ keep test (row n s) ++ keep test (from (suc n) l)
    unfolding placed_from
    next_row n s l =
        rw (product_cons pair (placed n s) (placed_from (suc n) l) q) (keep_append test (row n s) (from (suc n) l))

    rows_fewer : (n : ℕ) (l : List Site) → length (keep test (from n l)) ≤ sum (partners l)
    unfolding forecast_partners sum placed_from
    rows_fewer n [] = rw (product_nil pair q, keep_nil test) (omega arith)
    rows_fewer n (s ∷ l) =
        rw (next_row n s l, length-append (keep test (row n s)) (keep test (from (suc n) l)))
        (omega (arith, row_fewer (placed n s) q, rows_fewer (suc n) l))

    -- A row has its own place alone, and the rows after it have others.
    other_row : (n place : ℕ) (s : Site) → (n ≡ place → ⊥) → All (λ p. p.first ≡ place → ⊥) (row n s)
    unfolding pair
    other_row n place s h =
        all_map (λ p. p.first ≡ place → ⊥) (pair (placed n s)) q (mem_all (λ r. n ≡ place → ⊥) q (λ r m. h))

    later_rows : (n : ℕ) (l : List Site) → All (λ p. p.first ≡ n → ⊥) (from (suc n) l)
    unfolding pair
    later_rows n l =
        let later = placed_later n (suc n) l (omega arith) in
        all_product pair (λ p. p.first ≡ n → ⊥) (placed_from (suc n) l) q
        (all_weaken (λ o. ltb n o.place ≡ true) (λ o. All (λ r. o.place ≡ n → ⊥) q)
        (λ o t. mem_all (λ r. o.place ≡ n → ⊥) q (λ r m g. omega (arith, ltb-true n o.place t)))
        (placed_from (suc n) l) later)

    place_fewer : (n i : ℕ) (l : List Site) → pairs_for (n + i) (keep test (from n l)) ≤ get_or (partners l) i 0
    unfolding forecast_partners placed_from
    place_fewer n i [] = rw (product_nil pair q) (omega (arith, pairs_for_none (n + i) [] (all_nil _)))
    place_fewer n zero (s ∷ l) =
        rw (next_row n s l, add-zero n)
        (omega (
          arith,
          pairs_for_both n (keep test (row n s)) (keep test (from (suc n) l)),
          length_keep (λ p. eqb p.first n) (keep test (row n s)),
          row_fewer (placed n s) q,
          pairs_for_none n (from (suc n) l) (later_rows n l),
        ))
    place_fewer n (suc i) (s ∷ l) =
        let shift : n + suc i ≡ suc n + i = omega arith in
        rw (next_row n s l, shift)
        (omega (
          arith,
          pairs_for_both (suc n + i) (keep test (row n s)) (keep test (from (suc n) l)),
          pairs_for_none (suc n + i) (row n s) (other_row n (suc n + i) s (λ g. omega arith)),
          place_fewer (suc n) i l,
        ))

-- ---- of two lists

module _ (e : ℕ) (a b : List Site) where
  listed_is : distance_list e a b ≡ keep (test e) (product pair (whole a) (whole b))
  unfolding distance_list pairs
  listed_is = keep_both (λ p. leb p.distance (square e)) apart (product pair (whole a) (whole b))

  pub no_more : length (distance_list e a b) ≤ forecast_total e a b
  unfolding whole
  no_more = rw (listed_is, total_sums e a b) (rw (sites_whole b) at (rows_fewer e (whole b) 0 a))

  pub no_more_for : (place : ℕ) → pairs_for place (distance_list e a b) ≤ get_or (forecast_partners e a b) place 0
  unfolding whole
  no_more_for place = rw listed_is (rw (sites_whole b, zero-add place) at (place_fewer e (whole b) 0 place a))
