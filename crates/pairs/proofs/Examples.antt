-- Examples of the two lists and of the forecast: what M1 to M10 do not tell apart.
use Rattle.std.proofs.Common.{◌≡◌, [], ◌∷◌, pos, refl}
use mathlib.Core.List.{flat_map, zip_with}
use Rattle.order.specs.Lists.{keep, sum}
use Rattle.order.specs.Order.{lex}
use Rattle.order.specs.Sort.{insert, sort}
use Rattle.site.specs.Site.{gap, square, squared_distance}
use Rattle.site.specs.SiteList.{site, raised_site}
use Rattle.entry.specs.Entry.{entry, rank_before, apart, best_k}
use Rattle.sweep.specs.Strip.{placed_from, whole, pair, product, pairs}
use Rattle.pairs.specs.KList.{k_list}
use Rattle.pairs.specs.DistanceList.{distance_list}
use Rattle.pairs.specs.Forecast.{count_within, forecast_total, forecast_partners}

-- Co-sited cells are in neither list, whatever K and the limit.
co_sited_lem : (k_list 2 (site (pos 0) (pos 0) 1 ∷ []) (site (pos 0) (pos 0) 2 ∷ site (pos 3) (pos 4) 3 ∷ []) ≡ entry 25 0 1 ∷ [])
    × (distance_list 5 (site (pos 0) (pos 0) 1 ∷ []) (site (pos 0) (pos 0) 2 ∷ site (pos 3) (pos 4) 3 ∷ []) ≡ entry 25 0 1 ∷ [])
    × (distance_list 0 (site (pos 0) (pos 0) 1 ∷ []) (site (pos 0) (pos 0) 2 ∷ site (pos 3) (pos 4) 3 ∷ []) ≡ [])
unfolding
    keep sum lex insert sort gap square squared_distance rank_before apart best_k placed_from whole pair product flat_map pairs
    k_list distance_list zip_with
co_sited_lem = (refl, refl, refl)

-- Cells at one x and y and at two heights are a pair: 3 apart, within 3 and not within 2.
heights : (distance_list 3 (raised_site (pos 0) (pos 0) 1 (pos 0) ∷ []) (raised_site (pos 0) (pos 0) 1 (pos 3) ∷ []) ≡ entry 9 0 0 ∷ [])
    × (distance_list 2 (raised_site (pos 0) (pos 0) 1 (pos 0) ∷ []) (raised_site (pos 0) (pos 0) 1 (pos 3) ∷ []) ≡ [])
unfolding
    keep sum gap square squared_distance apart placed_from whole pair product flat_map pairs distance_list zip_with
heights = (refl, refl)

-- The forecast of lists F: a partner exactly e away counts, one further does not. Co-sited cells are partners.
forecasts : let a = site (pos 0) (pos 0) 11 ∷ site (pos 4) (pos 3) 12 ∷ site (pos 10) (pos 0) 13 ∷ [] in
    let b = site (pos 0) (pos 5) 21 ∷ site (pos 4) (pos 0) 22 ∷ site (pos 9) (pos 2) 23 ∷ [] in
    (forecast_partners 4 a b ≡ 2 ∷ 2 ∷ 1 ∷ []) × (forecast_total 4 a b ≡ 5)
    × (forecast_partners 0 a b ≡ 1 ∷ 1 ∷ 0 ∷ []) × (forecast_total 0 a b ≡ 2)
    × (forecast_total 0 (site (pos 0) (pos 0) 1 ∷ []) (site (pos 0) (pos 0) 2 ∷ []) ≡ 1)
unfolding keep gap product flat_map count_within forecast_total forecast_partners
forecasts = (refl, refl, refl, refl, refl)
