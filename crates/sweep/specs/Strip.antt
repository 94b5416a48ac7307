-- Sites with their places, strips, and the pairs of two strips.
use mathlib.Core.List.{List, [], ◌∷◌, map, flat_map}
use Rattle.std.specs.Prelude.{ℕ, suc, ◌-◌, take, drop}
use Rattle.order.specs.Lists.{keep}
use Rattle.site.specs.Site.{Site, squared_distance}
use Rattle.entry.specs.declared.Entry.{Entry}
use Rattle.entry.specs.Entry.{entry, apart}

-- "A site's place is its index from 0."
pub record Placed : Type 0 where
  pub place : ℕ
  pub site : Site

unfoldable pub placed_from : ℕ → List Site → List Placed
placed_from place [] = []
placed_from place (s ∷ l) = record { place = place; site = s } ∷ placed_from (suc place) l

-- The sites of a whole list with their places.
unfoldable pub whole : List Site → List Placed
whole l = placed_from 0 l

-- The sites of a list from place `from` up to, not including, place `to`.
unfoldable pub strip : ℕ → ℕ → List Site → List Placed
strip from to l = take (to - from) (drop from (whole l))

-- The sites of a strip, without their places.
abbrev pub sites_of : List Placed → List Site
sites_of p = map (λ s. s.site) p

-- A pair as an entry: its squared distance and its two places.
unfoldable pub pair : Placed → Placed → Entry
pair p q = entry (squared_distance p.site q.site) p.place q.place

-- All pairs of one thing each of two lists, in the order of the first list and then of the second.
unfoldable pub product : {A B C : Type 0} → (A → B → C) → List A → List B → List C
product f p q = flat_map (λ a. map (f a) q) p

-- All pairs of two strips, by first place and then second; co-sited cells are none. (01: pair, a job's pairs.)
unfoldable pub pairs : List Placed → List Placed → List Entry
pairs p q = keep apart (product pair p q)

-- All pairs of two whole lists: the one definition of the pairs there are.
abbrev pub all_pairs : List Site → List Site → List Entry
all_pairs a b = pairs (whole a) (whole b)
