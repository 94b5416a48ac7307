-- Terms that only this crate's functions cite: a range of places with its box, its halves, and what a visit asks and promises.
use Rattle.std.specs.Prelude.{◌≡◌, Bool, cond, List, [], ◌∷◌, ℕ, ◌-◌, ◌<◌, ◌^◌, ℤ, get_or, take, drop}
use Rattle.entry.specs.Results.{Results}
use Rattle.entry.specs.Terms.{queued, Queueing, Updated}
use Rattle.boxes.specs.Box.{box_around, box_of, squared_box_gap}
use Rattle.entry.specs.Entry.{apart}
use Rattle.sweep.specs.Strip.{Placed, pair, sites_of}
use Rattle.sweep.specs.Terms.{rightward}
use Rattle.halves.specs.declared.Range.{Range}
use Rattle.halves.specs.declared.Half.{Half}
use Rattle.halves.specs.declared.Halves.{Halves}
use Rattle.halves.specs.declared.Tally.{Tally}
use Rattle.halves.specs.Gap.{squared_strip_gap}
use Rattle.halves.specs.Halves.{Visited, visited, sooner, later, expand, halves_from}
use Rattle.halves.specs.Terms.{SomeStrip}

-- The sites of a range of places, by their coordinate columns.
unfoldable pub range_sites : List ℤ → List ℤ → List ℤ → ℕ → ℕ → List Placed
range_sites xs ys hs from to = rightward xs ys hs from (to - from)

abbrev pub sites_in : List ℤ → List ℤ → List ℤ → Range → List Placed
sites_in xs ys hs r = range_sites xs ys hs r.from r.to

-- The box of a range of places by its x alone: two columns with nothing in them have their edges at 0.
abbrev pub box_across : List ℤ → ℕ → ℕ → List ℤ
box_across xs from to = box_around (take (to - from) (drop from xs) ∷ [] ∷ [] ∷ [])

-- A range of a lawful list, with a site or more, and their box.
pub record RangeIn (xs ys hs : List ℤ) (r : Range) : Type 0 where
  pub places : SomeStrip xs ys hs r.from r.to
  pub box : r.edges ≡ box_of (sites_of (sites_in xs ys hs r))

-- The gap squared of two boxes, the first list's first: `own` is the second list's where they are swapped.
unfoldable pub gap_of : Bool → List ℤ → List ℤ → ℕ
gap_of swapped own other = cond swapped (squared_box_gap other own) (squared_box_gap own other)

-- That of some sites' box and another.
abbrev pub gap_to : Bool → List ℤ → List Placed → ℕ
gap_to swapped other l = gap_of swapped (box_of (sites_of l)) other

-- The half of a range that has the sites `l`, with its gap.
pub record HalfOf (xs ys hs : List ℤ) (toOther : List Placed → ℕ) (l : List Placed) (h : Half) : Type 0 where
  pub range : RangeIn xs ys hs h.range
  pub sites : sites_in xs ys hs h.range ≡ l
  pub gap : h.gap ≡ toOther l
  pub fits : h.gap < 2 ^ 64

-- Both halves of a range, in the order of their visits.
pub record HalvesOf (xs ys hs : List ℤ) (toOther : List Placed → ℕ) (r : Range) (h : Halves) : Type 0 where
  pub sooner_half : HalfOf xs ys hs toOther (sooner toOther (sites_in xs ys hs r)) h.sooner
  pub later_half : HalfOf xs ys hs toOther (later toOther (sites_in xs ys hs r)) h.later

-- The tally of its four numbers.
unfoldable pub tally_of : List ℕ → Tally
tally_of l = record { range_pairs = get_or l 0 0; queue = record { count = get_or l 1 0; last = get_or l 2 0; reach = get_or l 3 0 } }

-- The list and the count that a tally and the columns hold.
unfoldable pub visited_of : Tally → Results → Visited
visited_of t r = visited (queued t.queue r) t.range_pairs

-- The columns went from `before` with `old` entries to `r`, and with the tally they hold `s`.
pub record VisitedTo (k : ℕ) (before : Results) (old : ℕ) (s : Visited) (r : Results) (t : Tally) : Type 0 where
  pub updated : Updated k before old r t.queue
  pub state : visited_of t r ≡ s

-- A pair of strips that is not dropped: what follows its visit; the same of two ranges, a tally and the columns.
unfoldable pub expand_from : ℕ → List Placed → List Placed → Visited → Visited
expand_from k p q s = expand squared_strip_gap pair apart k (halves_from k) p q s

abbrev pub expand_of : List ℤ → List ℤ → List ℤ → List ℤ → List ℤ → List ℤ → Range → Range → ℕ → Tally → Results → Visited
expand_of ax ay ah bx by bh p q k t r = expand_from k (sites_in ax ay ah p) (sites_in bx by bh q) (visited_of t r)

-- Two ranges, their gap squared, and the list under way.
pub record RangesAsked (ax ay ah bx by bh : List ℤ) (p q : Range) (between k : ℕ) (t : Tally) (r : Results) : Type 0 where
  pub first : RangeIn ax ay ah p
  pub second : RangeIn bx by bh q
  pub gap : between ≡ squared_strip_gap (sites_in ax ay ah p) (sites_in bx by bh q)
  pub queue : Queueing k t.queue r

-- What follows a visit where the pair is not dropped asks for them, and for room to count on.
pub record ExpandAsked (ax ay ah bx by bh : List ℤ) (p q : Range) (between k : ℕ) (t : Tally) (r : Results) : Type 0 where
  pub ranges : RangesAsked ax ay ah bx by bh p q between k t r
  pub fits : (expand_of ax ay ah bx by bh p q k t r).range_pairs < 2 ^ 64
