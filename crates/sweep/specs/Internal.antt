-- Terms that only this crate's functions cite: references, tallies, what a look and a scan ask and promise, and runs of
-- sites at one position.
use Rattle.std.specs.Prelude.{Bool, cond, not, ◌&&◌, ◌||◌, false, true, List, [], ◌∷◌, ◌≡◌, ℕ, zero, suc, ◌+◌, ◌≤◌, ◌<◌, ◌^◌, leb, ltb, ℤ, pos, get_or, length}
use Rattle.std.specs.Int.Signed.{le_z}
use Rattle.order.specs.Lists.{keep}
use Rattle.site.specs.Site.{within, height_within, site_before}
use Rattle.site.specs.Terms.{position_at, Coordinates, Heights}
use Rattle.entry.specs.declared.Queue.{Queue}
use Rattle.entry.specs.Entry.{apart}
use Rattle.entry.specs.Results.{Results}
use Rattle.entry.specs.Terms.{queued, Queueing, Updated}
use Rattle.sweep.specs.declared.Reference.{Reference}
use Rattle.sweep.specs.declared.Tally.{Tally}
use Rattle.sweep.specs.declared.Looked.{Looked}
use Rattle.sweep.specs.Strip.{Placed, pair, product}
use Rattle.sweep.specs.Scan.{Candidate, State, state, beyond, look_at}
use Rattle.sweep.specs.Sweep.{look}
use Rattle.sweep.specs.Terms.{spot_of, spot}

-- `n` sites from place `limit` on, latest first.
unfoldable pub leftward : List ℤ → List ℤ → List ℤ → ℕ → ℕ → List Placed
leftward xs ys hs limit zero = []
leftward xs ys hs limit (suc n) = spot xs ys hs (limit + n) ∷ leftward xs ys hs limit n

-- The reference at a place of three coordinate columns.
unfoldable pub reference_at : List ℤ → List ℤ → List ℤ → ℕ → Bool → Reference
reference_at xs ys hs i swapped =
    record { x = get_or xs i (pos 0); y = get_or ys i (pos 0); height = get_or hs i (pos 0); place = i; swapped = swapped }

-- A look from a reference; it is `swapped` where it is the second list's.
unfoldable pub look_from : Reference → Placed → Candidate
look_from r o =
    let site = spot_of r.x r.y r.height r.place in
    cond r.swapped (look o site) (look site o)

-- Whether the next reference is the first list's: there is one, and the second list has none or one that it leads.
unfoldable pub first_next : List ℤ → ℕ → ℕ → List ℤ → ℕ → ℕ → Bool
first_next ax i aTo bx j bTo = ltb i aTo && (leb bTo j || le_z (get_or ax i (pos 0)) (get_or bx j (pos 0)))

-- The state that a tally and the columns hold.
unfoldable pub state_of : Tally → Results → State
state_of t r = state (queued t.queue r) t.looks t.distances

-- A look that goes on, with the list under way as an offer left it.
abbrev pub gone_on : Tally → Queue → Looked
gone_on t q =
    record { stopped = false; tally = record { at = t.at; looks = t.looks; distances = t.distances; queue = q } }

-- The reference is within the limits, and the others are coordinate columns of a lawful list.
pub record LawfulLook (o : Reference) (xs ys hs : List ℤ) : Type 0 where
  pub x : within o.x ≡ true
  pub y : within o.y ≡ true
  pub height : height_within o.height ≡ true
  pub others : Coordinates xs ys
  pub heights : Heights (length xs) hs

-- A look asks for a place of the others, and room to count on.
pub record LookAsked (o : Reference) (xs ys hs : List ℤ) (i k : ℕ) (old : Tally) (r : Results) : Type 0 where
  pub lawful : LawfulLook o xs ys hs
  pub inside : i < length xs
  pub queue : Queueing k old.queue r
  pub looks_fit : old.looks < 2 ^ 63
  pub distances_fit : old.distances < 2 ^ 63

-- A scan asks the same for the sites from place `from` up to, not including, place `to`.
pub record ScanAsked (o : Reference) (xs ys hs : List ℤ) (from to k : ℕ) (old : Tally) (r : Results) : Type 0 where
  pub lawful : LawfulLook o xs ys hs
  pub range : from ≤ to
  pub to_inside : to ≤ length xs
  pub queue : Queueing k old.queue r
  pub looks_fit : old.looks ≤ 2 ^ 62
  pub distances_fit : old.distances ≤ 2 ^ 62

-- The columns went from `before` with `old` entries to `r`, and with the tally they hold the state `s`.
pub record Tallied (k : ℕ) (before : Results) (old : ℕ) (s : State) (r : Results) (t : Tally) : Type 0 where
  pub updated : Updated k before old r t.queue
  pub state : state_of t r ≡ s

-- A look promises whether it stopped the scan, and the state that it leaves.
pub record LookDone (k : ℕ) (c : Candidate) (old : Tally) (before after : Results) (l : Looked) : Type 0 where
  pub stopped : l.stopped ≡ beyond k (queued old.queue before) c.gap
  pub tally : Tallied k before old.queue.count (look_at apart k c (state_of old before)) after l.tally

-- A strip of a lawful list in the plane, by its columns of x and y.
pub record PlaneStrip (xs ys : List ℤ) (from to : ℕ) : Type 0 where
  pub lawful : Coordinates xs ys
  pub range : from ≤ to
  pub inside : to ≤ length xs

-- In a strip that ends at place `to`, the sites at the position of place `from` are those up to, not including, place `r`.
pub record RunAt (xs ys : List ℤ) (from to r : ℕ) : Type 0 where
  pub onward : from < r
  pub inside : r ≤ to
  pub same : (k : ℕ) → from ≤ k → k < r → position_at xs ys k ≡ position_at xs ys from
  pub past : r < to → site_before (position_at xs ys from) (position_at xs ys r) ≡ true

-- How many of one site each of two strips stand at one position, and so are no pairs. (02 d: co-sited cells.)
unfoldable pub co_sited : List Placed → List Placed → ℕ
co_sited p q = length (keep (λ e. not (apart e)) (product pair p q))
