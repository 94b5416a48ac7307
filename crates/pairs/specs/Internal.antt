-- Terms that only this crate's functions cite: the run of sites near a reference in x, how many they are, the near ones, and
-- their pairs.
use Rattle.std.specs.Prelude.{◌≡◌, ℕ, ◌+◌, ◌-◌, ◌*◌, ◌<◌, ◌≤◌, Bool, true, ◌&&◌, leb, List, map, length, ℤ, pos, negsuc, nat_le, slice_index_or}
use Rattle.order.specs.Lists.{all, keep, sum}
use Rattle.column.specs.Column.{overwritten, stored}
use Rattle.column.specs.Lent.{LentMut}
use Rattle.site.specs.Site.{Site, within, height_within, gap, square, squared_distance}
use Rattle.site.specs.SiteList.{raised_site}
use Rattle.site.specs.Terms.{Coordinates, Heights}
use Rattle.site.specs.declared.Spots.{Spots}
use Rattle.entry.specs.declared.Entry.{Entry}
use Rattle.sweep.specs.Strip.{Placed, pair, pairs}
use Rattle.sweep.specs.Terms.{spot_of, rightward}
use Rattle.pairs.specs.declared.Run.{Run}
use Rattle.pairs.specs.Forecast.{count_within}

-- How far a coordinate is right of the least `i32`.
unfoldable pub offset : ℤ → ℕ
offset x = gap x (negsuc 2_147_483_647)

-- The offset at a place of a column.
abbrev pub offset_at : List ℤ → ℕ → ℕ
offset_at xs k = offset (slice_index_or xs k (pos 0))

-- Offsets never fall from one place to a later one.
pub record Rising (xs : List ℤ) : Type 0 where
  pub rises : (k m : ℕ) → k ≤ m → m < length xs → offset_at xs k ≤ offset_at xs m

-- The x of a lawful list: few, inside the limits, and never falling.
pub record Across (xs : List ℤ) : Type 0 where
  pub few : length xs ≤ 65_535
  pub inside : all within xs ≡ true
  pub rising : Rising xs

-- `r` is the first place from `from` on whose offset is `limit` or more.
pub record Skipped (xs : List ℤ) (from limit r : ℕ) : Type 0 where
  pub onward : from ≤ r
  pub inside : r ≤ length xs
  pub below : (k : ℕ) → from ≤ k → k < r → offset_at xs k < limit
  pub stop : r < length xs → limit ≤ offset_at xs r

-- Each place before the run's left end is further than `e` to the left of the reference at `i`, and none before its right end
-- is further than `e` to the right; both ends are inside.
pub record Behind (a b : List ℤ) (e i : ℕ) (run : Run) : Type 0 where
  pub left : run.left ≤ length b
  pub right : run.right ≤ length b
  pub below : (k : ℕ) → k < run.left → offset_at b k + e < offset_at a i
  pub reached : (k : ℕ) → k < run.right → offset_at b k ≤ offset_at a i + e

-- Besides, none from the run's left end on is further than `e` to the left, and each from its right end on is to the right:
-- the run has exactly the places no further than `e` in x.
pub record RunOf (a b : List ℤ) (e i : ℕ) (run : Run) : Type 0 where
  pub behind : Behind a b e i run
  pub from : (k : ℕ) → run.left ≤ k → k < length b → offset_at a i ≤ offset_at b k + e
  pub above : (k : ℕ) → run.right ≤ k → k < length b → offset_at a i + e < offset_at b k

-- How many partners each of some x has among others.
unfoldable pub partners_across : ℕ → List ℤ → List ℤ → List ℕ
partners_across e ax bx = map (λ x. count_within e (map (gap x) bx)) ax

-- A column that held `before` holds them from its start on, and `r` is their sum.
pub record PartnersWritten (ax bx : List ℤ) (e : ℕ) (before after : List ℕ) (r : ℕ) : Type 0 where
  pub column : after ≡ overwritten (partners_across e ax bx) before
  pub total : r ≡ sum (partners_across e ax bx)

-- A site whose squared distance from a position is at most a limit, and 1 or more.
unfoldable pub near : ℕ → ℤ → ℤ → ℤ → Site → Bool
near limit x y h s = let d = squared_distance (raised_site x y 0 h) s in nat_le d limit && nat_le 1 d

-- The near ones of the sites from place `from` up to, not including, place `to`.
unfoldable pub near_sites : ℕ → ℤ → ℤ → ℤ → List ℤ → List ℤ → List ℤ → ℕ → ℕ → List Placed
near_sites limit x y h xs ys hs from to =
    keep (λ o. near limit x y h o.site) (rightward xs ys hs from (to - from))

-- The pairs of a reference, by its position and its place, with them.
abbrev pub row_pairs : ℕ → ℤ → ℤ → ℤ → ℕ → List ℤ → List ℤ → List ℤ → ℕ → ℕ → List Entry
row_pairs e x y h place xs ys hs from to =
    map (pair (spot_of x y h place)) (near_sites (e * e) x y h xs ys hs from to)

-- The pairs of the first list's sites from place `from` on that are within `e`: from 0 on, a distance list.
unfoldable pub near_pairs : ℕ → List ℤ → List ℤ → List ℤ → List ℤ → List ℤ → List ℤ → ℕ → List Entry
near_pairs e ax ay ah bx by bh from =
    keep (λ p. leb p.distance (square e))
    (pairs (rightward ax ay ah from (length ax - from)) (rightward bx by bh 0 (length bx - 0)))

-- The same of two lists that were lent.
abbrev pub lent_pairs : ℕ → Spots → Spots → ℕ → List Entry
lent_pairs e a b = near_pairs e a.x.now a.y.now a.height.now b.x.now b.y.now b.height.now

-- A position inside the limits, and the coordinate columns of a lawful list.
pub record Reference (x y h : ℤ) (xs ys hs : List ℤ) : Type 0 where
  pub inside_x : within x ≡ true
  pub inside_y : within y ≡ true
  pub inside_height : height_within h ≡ true
  pub others : Coordinates xs ys
  pub heights : Heights (length xs) hs

-- Both columns have room for the places of some pairs from place `n` on.
pub record Room (l : List Entry) (n : ℕ) (first second : List ℕ) : Type 0 where
  pub in_first : n + length l ≤ length first
  pub in_second : n + length l ≤ length second

-- The columns hold the places of some pairs from place `n` on, and `r` is the place past them.
pub record Written (l : List Entry) (n : ℕ) (first second first' second' : List ℕ) (r : ℕ) : Type 0 where
  pub count : r ≡ n + length l
  pub in_first : first' ≡ stored n (map (λ p. p.first) l) first
  pub in_second : second' ≡ stored n (map (λ p. p.second) l) second

-- The same of two columns as they are lent.
abbrev pub Writes : List Entry → ℕ → LentMut (List ℕ) → LentMut (List ℕ) → ℕ → Type 0
Writes l n first second r =
    Written l n first.entry.now second.entry.now first.exit.now second.exit.now r
