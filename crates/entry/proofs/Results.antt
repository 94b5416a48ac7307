-- Laws of the three result columns and the entries that they hold.
use mathlib.Core.Path.{◌≡◌, refl, sym, ap, ◌∙◌}
use mathlib.Core.Bool.{true, ◌&&◌, and-eq-true_iff}
use mathlib.Core.List.{List, [], ◌∷◌, ◌++◌, map, zip_with}
use Prim.Native.Nat.{ℕ, zero, suc, ◌-◌, ◌≤◌, ◌<◌}
use native.Mathlib.Omega.{arith}
use lib.Dec.{leb}
use lib.ListN.{length, take, drop, get_or, length-take, length-map}
use lib.Seq.{take-append_seam, drop-append_seam, take-take, length-take-le, get_or-take}
use borrow.Author.Tests.{leb-true, le-leb}
use Rattle.order.proofs.Lists.{drop_take, length_zip, zip_at, zip_take, zip_drop}
use Rattle.column.specs.Column.{overwritten}
use Rattle.column.proofs.Overwritten.{length_overwritten, overwritten_again, overwritten_self}
use Rattle.entry.specs.declared.Entry.{Entry}
use Rattle.entry.specs.Entry.{entry, last_distance}
use Rattle.entry.specs.Terms.{entry_at}
use Rattle.entry.specs.Results.{Results, below, entries_of, holding, room_for}
use Rattle.entry.proofs.Rank.{last_distance_lem}

-- ---- room

module _ (k : ℕ) (r : Results) where
  pub room_lengths : room_for k r ≡ true
      → (k ≤ length r.distance) × (k ≤ length r.first) × (k ≤ length r.second)
  unfolding room_for
  room_lengths h =
      let p = (and-eq-true_iff (leb k (length r.distance))
      (leb k (length r.first) && leb k (length r.second))).0 h in
      let q = (and-eq-true_iff (leb k (length r.first)) (leb k (length r.second))).0 p.1 in (
        leb-true k (length r.distance) p.0,
        leb-true k (length r.first) q.0,
        leb-true k (length r.second) q.1,
      )

  -- A place below `k` is one of each column.
  pub room_inside : room_for k r ≡ true → {i : ℕ} → i < k
      → (i < length r.distance) × (i < length r.first) × (i < length r.second)
  room_inside h i = let n = room_lengths h in omega arith

  pub lengths_room : k ≤ length r.distance → k ≤ length r.first → k ≤ length r.second → room_for k r ≡ true
  unfolding room_for
  lengths_room d f s =
      simp (le-leb k (length r.distance) d, le-leb k (length r.first) f, le-leb k (length r.second) s)

-- Room for more is room for fewer.
pub room_fewer : {n k : ℕ} (r : Results) → n ≤ k → room_for k r ≡ true → room_for n r ≡ true
room_fewer {n} {k} r h room =
    let m = room_lengths k r room in
    lengths_room n r (omega arith) (omega arith) (omega arith)

-- ---- entries of columns

-- The entries of three columns, as many as the shortest has.
abbrev pub zip_entries : List ℕ → List ℕ → List ℕ → List Entry
zip_entries ds is js = zip_with (λ make j. make j) (zip_with entry ds is) js

zip_append : (l : List Entry) (ds is js : List ℕ)
    → zip_entries (map (λ e. e.distance) l ++ ds) (map (λ e. e.first) l ++ is) (map (λ e. e.second) l ++ js) ≡
    l ++ zip_entries ds is js
unfolding zip_with
zip_append [] ds is js = refl
zip_append (e ∷ l) ds is js = ap (λ (r : List Entry). e ∷ r) (zip_append l ds is js)

-- The columns hold what was written.
pub entries_holding : (l : List Entry) (r : Results) → entries_of (length l) (holding l r) ≡ l
unfolding entries_of holding overwritten
entries_holding l r =
    let past : (Entry → ℕ) → List ℕ → List ℕ = λ key column. drop (length (map key l)) column in
    rw (zip_append l (past (λ e. e.distance) r.distance) (past (λ e. e.first) r.first)
    (past (λ e. e.second) r.second))
    (take-append_seam l _)

-- Fewer entries are the first of more.
pub take_entries : (n count : ℕ) (r : Results) → n ≤ count → take n (entries_of count r) ≡ entries_of n r
unfolding entries_of
take_entries n count r h = take-take n count (zip_entries r.distance r.first r.second) h

-- Entries past what was written are as before.
pub past_holding : (l : List Entry) (r : Results) (count : ℕ)
    → drop (length l) (entries_of count (holding l r)) ≡ drop (length l) (entries_of count r)
unfolding entries_of holding overwritten
past_holding l r count =
    let n = length l in
    let z = zip_entries r.distance r.first r.second in
    let past : (Entry → ℕ) → List ℕ → List ℕ = λ key column. drop (length (map key l)) column in
    let same : zip_entries (past (λ e. e.distance) r.distance) (past (λ e. e.first) r.first)
    (past (λ e. e.second) r.second) ≡ drop n z =
    rw (
      length-map l (λ e. e.distance),
      length-map l (λ e. e.first),
      length-map l (λ e. e.second),
      zip_drop entry
          n r.distance r.first,
    )
    (zip_drop (λ make j. make j) n (zip_with entry r.distance r.first) r.second) in
    rw (
      zip_append l (past (λ e. e.distance) r.distance) (past (λ e. e.first) r.first)
          (past (λ e. e.second) r.second),
      same,
      drop_take n count (l ++ drop n z),
      drop_take n count z,
      drop-append_seam l (drop n z),
    )

-- The entries' numbers stand in the columns.
zip_columns : (n : ℕ) (ds is js : List ℕ) → n ≤ length ds → n ≤ length is → n ≤ length js
    → (map (λ e. e.distance) (take n (zip_entries ds is js)) ≡ take n ds)
    × (map (λ e. e.first) (take n (zip_entries ds is js)) ≡ take n is)
    × (map (λ e. e.second) (take n (zip_entries ds is js)) ≡ take n js)
unfolding zip_with
zip_columns zero ds is js p q t = (refl, refl, refl)
zip_columns (suc n) [] is js p q t = absurd (omega arith)
zip_columns (suc n) (d ∷ ds) [] js p q t = absurd (omega arith)
zip_columns (suc n) (d ∷ ds) (i ∷ is) [] p q t = absurd (omega arith)
zip_columns (suc n) (d ∷ ds) (i ∷ is) (j ∷ js) p q t =
    let h = zip_columns n ds is js (omega arith) (omega arith) (omega arith) in
    (ap (λ (r : List ℕ). d ∷ r) h.0, ap (λ (r : List ℕ). i ∷ r) h.1, ap (λ (r : List ℕ). j ∷ r) h.2)

pub entries_below : (n : ℕ) (r : Results) → entries_of n (below n r) ≡ entries_of n r
unfolding entries_of
entries_below n r =
    let pairs = zip_with entry r.distance r.first in
    ap (λ (l : List (ℕ → Entry)). take n (zip_with (λ make j. make j) l (take n r.second)))
    (zip_take entry n r.distance r.first)
    ∙ ap (take n) (zip_take (λ make j. make j) n pairs r.second)
    ∙ take-take n n (zip_entries r.distance r.first r.second) (omega arith)

pub room_below : (k n : ℕ) (r : Results) → room_for k r ≡ true → n ≤ k → room_for n (below n r) ≡ true
room_below k n r room h =
    let m = room_lengths k r room in
    let a = length-take-le n r.distance (omega arith) in
    let b = length-take-le n r.first (omega arith) in
    let c = length-take-le n r.second (omega arith) in
    lengths_room n (below n r) (omega arith) (omega arith) (omega arith)

-- `count` entries within the room of the columns.
module _ (k count : ℕ) (r : Results) (room : room_for k r ≡ true) (most : count ≤ k) where
  pub length_entries : length (entries_of count r) ≡ count
  unfolding entries_of
  length_entries = simp (length-take, length_zip) (omega (arith, room_lengths k r room))

  -- Each column begins with its numbers of the entries.
  pub entries_columns : (map (λ e. e.distance) (entries_of count r) ≡ take count r.distance)
      × (map (λ e. e.first) (entries_of count r) ≡ take count r.first)
      × (map (λ e. e.second) (entries_of count r) ≡ take count r.second)
  unfolding entries_of
  entries_columns =
      let h = room_lengths k r room in
      zip_columns count r.distance r.first r.second (omega arith) (omega arith) (omega arith)

  -- An entry by its place.
  pub entry_at_lem : (i : ℕ) (e : Entry) → i < count
      → get_or (entries_of count r) i e ≡ entry_at r i
  unfolding entries_of
  entry_at_lem i e h =
      let n = room_lengths k r room in
      let pairs = zip_with entry r.distance r.first in
      get_or-take count (zip_entries r.distance r.first r.second) i e h
      ∙ zip_at (λ make j. make j) pairs r.second i (entry 0 0) 0 e (simp length_zip (omega arith)) (omega arith)
      ∙ ap (λ (make : ℕ → Entry). make (get_or r.second i 0))
      (zip_at entry r.distance r.first i 0 0 (entry 0 0) (omega arith) (omega arith))

  -- The last squared distance stands in its column.
  pub last_distance_column : 0 < count → last_distance (entries_of count r) ≡ get_or r.distance (count - 1) 0
  last_distance_column h =
      last_distance_lem (entries_of count r) (count - 1) (entry 0 0 0) (omega (arith, length_entries))
      ∙ ap (λ e. e.distance) (entry_at_lem (count - 1) (entry 0 0 0) (omega arith))

  -- The columns hold their own entries.
  pub holding_self : holding (entries_of count r) r ≡ r
  unfolding holding
  holding_self =
      let n = room_lengths k r room in
      let c = entries_columns in
      let own : (column : List ℕ) → count ≤ length column → overwritten (take count column) column ≡ column =
      overwritten_self count in
      rw (
        c.0,
        c.1,
        c.2,
        own r.distance (omega arith),
        own r.first (omega arith),
        own r.second
            (omega arith),
      )

-- The entry that is read at a place of the columns.
pub read_entry : (n : ℕ) (r : Results) → room_for n r ≡ true → {i : ℕ} {x : Entry} → i < n → x ≡ entry_at r i
    → get_or (entries_of n r) i (entry 0 0 0) ≡ x
read_entry n r room {i} h is = entry_at_lem n n r room (omega arith) i (entry 0 0 0) h ∙ sym is

-- Written again, at least as far.
pub holding_again : (l m : List Entry) (r : Results) → length l ≤ length m → holding m (holding l r) ≡ holding m r
unfolding holding
holding_again l m r h = λ i. record {
  distance = overwritten_again (map (λ e. e.distance) l) (map (λ e. e.distance) m) r.distance
      (lengths (λ e. e.distance)) i;
  first = overwritten_again (map (λ e. e.first) l) (map (λ e. e.first) m) r.first (lengths (λ e. e.first)) i;
  second = overwritten_again (map (λ e. e.second) l) (map (λ e. e.second) m) r.second (lengths (λ e. e.second)) i;
}
  where
    lengths : (f : Entry → ℕ) → length (map f l) ≤ length (map f m)
    lengths f = rw (length-map l f, length-map m f) h

-- No column changes its length.
pub holding_lengths : (l : List Entry) (r : Results) → room_for (length l) r ≡ true
    → (length (holding l r).distance ≡ length r.distance)
    × (length (holding l r).first ≡ length r.first)
    × (length (holding l r).second ≡ length r.second)
unfolding holding
holding_lengths l r room =
    let n = room_lengths (length l) r room in (
      length_overwritten (map (λ e. e.distance) l) r.distance (rw (length-map) n.0),
      length_overwritten (map (λ e. e.first) l) r.first (rw (length-map) n.1),
      length_overwritten (map (λ e. e.second) l) r.second (rw (length-map) n.2),
    )

-- Room stays.
pub room_holding : (k : ℕ) (l : List Entry) (r : Results) → room_for k r ≡ true → length l ≤ k
    → room_for k (holding l r) ≡ true
room_holding k l r room h =
    let n = room_lengths k r room in
    let m = holding_lengths l r (lengths_room (length l) r (omega arith) (omega arith) (omega arith)) in
    lengths_room k (holding l r) (omega arith) (omega arith) (omega arith)
