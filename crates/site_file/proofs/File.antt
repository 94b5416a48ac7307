-- The sites in a file's bytes, one after another.
use mathlib.Core.Path.{◌≡◌, refl, sym, ap, ◌∙◌}
use mathlib.Core.Bool.{Bool, true, false, ◌&&◌, and-true}
use mathlib.Core.List.{List, ◌++◌, flat_map, zip_with}
use Prim.Native.Nat.{ℕ, zero, suc, ◌+◌, ◌-◌, ◌*◌, ◌≤◌, ◌<◌}
use native.Mathlib.Nat.{add-zero}
use native.Mathlib.Numerals.{add-one}
use native.Mathlib.Omega.{arith}
use lib.IntN.{ℤ, pos}
use lib.ListN.{length, drop, get_or, drop_of_length-le}
use lib.Seq.{drop-cons}
use mir.Syntax.{w32}
use mir.Val.{SFits, to_z, of_z}
use mir.Facts.{to_z-of_z}
use Rattle.std.specs.List.{list_all, range_with_len}
use Rattle.order.specs.Order.{ascending}
use Rattle.order.specs.Lists.{all}
use Rattle.site.specs.Site.{Site, within, all_within, lawful_site, site_before}
use Rattle.site.specs.SiteList.{Columns, site, sites}
use Rattle.site.specs.Terms.{Level}
use Rattle.site.proofs.SiteList.{nowhere, sites_length, sites_at}
use Rattle.site_file.specs.declared.FileSite.{FileSite}
use Rattle.site_file.specs.declared.Which.{Which}
use Rattle.site_file.specs.Bytes.{bytes4, word, unsigned, signed}
use Rattle.column.specs.Column.{stored}
use Rattle.site_file.specs.File.{site_of_file, site_bytes, start_in, count_in, site_in, sites_from, sites_in}
use Rattle.column.proofs.Stored.{stored_none, stored_after}

-- What the code makes of the bytes at a position.
module _ (file : List ℕ) (at : ℕ) where
  pub site_made : {a b n : ℕ} {x y : ℤ} → SFits w32 x → SFits w32 y → a ≡ word file at → x ≡ signed a
      → b ≡ word file (at + 4) → y ≡ signed b → n ≡ word file (at + 8)
      → site (to_z w32 (of_z w32 x)) (to_z w32 (of_z w32 y)) n ≡ site_in file at
  unfolding site_in
  site_made hx hy pa px pb py pn = rw (to_z-of_z hx, to_z-of_z hy, px, py, pa, pb, pn)

  -- What the limits say of a site that was read.
  pub lawful_made : {s : FileSite} {p q : Bool} → site_of_file s ≡ site_in file at → SFits w32 s.x
      → p ≡ within (to_z w32 (of_z w32 s.x)) → p ≡ true → SFits w32 s.y → q ≡ within (to_z w32 (of_z w32 s.y))
      → q ≡ lawful_site (site_in file at)
  unfolding lawful_site all_within all zip_with
  lawful_made e hx px t hy py =
      rw (← e, ← (px ∙ ap within (to_z-of_z hx)), t, ← (py ∙ ap within (to_z-of_z hy))) (sym (and-true _))

  pub lawful_not : {s : FileSite} {p : Bool} → site_of_file s ≡ site_in file at → SFits w32 s.x → p ≡ within (to_z w32 (of_z w32 s.x))
      → p ≡ false → false ≡ lawful_site (site_in file at)
  unfolding lawful_site all_within all zip_with
  lawful_not e hx px t = rw (← e, ← (px ∙ ap within (to_z-of_z hx)), t)

-- A test of each site of a run, or of each one and the next, by place.
module _ (file : List ℕ) (start : ℕ) where
  abbrev pub lawful_place : ℕ → Bool
  lawful_place i = lawful_site (site_in file (start + 12 * i))

  abbrev pub ordered_place : ℕ → Bool
  ordered_place i = site_before (site_in file (start + 12 * (i - 1))) (site_in file (start + 12 * (i - 1) + 12))

  lawful_from : (at i n : ℕ) → at ≡ start + 12 * i
      → list_all lawful_place (range_with_len i n) ≡ all lawful_site (sites_from file at n)
  unfolding all sites_from
  lawful_from at i zero e = refl
  lawful_from at i (suc n) e =
      rw (← e) (ap (λ (b : Bool). lawful_site (site_in file at) && b) (lawful_from (at + 12) (i + 1) n (omega arith)))

  ascending_from : (at i n : ℕ) → at ≡ start + 12 * i
      → list_all ordered_place (range_with_len (i + 1) n) ≡ ascending site_before (sites_from file at (suc n))
  unfolding ascending sites_from
  ascending_from at i zero e = refl
  ascending_from at i (suc n) e =
      let same : start + 12 * (i + 1 - 1) ≡ at = omega arith in
      rw same
      (ap (λ (b : Bool). site_before (site_in file at) (site_in file (at + 12)) && b)
      (ascending_from (at + 12) (i + 1) n (omega arith)))

  pub lawful_run : (n : ℕ) → list_all lawful_place (range_with_len 0 n) ≡ all lawful_site (sites_from file start n)
  lawful_run n = lawful_from start 0 n (omega arith)

  pub ascending_run : (n : ℕ)
      → list_all ordered_place (range_with_len 1 (n - 1)) ≡ ascending site_before (sites_from file start n)
  unfolding ascending sites_from
  ascending_run zero = refl
  ascending_run (suc n) = let one : suc n - 1 ≡ n = omega arith in rw one (ascending_from start 0 n (omega arith))

-- The sites from a position on, by place.
pub from_length : (l : List ℕ) (at n : ℕ) → length (sites_from l at n) ≡ n
unfolding sites_from
from_length l at zero = refl
from_length l at (suc n) = ap suc (from_length l (at + 12) n)

pub from_at : (l : List ℕ) (at n i : ℕ) (d : Site) → i < n → get_or (sites_from l at n) i d ≡ site_in l (at + 12 * i)
unfolding sites_from
from_at l at zero i d h = absurd (omega arith)
from_at l at (suc n) zero d h = rw (add-zero at)
from_at l at (suc n) (suc i) d h =
    let e : at + 12 + 12 * i ≡ at + 12 * suc i = omega arith in
    rw (← e) (from_at l (at + 12) n i d (omega arith))

pub list_length : (file : List ℕ) (w : Which) → length (sites_in file w) ≡ count_in file w
unfolding sites_in
list_length file w = from_length file (start_in file w) (count_in file w)

-- Three words stored in a row are a site.
pub site_stored : (l : List ℕ) (at n : ℕ) (x y : ℤ) {p q r : List ℕ} {a b : ℕ} → at + 12 ≤ length l → SFits w32 x
    → SFits w32 y → a ≡ unsigned (to_z w32 (of_z w32 x)) → p ≡ stored at (bytes4 a) l → b ≡ unsigned (to_z w32 (of_z w32 y))
    → q ≡ stored (at + 4) (bytes4 b) p → r ≡ stored (at + 8) (bytes4 n) q → r ≡ stored at (site_bytes (site x y n)) l
unfolding site_bytes bytes4
site_stored l at n x y h hx hy pa e pb f g =
    let u : ℕ = unsigned x in
    let v : ℕ = unsigned y in
    let one : stored (at + 8) (bytes4 n) (stored (at + 4) (bytes4 v) (stored at (bytes4 u) l))
    ≡ stored (at + 8) (bytes4 n) (stored at (bytes4 u ++ bytes4 v) l) =
    rw (stored_after at (at + 4) (bytes4 u) (bytes4 v) l refl (omega arith)) in
    rw (g, f, e, pa ∙ ap unsigned (to_z-of_z hx), pb ∙ ap unsigned (to_z-of_z hy))
    (one ∙ stored_after at (at + 8) (bytes4 u ++ bytes4 v) (bytes4 n) l refl (omega arith))

-- One site stored, and then the rest of the list.
module _ (c : Columns) (level : Level c) where
  pub sites_step : (l : List ℕ) (start i : ℕ) {m : List ℕ} → start + 12 * i + 12 ≤ length l → i < length c.x
      → SFits w32 (get_or c.x i (pos 0)) → SFits w32 (get_or c.y i (pos 0))
      → m ≡ stored (start + 12 * i)
      (site_bytes
      (site (to_z w32 (of_z w32 (get_or c.x i (pos 0)))) (to_z w32 (of_z w32 (get_or c.y i (pos 0))))
      (get_or c.number i 0)))
      l
      → stored (start + 12 * (i + 1)) (flat_map site_bytes (drop (i + 1) (sites c))) m
      ≡ stored (start + 12 * i) (flat_map site_bytes (drop i (sites c))) l
  unfolding flat_map site_bytes bytes4
  sites_step l start i h lt hx hy e =
      let next : start + 12 * (i + 1) ≡ start + 12 * i + 12 = omega arith in
      let left = drop-cons (sites c) i nowhere (omega (arith, sites_length c level)) in
      rw (next, e, to_z-of_z hx, to_z-of_z hy, left, sites_at c level i nowhere lt, add-one)
      (stored_after (start + 12 * i) (start + 12 * i + 12) _ _ l refl h)

  pub sites_end : (l : List ℕ) (at i : ℕ) → length c.x ≤ i → l ≡ stored at (flat_map site_bytes (drop i (sites c))) l
  unfolding flat_map
  sites_end l at i h =
      rw (drop_of_length-le (sites c) {i = i} (omega (arith, sites_length c level))) (sym (stored_none at l))
