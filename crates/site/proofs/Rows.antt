-- The sites of columns into which a site is put at a place, and out of which the one at a place is taken.
use mathlib.Core.Path.{◌≡◌, refl, sym, ap, ap₂, ◌∙◌}
use mathlib.Core.List.{List, [], ◌∷◌, map, zip_with}
use Prim.Native.Nat.{ℕ, ◌+◌, ◌-◌, ◌≤◌, ◌<◌}
use native.Mathlib.Omega.{arith}
use lib.IntN.{ℤ, pos}
use lib.ListN.{length, take}
use Rattle.order.specs.Lists.{All}
use Rattle.order.proofs.Lists.{all_weaken, all_map, length_zip}
use Rattle.order.proofs.Places.{put, without, without_put, put_without, zip_put, zip_without}
use Rattle.column.specs.Column.{inserted, removed}
use Rattle.column.proofs.Inserted.{inserted_in_use, length_inserted}
use Rattle.column.proofs.Removed.{removed_in_use, length_removed}
use Rattle.site.specs.Site.{Site}
use Rattle.site.specs.SiteList.{Columns, site, with_coordinate, with_columns, sites, in_use}
use Rattle.site.specs.Terms.{Level}
use Rattle.site.specs.Addition.{insert_site}
use Rattle.site.specs.Removal.{remove_site}
use Rattle.site.proofs.SiteList.{row, columns_at, columns_keep_length, flat, flat_length, further_level}

-- A site put into columns that have as many coordinates as it, and the site at a place taken out of some.
abbrev pub put_row : ℕ → Site → Columns → Columns
put_row p s c =
    record {
      x = put p s.x c.x;
      y = put p s.y c.y;
      number = put p s.number c.number;
      further = zip_with (put p) s.further c.further;
    }

abbrev pub without_row : ℕ → Columns → Columns
without_row p c =
    record { x = without p c.x; y = without p c.y; number = without p c.number; further = map (without p) c.further }

-- What holds of the length of the first column holds of each further one's.
each : (c : Columns) → Level c → (P : ℕ → Type 0) → P (length c.x) → All (λ column. P (length column)) c.further
each c level P h =
    all_weaken (λ column. length column ≡ length c.x) (λ column. P (length column)) (λ column e. rw e h) c.further level.further

-- ---- the sites

columns_without : (p : ℕ) (further : List (List ℤ)) (l : List Site)
    → with_columns (map (without p) further) (without p l) ≡ without p (with_columns further l)
unfolding with_columns
columns_without p [] l = refl
columns_without p (column ∷ further) l =
    ap (zip_with with_coordinate (without p column)) (columns_without p further l)
    ∙ zip_without with_coordinate p column (with_columns further l)

pub sites_without : (p : ℕ) (c : Columns) → sites (without_row p c) ≡ without p (sites c)
unfolding sites
sites_without p c =
    ap (with_columns (map (without p) c.further))
    (ap (λ (makes : List (ℕ → Site)). zip_with (λ make n. make n) makes (without p c.number)) (zip_without site p c.x c.y)
    ∙ zip_without (λ make n. make n) p (zip_with site c.x c.y) c.number)
    ∙ columns_without p c.further (zip_with (λ make n. make n) (zip_with site c.x c.y) c.number)

columns_put : (p : ℕ) (x y : ℤ) (m : ℕ) (vs : List ℤ) (further : List (List ℤ)) (l : List Site) → length vs ≡ length further
    → All (λ column. length column ≡ length l) further → p ≤ length l
    → with_columns (zip_with (put p) vs further) (put p (site x y m) l)
    ≡ put p (record { x = x; y = y; number = m; further = vs }) (with_columns further l)
unfolding with_columns zip_with All
columns_put p x y m [] [] l e level h = refl
columns_put p x y m [] (column ∷ further) l e level h = absurd (omega arith)
columns_put p x y m (v ∷ vs) [] l e level h = absurd (omega arith)
columns_put p x y m (v ∷ vs) (column ∷ further) l e level h =
    ap (zip_with with_coordinate (put p v column)) (columns_put p x y m vs further l (omega arith) level.1 h)
    ∙ zip_put with_coordinate p v (record { x = x; y = y; number = m; further = vs }) column (with_columns further l)
    (omega (arith, level.0)) (omega (arith, columns_keep_length further l level.1))

module _ (c : Columns) (level : Level c) (p : ℕ) where
  pub sites_put : (s : Site) → length s.further ≡ length c.further → p ≤ length c.x → sites (put_row p s c) ≡ put p s (sites c)
  unfolding sites
  sites_put s e h =
      let makes = zip_with site c.x c.y in
      let many : p ≤ length makes = simp length_zip (omega (arith, level.y)) in
      ap (with_columns (zip_with (put p) s.further c.further))
      (ap (λ (r : List (ℕ → Site)). zip_with (λ make n. make n) r (put p s.number c.number))
      (zip_put site p s.x s.y c.x c.y h (omega (arith, level.y)))
      ∙ zip_put (λ make n. make n) p (site s.x s.y) s.number makes c.number many (omega (arith, level.number)))
      ∙ columns_put p s.x s.y s.number s.further c.further (flat c level) e (further_level c level)
      (omega (arith, flat_length c level))

-- ---- each undoes the other

further_back : (p : ℕ) (vs : List ℤ) (further : List (List ℤ)) → length vs ≡ length further → All (λ column. p ≤ length column) further
    → map (without p) (zip_with (put p) vs further) ≡ further
unfolding zip_with All
further_back p [] [] e h = refl
further_back p [] (column ∷ further) e h = absurd (omega arith)
further_back p (v ∷ vs) [] e h = absurd (omega arith)
further_back p (v ∷ vs) (column ∷ further) e h =
    ap₂ (λ (a : List ℤ) (b : List (List ℤ)). a ∷ b) (without_put p v column h.0) (further_back p vs further (omega arith) h.1)

further_again : (p : ℕ) (further : List (List ℤ)) → All (λ column. p < length column) further
    → zip_with (put p) (row further p) (map (without p) further) ≡ further
unfolding zip_with All
further_again p [] h = refl
further_again p (column ∷ further) h =
    ap₂ (λ (a : List ℤ) (b : List (List ℤ)). a ∷ b) (put_without p (pos 0) column h.0) (further_again p further h.1)

module _ (c : Columns) (level : Level c) (p : ℕ) where
  pub without_row_put : (s : Site) → length s.further ≡ length c.further → p ≤ length c.x → without_row p (put_row p s c) ≡ c
  without_row_put s e h =
      let x = without_put p s.x c.x h in
      let y = without_put p s.y c.y (omega (arith, level.y)) in
      let number = without_put p s.number c.number (omega (arith, level.number)) in
      let further = further_back p s.further c.further e (each c level (λ k. p ≤ k) h) in
      λ i. record { x = x i; y = y i; number = number i; further = further i }

  pub put_row_without : p < length c.x → put_row p (columns_at c p) (without_row p c) ≡ c
  put_row_without h =
      let x = put_without p (pos 0) c.x h in
      let y = put_without p (pos 0) c.y (omega (arith, level.y)) in
      let number = put_without p 0 c.number (omega (arith, level.number)) in
      let further = further_again p c.further (each c level (λ k. p < k) h) in
      λ i. record { x = x i; y = y i; number = number i; further = further i }

-- ---- the columns in use

further_inserted : (p n : ℕ) (vs : List ℤ) (further : List (List ℤ)) → p ≤ n → All (λ column. n < length column) further
    → map (take (n + 1)) (zip_with (inserted p n) vs further) ≡ zip_with (put p) vs (map (take n) further)
unfolding zip_with All
further_inserted p n [] further low h = refl
further_inserted p n (v ∷ vs) [] low h = refl
further_inserted p n (v ∷ vs) (column ∷ further) low h =
    ap₂ (λ (a : List ℤ) (b : List (List ℤ)). a ∷ b) (inserted_in_use p n column low h.0 v) (further_inserted p n vs further low h.1)

further_removed : (p n : ℕ) (further : List (List ℤ)) → p < n → All (λ column. n ≤ length column) further
    → map (take (n - 1)) (map (removed p n) further) ≡ map (without p) (map (take n) further)
unfolding All
further_removed p n [] low h = refl
further_removed p n (column ∷ further) low h =
    ap₂ (λ (a : List ℤ) (b : List (List ℤ)). a ∷ b) (removed_in_use p n column low h.0) (further_removed p n further low h.1)

further_level_inserted : (k p n : ℕ) (vs : List ℤ) (further : List (List ℤ)) → p ≤ n → n < k → All (λ column. length column ≡ k) further
    → All (λ column. length column ≡ k) (zip_with (inserted p n) vs further)
unfolding zip_with All
further_level_inserted k p n [] further low room h = tt
further_level_inserted k p n (v ∷ vs) [] low room h = tt
further_level_inserted k p n (v ∷ vs) (column ∷ further) low room h =
    (length_inserted p n column low (omega (arith, h.0)) v ∙ h.0, further_level_inserted k p n vs further low room h.1)

module _ (c : Columns) (level : Level c) (p n : ℕ) where
  module _ (s : Site) (low : p ≤ n) (room : n < length c.x) where
    pub in_use_inserted : in_use (n + 1) (insert_site p n s c) ≡ put_row p s (in_use n c)
    unfolding in_use insert_site
    in_use_inserted =
        let x = inserted_in_use p n c.x low room s.x in
        let y = inserted_in_use p n c.y low (omega (arith, level.y)) s.y in
        let number = inserted_in_use p n c.number low (omega (arith, level.number)) s.number in
        let further = further_inserted p n s.further c.further low (each c level (λ k. n < k) room) in
        λ i. record { x = x i; y = y i; number = number i; further = further i }

    pub length_inserted_x : length (insert_site p n s c).x ≡ length c.x
    unfolding insert_site
    length_inserted_x = length_inserted p n c.x low room s.x

    pub level_inserted : Level (insert_site p n s c)
    unfolding insert_site
    level_inserted = record {
      y = length_inserted p n c.y low (omega (arith, level.y)) s.y ∙ level.y ∙ sym length_inserted_x;
      number = length_inserted p n c.number low (omega (arith, level.number)) s.number ∙ level.number ∙ sym length_inserted_x;
      further = rw length_inserted_x (further_level_inserted (length c.x) p n s.further c.further low room level.further);
    }

  module _ (low : p < n) (inside : n ≤ length c.x) where
    pub in_use_removed : in_use (n - 1) (remove_site p n c) ≡ without_row p (in_use n c)
    unfolding in_use remove_site
    in_use_removed =
        let x = removed_in_use p n c.x low inside in
        let y = removed_in_use p n c.y low (omega (arith, level.y)) in
        let number = removed_in_use p n c.number low (omega (arith, level.number)) in
        let further = further_removed p n c.further low (each c level (λ k. n ≤ k) inside) in
        λ i. record { x = x i; y = y i; number = number i; further = further i }

    pub length_removed_x : length (remove_site p n c).x ≡ length c.x
    unfolding remove_site
    length_removed_x = length_removed p n c.x low inside

    pub level_removed : Level (remove_site p n c)
    unfolding remove_site
    level_removed = record {
      y = length_removed p n c.y low (omega (arith, level.y)) ∙ level.y ∙ sym length_removed_x;
      number = length_removed p n c.number low (omega (arith, level.number)) ∙ level.number ∙ sym length_removed_x;
      further =
          all_map (λ column. length column ≡ length (removed p n c.x)) (removed p n) c.further
          (all_weaken (λ column. length column ≡ length c.x) (λ column. length (removed p n column) ≡ length (removed p n c.x))
          (λ column e. length_removed p n column low (omega arith) ∙ e ∙ sym length_removed_x) c.further level.further);
    }
