-- Sites of a file, read into columns one by one.
use mathlib.Core.Path.{◌≡◌, refl, sym, ap, ◌∙◌}
use mathlib.Core.List.{List, [], ◌∷◌, map}
use Prim.Native.Nat.{ℕ, zero, suc, ◌+◌, ◌≤◌, ◌<◌}
use native.Mathlib.Numerals.{add-one}
use native.Mathlib.Omega.{arith}
use lib.IntN.{ℤ, pos}
use lib.ListN.{length, take, get_or, set, length-set, length-map, get_or-map, replicate, length-replicate}
use lib.Seq.{length-take-le}
use mir.Syntax.{w32}
use mir.Val.{SFits, to_z, of_z}
use mir.Facts.{to_z-of_z}
use Rattle.column.proofs.Replaced.{Replaced, replaced_none, replaced_more, replaced_all}
use Rattle.site.specs.Site.{Site}
use Rattle.site.specs.SiteList.{Columns, columns, sites, site_at, columns_of}
use Rattle.std.specs.Prelude.{Result, Ok, Err}
use Rattle.site.specs.declared.refusals.Refusal.{Refusal}
use Rattle.site.specs.Answer.{refused, answered, or_else, number, answer_of}
use Rattle.site.specs.Refusal.{lists_refusal}
use Rattle.site.proofs.SiteList.{nowhere, columns_sites, columns_length}
use Rattle.site_file.specs.declared.Which.{Which}
use Rattle.site_file.specs.declared.Which.TheVariants.{First, Second}
use Rattle.site_file.specs.declared.FileSite.{FileSite}
use Rattle.site_file.specs.File.{site_of_file, count_in, sites_in}
use Rattle.site_file.specs.Calls.{contents_refusal, site_answer}
use Rattle.site_file.proofs.File.{list_length}
use Rattle.site_file.proofs.ReadAnswer.{inside, read_laid, site_found}
use Rattle.site_file.proofs.SitesIn.{list_flat, columns_accepted}
use Rattle.listing.specs.Listing.{listing_text}
use Rattle.listing.specs.Internal.{file_text, Put, Lawful, Sized, FileLists}

-- ---- the sites of a list

-- What is stored of a site that was read.
module _ (i : ℕ) {s : FileSite} {t : Site} (e : site_of_file s ≡ t) where
  pub x_stored : (xs : List ℤ) → SFits w32 s.x → set xs i (to_z w32 (of_z w32 s.x)) ≡ set xs i t.x
  x_stored xs h = ap (set xs i) (to_z-of_z h ∙ ap (λ r. r.x) e)

  pub y_stored : (ys : List ℤ) → SFits w32 s.y → set ys i (to_z w32 (of_z w32 s.y)) ≡ set ys i t.y
  y_stored ys h = ap (set ys i) (to_z-of_z h ∙ ap (λ r. r.y) e)

  pub number_stored : (ns : List ℕ) → set ns i s.number ≡ set ns i t.number
  number_stored ns = ap (set ns i) (ap (λ r. r.number) e)

-- A place of an accepted file is never refused: the site there is read.
module _ (file : List ℕ) (w : Which) (i : ℕ) (r : Result FileSite Refusal) (answer : answer_of site_of_file r ≡ site_answer file w i)
    (none : contents_refusal file ≡ 0) (h : i < count_in file w) where
  found : answer_of site_of_file r ≡ answered (site_at (sites_in file w) i)
  found = answer ∙ site_found file w i none h

  pub found_site : {s : FileSite} → r ≡ Ok s → site_of_file s ≡ site_at (sites_in file w) i
  unfolding answer_of
  found_site {s} e =
      let same : answered (site_of_file s) ≡ answered (site_at (sites_in file w) i) = sym (ap (answer_of site_of_file) e) ∙ found in
      cc

  pub found_always : {e : Refusal} → r ≡ Err e → ⊥
  unfolding answer_of
  found_always {e} is =
      let never : refused (number e) ≡ answered (site_at (sites_in file w) i) = sym (ap (answer_of site_of_file) is) ∙ found in
      let z : ◌≡◌ {A = ℕ} 0 1 = cc in
      omega arith

-- The first `i` of a list's `n` sites stand in columns of its length.
pub record SitesRead (l : List Site) (n : ℕ) (xs ys : List ℤ) (ns : List ℕ) (i : ℕ) : Type 0 where
  pub count : length l ≡ n
  pub sized : Sized n (columns xs ys ns)
  pub x : Replaced (map (λ s. s.x) l) xs i
  pub y : Replaced (map (λ s. s.y) l) ys i
  pub number : Replaced (map (λ s. s.number) l) ns i

module _ (l : List Site) where
  size : {B : Type 0} {n : ℕ} (f : Site → B) → length l ≡ n → length (map f l) ≡ n
  size f e = length-map l f ∙ e

  value : {B : Type 0} (f : Site → B) (i : ℕ) → f (site_at l i) ≡ get_or (map f l) i (f nowhere)
  unfolding site_at
  value f i = sym (get_or-map f l i nowhere)

  pub sites_starts : {n : ℕ} {xs ys : List ℤ} {ns : List ℕ} → length l ≡ n → Sized n (columns xs ys ns)
      → SitesRead l (length xs) xs ys ns 0
  sites_starts e h =
      record {
        count = e ∙ sym h.x;
        sized = record { x = refl; y = h.y ∙ sym h.x; number = h.number ∙ sym h.x };
        x = replaced_none _ (h.x ∙ sym (size (λ s. s.x) e));
        y = replaced_none _ (h.y ∙ sym (size (λ s. s.y) e));
        number = replaced_none _ (h.number ∙ sym (size (λ s. s.number) e));
      }

  pub sites_more : {n : ℕ} (i : ℕ) {xs ys us vs : List ℤ} {ns ms : List ℕ} → i < n
      → us ≡ set xs i (site_at l i).x → vs ≡ set ys i (site_at l i).y → ms ≡ set ns i (site_at l i).number
      → SitesRead l n xs ys ns i → SitesRead l n us vs ms (i + 1)
  sites_more {n} i {xs} {ys} {us} {vs} {ns} h e f g w =
      rw (add-one, e, f, g)
      (record {
        count = w.count;
        sized =
            record {
              x = length-set xs i _ ∙ w.sized.x;
              y = length-set ys i _ ∙ w.sized.y;
              number = length-set ns i _ ∙ w.sized.number;
            };
        x = replaced_more _ (pos 0) i (omega (arith, size (λ s. s.x) w.count)) (value (λ s. s.x) i) w.x;
        y = replaced_more _ (pos 0) i (omega (arith, size (λ s. s.y) w.count)) (value (λ s. s.y) i) w.y;
        number =
            replaced_more _ 0 i (omega (arith, size (λ s. s.number) w.count)) (value (λ s. s.number) i) w.number;
      })

  pub sites_ends : {n : ℕ} (i : ℕ) {xs ys : List ℤ} {ns : List ℕ} → n ≤ i → SitesRead l n xs ys ns i
      → columns xs ys ns ≡ columns_of l
  unfolding columns_of
  sites_ends i h w =
      let x = replaced_all _ i (omega (arith, size (λ s. s.x) w.count)) w.x in
      let y = replaced_all _ i (omega (arith, size (λ s. s.y) w.count)) w.y in
      let number = replaced_all _ i (omega (arith, size (λ s. s.number) w.count)) w.number in
      rw (x, y, number)

-- The next place of a list of a file, and of its columns.
pub sites_here : (file : List ℕ) (w : Which) {n : ℕ} {xs ys : List ℤ} {ns : List ℕ} (i : ℕ) → i < n
    → SitesRead (sites_in file w) n xs ys ns i → (i < count_in file w) × Sized (count_in file w) (columns xs ys ns)
sites_here file w i h r = rw (sym (list_length file w) ∙ r.count) (h, r.sized)

-- ---- the columns of both lists of an accepted file

module _ (file : List ℕ) (k : ℕ) {a b : Columns} (p : a ≡ columns_of (sites_in file First))
    (q : b ≡ columns_of (sites_in file Second)) where
  pub read_lawful : {buffer : List ℕ} → FileLists file k buffer → Lawful a b k buffer
  unfolding lists_refusal or_else
  read_lawful f =
      record {
        lists = rw (p, q, columns_accepted file f.accepted First) (columns_accepted file f.accepted Second);
        some = f.some;
        room = f.room;
      }

  pub read_few : (count_in file First ≤ 4_000) × (count_in file Second ≤ 4_000) → (length a.x ≤ 4_000) × (length b.x ≤ 4_000)
  read_few few = (
    rw (p, columns_length (sites_in file First), list_length file First) few.0,
    rw (q, columns_length (sites_in file Second), list_length file Second) few.1,
  )

  pub read_text : {z : ℕ} {before after : List ℕ} → Put 0 (listing_text k (sites a) (sites b)) before after z
      → Put 0 (file_text k file) before after z
  read_text t = rw (p, q, columns_sites (sites_in file First) (list_flat file First), columns_sites (sites_in file Second) (list_flat file Second)) at t

-- The lists of a file of at most 48,016 bytes have at most 4,000 sites.
pub file_few : {file : List ℕ} {k : ℕ} {buffer : List ℕ} → FileLists file k buffer × (length file ≤ 48_016)
    → (w : Which) {n : ℕ} → n ≡ count_in file w → n ≤ 4_000
file_few {file} f w e = let g = inside file w (read_laid file f.0.accepted) in omega (arith, f.1)

-- So many zeros are the heights of sites on the ground.
pub zeros_grounded : (xs : List ℤ) → length xs ≤ 4_000 → take (length xs) (replicate 4_000 (pos 0)) ≡ map (λ x. pos 0) xs
zeros_grounded xs h = zeros xs 4_000 h
  where
    zeros : (xs : List ℤ) (n : ℕ) → length xs ≤ n → take (length xs) (replicate n (pos 0)) ≡ map (λ x. pos 0) xs
    zeros [] n h = refl
    zeros (x ∷ xs) zero h = absurd (omega arith)
    zeros (x ∷ xs) (suc n) h = ap (λ (l : List ℤ). pos 0 ∷ l) (zeros xs n (omega arith))

-- The first elements of a column of 4,000 zeros.
pub zeros_part : {A : Type 0} (z : A) (n : ℕ) → n ≤ 4_000 → n ≡ length (take n (replicate 4_000 z))
zeros_part z n h = sym (length-take-le n (replicate 4_000 z) (omega (arith, length-replicate 4_000 z)))

pub zeros_sized : {m : ℕ} (n : ℕ) → n ≡ m → n ≤ 4_000
    → let xs = take n (replicate 4_000 (pos 0)) in Sized m (columns xs xs (take n (replicate 4_000 0)))
zeros_sized n e h =
    let xs = sym (zeros_part (pos 0) n h) ∙ e in
    record { x = xs; y = xs; number = sym (zeros_part 0 n h) ∙ e }
