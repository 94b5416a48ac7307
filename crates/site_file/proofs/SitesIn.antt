-- Sites written and read again, and bytes read and written again.
use mathlib.Core.Path.{◌≡◌, refl, sym, ap, ap₂, ◌∙◌, subst, subst⁻¹}
use mathlib.Core.Bool.{true, ◌&&◌}
use mathlib.Core.List.{List, [], ◌∷◌, ◌++◌, flat_map, append_assoc}
use Prim.Native.Nat.{ℕ, zero, suc, ◌+◌, ◌*◌, ◌≤◌, ◌<◌}
use native.Mathlib.Nat.{add-zero}
use native.Mathlib.Omega.{arith}
use lib.ListN.{length, take, drop, length-append}
use lib.Seq.{take-add, drop-drop}
use Rattle.order.specs.Lists.{All}
use Rattle.site.specs.Site.{Site, within, further_limits, all_within, lawful_site}
use Rattle.site.specs.SiteList.{Columns, Plane, sites, columns_of}
use Rattle.site.specs.Refusal.{content_refusal, list_refusal}
use Rattle.site.proofs.Tests.{and_first, and_second}
use Rattle.site.proofs.ListRefusal.{lawful_is, plane_flat, content_left}
use Rattle.site.proofs.SiteList.{flattened, plane_flattened, sites_numbered, Flat, columns_sites, columns_length, columns_level}
use Rattle.site.proofs.Accepted.{accepted_lawful}
use Rattle.site_file.specs.declared.Which.{Which}
use Rattle.site_file.specs.Bytes.{bytes4, word, unsigned}
use Rattle.site_file.specs.File.{site_bytes, start_in, count_in, site_in, sites_from, sites_in}
use Rattle.site_file.specs.Calls.{read_refusal}
use Rattle.site_file.specs.RoundTrip.{Numbers}
use Rattle.site_file.proofs.File.{list_length}
use Rattle.site_file.proofs.ReadAnswer.{inside, read_laid, read_content}
use Rattle.site_file.proofs.Word.{
  Bytes,
  digits,
  word_past,
  signed_back,
  unsigned_back,
  coordinate_fits,
  bytes_back,
  word_fits,
}

-- A site that can be written: inside the limits, with a number of 32 bits, of the plane.
abbrev pub Fit : Site → Type 0
Fit s = (lawful_site s ≡ true) × (s.number < 4_294_967_296) × (Flat s)

site_length : (s : Site) → length (site_bytes s) ≡ 12
unfolding site_bytes bytes4
site_length s = refl

-- A site that was written is read.
site_words : (s : Site) (q : List ℕ) → unsigned s.x < 4_294_967_296 → unsigned s.y < 4_294_967_296
    → s.number < 4_294_967_296
    → (word (site_bytes s ++ q) 0 ≡ unsigned s.x) × (word (site_bytes s ++ q) 4 ≡ unsigned s.y)
    × (word (site_bytes s ++ q) 8 ≡ s.number)
unfolding site_bytes bytes4 word
site_words s q hx hy hn = (digits (unsigned s.x) hx, digits (unsigned s.y) hy, digits s.number hn)

site_first : (q : List ℕ) (s : Site) → Fit s → site_in (site_bytes s ++ q) 0 ≡ s
unfolding site_in
site_first q s h =
    let further = all_within further_limits s.further in
    let both : (within s.x && (within s.y && further)) ≡ true = sym (lawful_is s) ∙ h.0 in
    let wx : within s.x ≡ true = and_first (within s.x) (within s.y && further) both in
    let wy : within s.y ≡ true = and_first (within s.y) further (and_second (within s.x) (within s.y && further) both) in
    let w = site_words s q (coordinate_fits s.x wx) (coordinate_fits s.y wy) h.1 in
    rw (w.0, w.1, w.2, signed_back s.x wx, signed_back s.y wy)
    (λ i. record { x = s.x; y = s.y; number = s.number; further = sym h.2 i })

site_past : (p l : List ℕ) → site_in (p ++ l) (length p) ≡ site_in l 0
unfolding site_in
site_past p l =
    let first : word (p ++ l) (length p) ≡ word l 0 = rw add-zero at (word_past p l 0) in
    rw (first, word_past p l 4, word_past p l 8)

site_read : (p q : List ℕ) (s : Site) (at : ℕ) → length p ≡ at → Fit s → site_in (p ++ (site_bytes s ++ q)) at ≡ s
site_read p q s at e h = rw (← e) (site_past p (site_bytes s ++ q) ∙ site_first q s h)

-- A list that was written is read.
pub sites_read : (l : List Site) (p q : List ℕ) (at : ℕ) → length p ≡ at → All Fit l
    → sites_from (p ++ (flat_map site_bytes l ++ q)) at (length l) ≡ l
unfolding sites_from flat_map All
sites_read [] p q at e h = refl
sites_read (s ∷ l) p q at e h =
    let head : p ++ ((site_bytes s ++ flat_map site_bytes l) ++ q) ≡ p ++ (site_bytes s ++ (flat_map site_bytes l ++ q)) =
    rw (append_assoc (site_bytes s) (flat_map site_bytes l) q) in
    let rest : p ++ (site_bytes s ++ (flat_map site_bytes l ++ q)) ≡ (p ++ site_bytes s) ++ (flat_map site_bytes l ++ q) =
    sym (append_assoc p (site_bytes s) (flat_map site_bytes l ++ q)) in
    let next : length (p ++ site_bytes s) ≡ at + 12 =
    omega (arith, length-append p (site_bytes s), site_length s) in
    subst (λ (x : List ℕ). sites_from x at (suc (length l)) ≡ s ∷ l) (sym head)
    (ap₂ ◌∷◌ (site_read p (flat_map site_bytes l ++ q) s at e h.0)
    (subst (λ (x : List ℕ). sites_from x (at + 12) (length l) ≡ l) (sym rest)
    (sites_read l (p ++ site_bytes s) q (at + 12) next h.1)))

-- Bytes that were read as a site are written.
site_back : (l : List ℕ) (at : ℕ) → Bytes l → at + 12 ≤ length l → site_bytes (site_in l at) ≡ take 12 (drop at l)
unfolding site_bytes site_in
site_back l at h k =
    let eight : at + 4 + 4 ≡ at + 8 = omega arith in
    let one : drop 4 (drop at l) ≡ drop (at + 4) l = drop-drop 4 at l in
    let two : drop 4 (drop (at + 4) l) ≡ drop (at + 8) l =
    drop-drop 4 (at + 4) l ∙ ap (λ (i : ℕ). drop i l) eight in
    let parts : take 12 (drop at l) ≡ take 4 (drop at l) ++ (take 4 (drop (at + 4) l) ++ take 4 (drop (at + 8) l)) =
    take-add 4 8 (drop at l)
    ∙ ap (λ (r : List ℕ). take 4 (drop at l) ++ r)
    (take-add 4 4 (drop 4 (drop at l)) ∙ rw (one, two)) in
    rw (
      unsigned_back (word l at) (word_fits l at h),
      unsigned_back (word l (at + 4)) (word_fits l (at + 4) h),
      bytes_back l at h (omega arith),
      bytes_back l (at + 4) h (omega arith),
      bytes_back l (at + 8) h (omega arith),
    )
    (sym parts)

-- Bytes that were read as a list are written.
pub body_back : (l : List ℕ) (at n : ℕ) → Bytes l → at + 12 * n ≤ length l
    → flat_map site_bytes (sites_from l at n) ≡ take (12 * n) (drop at l)
unfolding flat_map sites_from
body_back l at zero h k = refl
body_back l at (suc n) h k =
    let e : 12 * suc n ≡ 12 + 12 * n = omega arith in
    rw (site_back l at h (omega arith), body_back l (at + 12) n h (omega arith), e)
    (sym
    (take-add 12 (12 * n) (drop at l)
    ∙ ap (λ (r : List ℕ). take 12 (drop at l) ++ take (12 * n) r) (drop-drop 12 at l)))

-- The sites of an accepted list can be written.
all_fit : (l : List Site) → All (λ s. lawful_site s ≡ true) l → All (λ s. s.number < 4_294_967_296) l → All Flat l → All Fit l
unfolding All
all_fit [] h k f = tt
all_fit (s ∷ l) h k f = ((h.0, k.0, f.0), all_fit l h.1 k.1 f.1)

pub sites_fit : (c : Columns) → Plane c → list_refusal c ≡ 0 → Numbers c → All Fit (sites c)
sites_fit c plane ok h =
    let e : sites c ≡ sites (flattened c) = ap sites (plane_flattened c plane) in
    all_fit (sites c) (accepted_lawful c ok).inside
    (subst⁻¹ (All (λ (s : Site). s.number < 4_294_967_296)) e (sites_numbered (λ n. n < 4_294_967_296) c.x c.y c.number h))
    (subst⁻¹ (All Flat) e (plane_flat c.x c.y c.number))

pub columns_numbers : (l : List ℕ) (at n : ℕ) → Bytes l → Numbers (columns_of (sites_from l at n))
unfolding columns_of sites_from site_in All
columns_numbers l at zero h = tt
columns_numbers l at (suc n) h = (word_fits l (at + 8) h, columns_numbers l (at + 12) n h)

-- The sites of a file are of the plane.
from_flat : (l : List ℕ) (at n : ℕ) → All Flat (sites_from l at n)
unfolding sites_from site_in All
from_flat l at zero = tt
from_flat l at (suc n) = (refl, from_flat l (at + 12) n)

pub list_flat : (file : List ℕ) (w : Which) → All Flat (sites_in file w)
unfolding sites_in
list_flat file w = from_flat file (start_in file w) (count_in file w)

-- The columns of a list of an accepted file are a lawful list.
pub columns_accepted : (file : List ℕ) → read_refusal file ≡ 0 → (w : Which)
    → list_refusal (columns_of (sites_in file w)) ≡ 0
columns_accepted file ok w =
    let l = sites_in file w in
    let few = (inside file w (read_laid file ok)).count in
    content_left (columns_of l) (columns_level l) (omega (arith, columns_length l, list_length file w))
    ∙ ap content_refusal (columns_sites l (list_flat file w))
    ∙ read_content file ok w
