-- Laws of lawful cut ends and of the strips that they make.
use mathlib.Core.Path.{◌≡◌, refl, sym, ap, ◌∙◌}
use mathlib.Core.Bool.{true, false, ◌&&◌, and-eq-true_iff}
use mathlib.Core.List.{List, [], ◌∷◌, ◌++◌, map, flat_map}
use Prim.Native.Nat.{ℕ, zero, suc, ◌+◌, ◌-◌, ◌≤◌, ◌<◌}
use native.Mathlib.Omega.{arith}
use lib.Dec.{leb, ltb, eqb}
use lib.ListN.{length, take, drop, get_or}
use lib.Seq.{take-add, drop-drop, take_all}
use borrow.Author.Tests.{ltb-true, leb-true, leb-false, eqb-true, le-leb, lt-leb}
use Rattle.order.specs.Order.{ascending}
use Rattle.order.specs.Lists.{keep, last, All}
use Rattle.order.proofs.Sorted.{Ascends, ascending_ascends}
use Rattle.order.proofs.Order.{by_test, ltb_order}
use Rattle.order.proofs.Lists.{all_at, all_weaken, keep_yes, keep_none}
use Rattle.site.specs.Site.{Site}
use Rattle.sweep.specs.Strip.{whole, strip}
use Rattle.sweep.proofs.Strip.{length_whole}
use Rattle.campaign.specs.Grid.{lawful_ends, strip_at, strip_holding, count_from}
use Rattle.campaign.specs.Internal.{strip_from, strip_to}
use Rattle.campaign.proofs.FlatMap.{flat_map_map}

-- What lawful ends of a list of `n` are.
pub record Cut (n : ℕ) (ends : List ℕ) : Type 0 where
  pub few : length ends ≤ 32
  pub up : Ascends ltb (0 ∷ ends)
  pub last : last 0 ends ≡ n

pub lawful_cut : (n : ℕ) (ends : List ℕ) → lawful_ends n ends ≡ true → Cut n ends
unfolding lawful_ends
lawful_cut n ends h =
    let p = (and-eq-true_iff (leb (length ends) 32) (ascending ltb (0 ∷ ends) && eqb (last 0 ends) n)).0 h in
    let q = (and-eq-true_iff (ascending ltb (0 ∷ ends)) (eqb (last 0 ends) n)).0 p.1 in
    record {
      few = leb-true (length ends) 32 p.0;
      up = ascending_ascends ltb_order (0 ∷ ends) q.0;
      last = eqb-true (last 0 ends) n q.1;
    }

-- ---- ends that ascend from `from` on

up_first : (from e : ℕ) (l : List ℕ) → Ascends ltb (from ∷ (e ∷ l)) → from < e
unfolding Ascends All
up_first from e l s = ltb-true from e s.0.0

up_rest : (from : ℕ) (l : List ℕ) → Ascends ltb (from ∷ l) → Ascends ltb l
unfolding Ascends
up_rest from l s = s.1

-- Each end is at most the last.
last_most : (d : ℕ) (l : List ℕ) (s : ℕ) → Ascends ltb (d ∷ l) → s < length (d ∷ l) → get_or (d ∷ l) s 0 ≤ last d l
unfolding last
last_most d [] zero u h = omega arith
last_most d [] (suc s) u h = absurd (omega arith)
last_most d (e ∷ l) zero u h = omega (arith, up_first d e l u, last_most e l 0 (up_rest d (e ∷ l) u) (omega arith))
last_most d (e ∷ l) (suc s) u h = last_most e l s (up_rest d (e ∷ l) u) (omega arith)

-- The first is below each other.
first_least : (e : ℕ) (l : List ℕ) (s : ℕ) → Ascends ltb (e ∷ l) → s < length (e ∷ l) → e ≤ get_or (e ∷ l) s 0
unfolding Ascends
first_least e l zero u h = omega arith
first_least e l (suc s) u h = omega (arith, ltb-true e (get_or l s 0) (all_at (λ x. ltb e x ≡ true) l s 0 (omega arith) u.0))

-- A strip ends past its start.
strip_up : (from : ℕ) (ends : List ℕ) (s : ℕ) → Ascends ltb (from ∷ ends) → s < length ends → get_or (from ∷ ends) s 0 < get_or ends s 0
strip_up from [] s u h = absurd (omega arith)
strip_up from (e ∷ l) zero u h = up_first from e l u
strip_up from (e ∷ l) (suc s) u h = strip_up e l s (up_rest from (e ∷ l) u) (omega arith)

-- No end past a place is at most it.
past_place : (place e : ℕ) (l : List ℕ) → place < e → Ascends ltb (e ∷ l) → All (λ x. leb x place ≡ false) (e ∷ l)
unfolding Ascends All
past_place place e l h u = (
  lt-leb e place h,
  all_weaken (λ x. ltb e x ≡ true) (λ x. leb x place ≡ false) (λ x t. lt-leb x place (omega (arith, ltb-true e x t))) l u.0,
)

-- As many ends are at most a place as its strip's number says.
holding_from : (from : ℕ) (ends : List ℕ) (s place : ℕ) → Ascends ltb (from ∷ ends) → s < length ends
    → get_or (from ∷ ends) s 0 ≤ place → place < get_or ends s 0 → length (keep (λ e. leb e place) ends) ≡ s
holding_from from [] s place u h low high = absurd (omega arith)
holding_from from (e ∷ l) zero place u h low high =
    ap (λ (r : List ℕ). length r) (keep_none (λ x. leb x place) (e ∷ l) (past_place place e l high (up_rest from (e ∷ l) u)))
holding_from from (e ∷ l) (suc s) place u h low high =
    let least = first_least e l s (up_rest from (e ∷ l) u) (omega arith) in
    rw (keep_yes (λ (x : ℕ). leb x place) e l (le-leb e place (omega arith)))
    (ap suc (holding_from e l s place (up_rest from (e ∷ l) u) (omega arith) low high))

-- The strip that holds a place below the last end: its number, and the ends around the place.
holding_around : (from : ℕ) (ends : List ℕ) (place : ℕ) → Ascends ltb (from ∷ ends) → from ≤ place → place < last from ends
    → let s = length (keep (λ e. leb e place) ends) in
    (s < length ends) × (get_or (from ∷ ends) s 0 ≤ place) × (place < get_or ends s 0)
unfolding last
holding_around from [] place u low high = absurd (omega arith)
holding_around from (e ∷ l) place u low high =
    by_test (leb e place)
    (λ h.
    let w = holding_around e l place (up_rest from (e ∷ l) u) (leb-true e place h) high in
    rw (keep_yes (λ (x : ℕ). leb x place) e l h) (omega (arith, w.0), w.1, w.2))
    (λ h.
    let past = leb-false e place h in
    rw (keep_none (λ (x : ℕ). leb x place) (e ∷ l) (past_place place e l past (up_rest from (e ∷ l) u)))
    (omega arith, low, past))

-- ---- parts by ends

cut_part : {A : Type 0} → ℕ → List ℕ → List A → ℕ → List A
cut_part from ends w s = take (get_or ends s 0 - get_or (from ∷ ends) s 0) (drop (get_or (from ∷ ends) s 0) w)

pub count_suc : (i n : ℕ) → count_from (suc i) n ≡ map suc (count_from i n)
unfolding count_from
count_suc i zero = refl
count_suc i (suc n) = ap (λ (r : List ℕ). suc i ∷ r) (count_suc (suc i) n)

-- Parts by ends that ascend, one after the other: all from the first to the last.
parts_from : {A : Type 0} (from : ℕ) (ends : List ℕ) (w : List A) → Ascends ltb (from ∷ ends)
    → flat_map (cut_part from ends w) (count_from 0 (length ends)) ≡ take (last from ends - from) (drop from w)
unfolding flat_map count_from cut_part last
parts_from from [] w u = let z : from - from ≡ 0 = omega arith in rw z
parts_from {A} from (e ∷ l) w u =
    let tail = up_rest from (e ∷ l) u in
    let less = up_first from e l u in
    let most : e ≤ last e l = last_most e l 0 tail (omega arith) in
    let split : last e l - from ≡ (e - from) + (last e l - e) = omega arith in
    let on : from + (e - from) ≡ e = omega arith in
    let rest : flat_map (cut_part from (e ∷ l) w) (count_from 1 (length l)) ≡ take (last e l - e) (drop e w) =
    ap (flat_map (cut_part from (e ∷ l) w)) (count_suc 0 (length l))
    ∙ flat_map_map (cut_part from (e ∷ l) w) suc (count_from 0 (length l))
    ∙ parts_from e l w tail in
    ap (λ (r : List A). take (e - from) (drop from w) ++ r) rest
    ∙ sym (ap (λ (n : ℕ). take n (drop from w)) split
    ∙ take-add (e - from) (last e l - e) (drop from w)
    ∙ ap (λ (r : List A). take (e - from) (drop from w) ++ take (last e l - e) r)
    (drop-drop (e - from) from w ∙ ap (λ (n : ℕ). drop n w) on))

-- ---- the strips of a list

-- The strips, one after the other, are the whole list.
pub strips_whole : (l : List Site) (ends : List ℕ) → Cut (length l) ends → flat_map (strip_at ends l)
    (count_from 0 (length ends)) ≡ whole l
unfolding strip_at strip cut_part
strips_whole l ends cut =
    parts_from 0 ends (whole l) cut.up
    ∙ take_all (last 0 ends - 0) (whole l) (omega (arith, length_whole l, cut.last))

module _ {n : ℕ} {ends : List ℕ} (cut : Cut n ends) (s : ℕ) (h : s < length ends) where
  -- A strip is not empty, and lies inside its list.
  pub strip_inside : (strip_from ends s < strip_to ends s) × (strip_to ends s ≤ n)
  unfolding strip_from strip_to
  strip_inside =
      (strip_up 0 ends s cut.up h, omega (arith, last_most 0 ends (suc s) cut.up (omega arith), cut.last))

  -- The strip that holds a place of a strip is that strip.
  pub strip_holds : (place : ℕ) → strip_from ends s ≤ place → place < strip_to ends s → strip_holding ends place ≡ s
  unfolding strip_from strip_to strip_holding
  strip_holds place low high = holding_from 0 ends s place cut.up h low high

-- A strip with a place in it is one of them.
pub strip_of_place : (ends : List ℕ) (s place : ℕ) → place < strip_to ends s → s < length ends
unfolding strip_to
strip_of_place [] s place h = absurd (omega arith)
strip_of_place (e ∷ l) zero place h = omega arith
strip_of_place (e ∷ l) (suc s) place h = omega (arith, strip_of_place l s place h)

-- A place lies inside the strip that holds it.
pub holding_inside : {n : ℕ} {ends : List ℕ} → Cut n ends → (place : ℕ) → place < n
    → let s = strip_holding ends place in
    (s < length ends) × (strip_from ends s ≤ place) × (place < strip_to ends s)
unfolding strip_from strip_to strip_holding
holding_inside {n} {ends} cut place h = holding_around 0 ends place cut.up (omega arith) (omega (arith, cut.last))

-- ---- where a strip starts, by place

pub starts_at_first : (ends : List ℕ) (s : ℕ) → s ≡ 0 → 0 ≡ strip_from ends s
unfolding strip_from
starts_at_first ends s h = rw h

pub starts_at_end : (ends : List ℕ) (s : ℕ) → (s ≡ 0 → ⊥) → get_or ends (s - 1) 0 ≡ strip_from ends s
unfolding strip_from
starts_at_end ends zero h = absurd (h refl)
starts_at_end ends (suc s) h = let e : suc s - 1 ≡ s = omega arith in rw e
