-- What a campaign's plan with no fault is, K and the ends; and a job's strips.
use mathlib.Core.Path.{◌≡◌, refl, sym, ap₂}
use mathlib.Core.Bool.{true, ◌&&◌}
use mathlib.Core.List.{List}
use Prim.Native.Nat.{ℕ, ◌≤◌, ◌<◌}
use native.Mathlib.Omega.{arith}
use lib.Dec.{leb}
use lib.IntN.{ℤ}
use lib.ListN.{length, take}
use lib.Seq.{length-take-le}
use borrow.Author.Tests.{leb-true}
use Rattle.order.specs.Lists.{keep}
use Rattle.site.specs.Site.{Site}
use Rattle.site.proofs.Tests.{and_first, and_second}
use Rattle.entry.specs.Entry.{lawful_k}
use Rattle.entry.proofs.Rank.{k_limits}
use Rattle.sweep.specs.Strip.{strip, pairs}
use Rattle.halves.specs.Terms.{SomeStrip}
use Rattle.customers.specs.declared.Campaign.{Campaign}
use Rattle.campaign.specs.declared.Strip.{Strip}
use Rattle.campaign.specs.Grid.{lawful_ends, strip_at, job_of, jobs, settled, settled_jobs, job_pairs}
use Rattle.campaign.specs.Soundness.{first_ends, second_ends}
use Rattle.campaign.specs.Terms.{LawfulColumns, lawful_slots, JobAsked, sound_plan}
use Rattle.campaign.specs.Internal.{strip_from, strip_to, StripOf}
use Rattle.campaign.proofs.LawfulEnds.{lawful_cut, strip_inside}

-- ---- what a plan with no fault is

pub record PlanParts (c : Campaign) (n m : ℕ) : Type 0 where
  pub k : lawful_k c.k ≡ true
  pub rows : c.first_strips ≤ 32
  pub cols : c.second_strips ≤ 32
  pub first : lawful_ends n (first_ends c) ≡ true
  pub second : lawful_ends m (second_ends c) ≡ true

slots_parts : (n used : ℕ) (slots : List ℕ) → lawful_slots n used slots ≡ true
    → (used ≤ 32) × (lawful_ends n (take used slots) ≡ true)
unfolding lawful_slots
slots_parts n used slots h =
    let f = leb used 32 in
    let e = lawful_ends n (take used slots) in
    (leb-true used 32 (and_first f e h), and_second f e h)

pub plan_parts : (c : Campaign) (n m : ℕ) → sound_plan c n m ≡ true → PlanParts c n m
unfolding sound_plan first_ends second_ends
plan_parts c n m h =
    let f = lawful_slots n c.first_strips c.first_ends in
    let s = lawful_slots m c.second_strips c.second_ends in
    let p = and_second (lawful_k c.k) (f && s) h in
    let first = slots_parts n c.first_strips c.first_ends (and_first f s p) in
    let second = slots_parts m c.second_strips c.second_ends (and_second f s p) in
    record {
      k = and_first (lawful_k c.k) (f && s) h;
      rows = first.0;
      cols = second.0;
      first = first.1;
      second = second.1;
    }

-- ---- the settled jobs

pub in_use_lem : (ends : List ℕ) (strips : ℕ) → length ends ≡ 32 → strips ≤ 32 → strips ≡ length (take strips ends)
in_use_lem ends strips l h = sym (length-take-le strips ends (omega arith))

in_use_below : (c : Campaign) {s : ℕ} → length c.first_ends ≡ 32 → c.first_strips ≤ 32 → s < c.first_strips
    → s < length (first_ends c)
unfolding first_ends
in_use_below c l h g = omega (arith, in_use_lem c.first_ends c.first_strips l h)

in_use_below' : (c : Campaign) {t : ℕ} → length c.second_ends ≡ 32 → c.second_strips ≤ 32
    → t < c.second_strips → t < length (second_ends c)
unfolding second_ends
in_use_below' c l h g = omega (arith, in_use_lem c.second_ends c.second_strips l h)

pub settled_in_use : (c : Campaign) {n m : ℕ} → length c.first_ends ≡ 32 → length c.second_ends ≡ 32 → PlanParts c n m
    → settled_jobs c ≡ keep (settled c.marks) (jobs (length (first_ends c)) (length (second_ends c)))
unfolding first_ends second_ends settled_jobs
settled_in_use c f s p =
    rw (← in_use_lem c.first_ends c.first_strips f p.rows, ← in_use_lem c.second_ends c.second_strips s p.cols) refl

-- ---- a job's strips

module _ {c : Campaign} {n m s t : ℕ} (w : JobAsked c n m (job_of s t)) where
  pub asked_parts : PlanParts c n m
  asked_parts = plan_parts c n m w.plan

  pub some_k : (0 < c.k) × (c.k ≤ 4_096)
  some_k = k_limits c.k asked_parts.k

  pub job_few : (s < 32) × (t < 32)
  job_few = (omega (arith, w.row, asked_parts.rows), omega (arith, w.column, asked_parts.cols))

  pub first_strip_lem : length c.first_ends ≡ 32 → (strip_from (first_ends c) s < strip_to (first_ends c) s) ×
      (strip_to (first_ends c) s ≤ n)
  first_strip_lem long =
      strip_inside (lawful_cut n (first_ends c) asked_parts.first) s
      (in_use_below c long asked_parts.rows w.row)

  pub second_strip_lem : length c.second_ends ≡ 32 → (strip_from (second_ends c) t < strip_to (second_ends c) t) ×
      (strip_to (second_ends c) t ≤ m)
  second_strip_lem long =
      strip_inside (lawful_cut m (second_ends c) asked_parts.second) t
      (in_use_below' c long asked_parts.cols w.column)

some_strip : {xs ys hs : List ℤ} {from to : ℕ} → LawfulColumns xs ys hs → from < to → to ≤ length xs → SomeStrip xs ys hs from to
some_strip h some inside =
    record { strip = record { lawful = h.plane; heights = h.heights; range = omega arith; inside = inside }; some = some }

module _ (c : Campaign) {s t : ℕ} {p q : Strip} (is : StripOf (take c.first_strips c.first_ends) s p)
    (js : StripOf (take c.second_strips c.second_ends) t q) where
  -- The strips of a job by their places.
  pub places : {n m : ℕ} → JobAsked c n m (job_of s t) → length c.first_ends ≡ 32 → length c.second_ends ≡ 32
      → (p.from < p.to) × (p.to ≤ n) × (q.from < q.to) × (q.to ≤ m)
  unfolding first_ends second_ends
  places w long long' =
      let f = first_strip_lem w long in
      let g = second_strip_lem w long' in (
        omega (arith, f, is.from, is.to),
        omega (arith, f, is.to),
        omega (arith, g, js.from, js.to),
        omega
            (arith, g, js.to),
      )

  pub strips_in : {ax ay ah bx by bh : List ℤ} → LawfulColumns ax ay ah → LawfulColumns bx by bh
      → JobAsked c (length ax) (length bx) (job_of s t) → length c.first_ends ≡ 32 → length c.second_ends ≡ 32
      → SomeStrip ax ay ah p.from p.to × SomeStrip bx by bh q.from q.to
  strips_in h g w long long' =
      let l = places w long long' in (some_strip h l.0 l.1, some_strip g l.2 l.3)

  pub strips_are : (a b : List Site) → (strip p.from p.to a ≡ strip_at (first_ends c) a s) ×
      (strip q.from q.to b ≡ strip_at (second_ends c) b t)
  unfolding strip_at strip_from strip_to first_ends second_ends
  strips_are a b = (rw (is.from, is.to), rw (js.from, js.to))

  pub pairs_are : (a b : List Site)
      → pairs (strip p.from p.to a) (strip q.from q.to b) ≡ job_pairs (first_ends c) (second_ends c) a b (job_of s t)
  unfolding job_pairs
  pairs_are a b = ap₂ pairs (strips_are a b).0 (strips_are a b).1
