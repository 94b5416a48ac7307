-- The tests of a campaign's entries, one after another.
use mathlib.Core.Path.{◌≡◌, refl, sym, ap₂, ◌∙◌}
use mathlib.Core.Bool.{Bool, true, false, ◌&&◌}
use mathlib.Core.List.{List}
use Prim.Native.Nat.{ℕ, ◌≤◌, ◌<◌}
use native.Mathlib.Omega.{arith}
use lib.Dec.{leb, ltb, eqb}
use lib.ListN.{length, get_or}
use borrow.Author.Tests.{lt-ltb, le-ltb, le-leb, lt-leb, eq-eqb, ne_eqb, ltb-true, eqb-true}
use Rattle.order.proofs.Lists.{length_keep}
use Rattle.site.specs.Site.{Site, squared_distance}
use Rattle.site.specs.SiteList.{Columns, sites, site_at}
use Rattle.site.specs.Terms.{Level}
use Rattle.site.proofs.SiteList.{columns_at, sites_length, site_at_lem}
use Rattle.entry.specs.declared.Entry.{Entry}
use Rattle.entry.specs.Entry.{entry, apart}
use Rattle.entry.specs.Results.{Results, entries_of, room_for}
use Rattle.entry.proofs.Results.{length_entries, entry_at_lem}
use Rattle.campaign.specs.Grid.{Job, job_of, settled, strip_holding}
use Rattle.campaign.specs.Soundness.{sound_entry}
use Rattle.site.proofs.Distance.{unnumbered, numberless}
use Rattle.site.proofs.Tests.{and_first, and_second}
use Rattle.campaign.proofs.Grid.{OfJob}

-- ---- an entry

pub holding_few : (ends : List ℕ) (place : ℕ) → strip_holding ends place ≤ length ends
unfolding strip_holding
holding_few ends place = length_keep (λ e. leb e place) ends

module _ (marks ends ends' : List ℕ) (a b : Columns) (la : Level a) (lb : Level b) (e : Entry) where
  pub first_outside : length a.x ≤ e.first → false ≡ sound_entry marks ends ends' (sites a) (sites b) e
  unfolding sound_entry
  first_outside h = simp (sites_length a la, le-ltb e.first (length a.x) h)

  module _ (h : e.first < length a.x) where
    pub second_outside : length b.x ≤ e.second → false ≡ sound_entry marks ends ends' (sites a) (sites b) e
    unfolding sound_entry
    second_outside g =
        simp (
          sites_length a la,
          sites_length b lb,
          lt-ltb e.first (length a.x) h,
          le-ltb e.second
              (length b.x) g,
        )

    module _ (g : e.second < length b.x) where
      pub co_sited_lem : e.distance ≡ 0 → false ≡ sound_entry marks ends ends' (sites a) (sites b) e
      unfolding sound_entry apart
      co_sited_lem z =
          simp (
            sites_length a la,
            sites_length b lb,
            lt-ltb e.first (length a.x) h,
            lt-ltb e.second (length b.x) g,
            lt-leb 1 e.distance (omega arith),
          )

      module _ (some : e.distance ≡ 0 → ⊥) {d : ℕ}
          (is : d ≡ squared_distance (site_at (sites a) e.first) (site_at (sites b) e.second)) where
        places : sound_entry marks ends ends' (sites a) (sites b) e
            ≡ (eqb e.distance d && settled marks
            (job_of (strip_holding ends e.first) (strip_holding ends' e.second)))
        unfolding sound_entry apart
        places =
            simp (
              sites_length a la,
              sites_length b lb,
              lt-ltb e.first (length a.x) h,
              lt-ltb e.second (length b.x) g,
              le-leb 1 e.distance (omega arith),
              ← is,
            )

        pub wrong_distance : (e.distance ≡ d → ⊥) → false ≡ sound_entry marks ends ends' (sites a) (sites b) e
        wrong_distance n = sym (places ∙ rw (ne_eqb e.distance d n))

        pub its_job : e.distance ≡ d → {s t : ℕ} {r : Bool} → s ≡ strip_holding ends e.first → t ≡ strip_holding ends' e.second
            → r ≡ settled marks (job_of s t) → r ≡ sound_entry marks ends ends' (sites a) (sites b) e
        its_job q {s} {t} {r} p p' w =
            w ∙ ap₂ (λ (x y : ℕ). settled marks (job_of x y)) p p' ∙ sym (places ∙ rw (eq-eqb e.distance d q))

-- An entry with no fault is one of its job's pairs, and that job is settled.
pub sound_of_job : (marks ends ends' : List ℕ) (a b : List Site) (e : Entry) → sound_entry marks ends ends' a b e ≡ true
    → let j = job_of (strip_holding ends e.first) (strip_holding ends' e.second) in
    OfJob ends ends' a b j e × (settled marks j ≡ true)
unfolding sound_entry
sound_of_job marks ends ends' a b e h =
    let first = ltb e.first (length a) in
    let second = ltb e.second (length b) in
    let right = eqb e.distance (squared_distance (site_at a e.first) (site_at b e.second)) in
    let mark = settled marks (job_of (strip_holding ends e.first) (strip_holding ends' e.second)) in
    let p = and_second first (second && (apart e && (right && mark))) h in
    let q = and_second second (apart e && (right && mark)) p in
    let r = and_second (apart e) (right && mark) q in (
      record {
        first = ltb-true e.first (length a) (and_first first (second && (apart e && (right && mark))) h);
        second = ltb-true e.second (length b) (and_first second (apart e && (right && mark)) p);
        distance = eqb-true e.distance (squared_distance (site_at a e.first) (site_at b e.second)) (and_first right mark r);
        counts = and_first (apart e) (right && mark) q;
        holding = refl;
        holding' = refl;
      },
      and_second right mark r,
    )

-- Each pair of a settled job is one with no fault.
pub of_job_sound : (marks ends ends' : List ℕ) (a b : List Site) (j : Job) (e : Entry) → OfJob ends ends' a b j e
    → settled marks j ≡ true → sound_entry marks ends ends' a b e ≡ true
unfolding sound_entry
of_job_sound marks ends ends' a b j e o h =
    simp (
      lt-ltb e.first (length a) o.first,
      lt-ltb e.second (length b) o.second,
      o.counts,
      eq-eqb _ _ o.distance,
      o.holding,
      o.holding',
    ) h

-- The squared distance of the sites at two places, whatever their numbers.
pub apart_at : (a b : Columns) → Level a → Level b → (i j : ℕ) → i < length a.x → j < length b.x → {d : ℕ}
    → d ≡ squared_distance (unnumbered (columns_at a i)) (unnumbered (columns_at b j))
    → d ≡ squared_distance (site_at (sites a) i) (site_at (sites b) j)
apart_at a b la lb i j h g is =
    is ∙ sym (ap₂ squared_distance (site_at_lem a la i h) (site_at_lem b lb j g) ∙ numberless (columns_at a i) (columns_at b j))

-- ---- the entries of the columns

pub stands_at : (count : ℕ) (r : Results) → room_for count r ≡ true → (i : ℕ) → i < count → {e : Entry}
    → e ≡ entry (get_or r.distance i 0) (get_or r.first i 0) (get_or r.second i 0) → e ≡ get_or (entries_of count r) i (entry 0 0 0)
stands_at count r room i h is = is ∙ sym (entry_at_lem count count r room (omega arith) i (entry 0 0 0) h)

pub entries_many : (count : ℕ) (r : Results) → room_for count r ≡ true → length (entries_of count r) ≡ count
entries_many count r room = length_entries count count r room (omega arith)
