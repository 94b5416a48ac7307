-- The text of two lists from their number columns and their K list.
use mathlib.Core.Path.{◌≡◌, refl, sym, ap, ◌∙◌}
use mathlib.Core.Bool.{true}
use mathlib.Core.List.{List, [], ◌∷◌, map}
use Prim.Native.Nat.{ℕ, suc, ◌+◌, ◌*◌, ◌≤◌}
use native.Mathlib.Omega.{arith}
use lib.IntN.{ℤ, pos}
use lib.ListN.{length, replicate, get_or-eq_default}
use borrow.Author.Tests.{ltb-true, ltb-false}
use lib.Dec.{ltb}
use Rattle.order.proofs.Order.{by_test}
use Rattle.order.proofs.Best.{length_best}
use Rattle.site.specs.SiteList.{Columns, raised, Plane, on_ground, sites, site_at}
use Rattle.site.specs.Terms.{Level, Numbered}
use Rattle.std.specs.Prelude.{Result, Ok, Err}
use Rattle.site.specs.declared.refusals.Refusal.{Refusal}
use Rattle.site.specs.Answer.{or_else, number, answer_of}
use Rattle.site.specs.Refusal.{list_refusal, lists_refusal}
use Rattle.site.proofs.Answer.{answered_values, refused_number}
use Rattle.site.proofs.Accepted.{accepted_level, accepted_coordinates, accepted_heights, both_accepted}
use Rattle.site.proofs.Ground.{ground_lists}
use Rattle.site.proofs.SiteList.{nowhere, sites_length, site_at_lem}
use Rattle.entry.specs.declared.Entry.{Entry}
use Rattle.entry.specs.Entry.{rank_before, best_k}
use Rattle.entry.specs.Results.{Results, results, entries_of, holding, room_for}
use Rattle.entry.proofs.Rank.{k_limits}
use Rattle.entry.proofs.Results.{room_fewer, entries_holding, room_holding}
use Rattle.sweep.specs.Strip.{strip, pairs, all_pairs}
use Rattle.sweep.specs.Terms.{StripIn}
use Rattle.join.specs.declared.Join.{Join}
use Rattle.pairs.specs.declared.Listed.{Listed}
use Rattle.pairs.specs.KList.{k_list, k_list_refusal, k_list_answer, listed}
use Rattle.pairs.proofs.KList.{whole_strip}
use Rattle.plane.specs.Plane.{HeightsOfZero}
use Rattle.plane.proofs.PairLists.{pairs_same}
use Rattle.plane.proofs.Plane.{heights_of_zero}
use Rattle.listing.specs.Listing.{entry_lines, listing_text}
use Rattle.listing.specs.Internal.{heading, number_at, entries_text, Put, Lawful, Grounded}

-- A site's number stands in the column of numbers.
pub site_number : (c : Columns) → Level c → (i : ℕ) → (site_at (sites c) i).number ≡ number_at c.number i
unfolding site_at
site_number c l i =
    by_test (ltb i (length c.x)) (λ t. ap (λ s. s.number) (site_at_lem c l i (ltb-true i (length c.x) t)))
    (λ t.
    let past : length c.x ≤ i = ltb-false i (length c.x) t in
    ap (λ s. s.number) (get_or-eq_default (sites c) nowhere {n = i} (omega (arith, sites_length c l)))
    ∙ sym (get_or-eq_default c.number 0 {n = i} (omega (arith, l.number))))

-- The lines are the same where the numbers are.
same_lines : (a b f g : ℕ → ℕ) → ((i : ℕ) → a i ≡ f i) → ((i : ℕ) → b i ≡ g i) → (rank : ℕ) (l : List Entry)
    → entry_lines a b rank l ≡ entry_lines f g rank l
unfolding entry_lines
same_lines a b f g p q rank [] = refl
same_lines a b f g p q rank (e ∷ l) = rw (p e.first, q e.second, same_lines a b f g p q (suc rank) l)

pub listing_text_lem : (k : ℕ) (a b : Columns) → Level a → Level b
    → let total = length (all_pairs (sites a) (sites b)) in
    listing_text k (sites a) (sites b) ≡ entries_text a.number b.number total (k_list k (sites a) (sites b))
unfolding listing_text entries_text heading
listing_text_lem k a b p q =
    rw (same_lines (λ i. (site_at (sites a) i).number) (λ i. (site_at (sites b) i).number) (number_at a.number)
    (number_at b.number) (site_number a p) (site_number b q) 1 (k_list k (sites a) (sites b)))

-- ---- how many pairs there are

module _ (a b : Columns) (lists : lists_refusal a b ≡ 0) where
  both : (list_refusal a ≡ 0) × (list_refusal b ≡ 0)
  both = both_accepted a b lists

  both_level : Level a × Level b
  both_level = (accepted_level a both.0, accepted_level b both.1)

  abbrev Counted : List ℤ → List ℤ → ℕ → Type 0
  Counted ah bh n =
      Numbered a.x a.y ah b.x b.y bh
      (λ p q. n ≡ length (pairs (strip 0 (length a.x) p) (strip 0 (length b.x) q)))

  -- With every height 0.
  module _ (pa : Plane a) (pb : Plane b) {ah bh : List ℤ} (e : Grounded a.x ah) (f : Grounded b.x bh) where
    up : (list_refusal (on_ground a) ≡ 0) × (list_refusal (on_ground b) ≡ 0)
    up = both_accepted (on_ground a) (on_ground b) (ground_lists a b pa pb ∙ lists)

    -- What the count of all pairs asks, and tells.
    pub count_asks : StripIn a.x a.y ah 0 (length a.x) × StripIn b.x b.y bh 0 (length b.x)
    count_asks = (
      record {
        lawful = accepted_coordinates a both.0;
        heights = rw e (accepted_heights _ _ _ _ up.0);
        range = omega arith;
        inside = omega arith;
      },
      record {
        lawful = accepted_coordinates b both.1;
        heights = rw f (accepted_heights _ _ _ _ up.1);
        range = omega arith;
        inside = omega arith;
      },
    )

    all_counted : {n : ℕ} → Counted ah bh n → n ≡ length (all_pairs (sites a) (sites b))
    all_counted {n} w =
        let grounded : Counted (map (λ x. pos 0) a.x) (map (λ x. pos 0) b.x) n = rw (e, f) at w in
        let counted = grounded.numbered a.number b.number (accepted_level (on_ground a) up.0) (accepted_level (on_ground b) up.1) in
        rw (whole_strip (on_ground a) up.0, whole_strip (on_ground b) up.1) at counted ∙ ap length (pairs_same a b pa pb)

-- The K list of two lists of the plane that are lent with every height 0.
pub on_plane : (way : Join) (a b : Columns) (k : ℕ) (r : Results) {ah bh : List ℤ} → Plane a → Plane b → Grounded a.x ah → Grounded b.x bh
    → k_list_answer way (raised a.x a.y a.number ah) (raised b.x b.y b.number bh) k r ≡ k_list_answer way a b k r
unfolding HeightsOfZero
on_plane way a b k r pa pb e f = rw (e, f) ((heights_of_zero a b pa pb).k_lists way k r)

-- ---- the K list in the result columns

-- A K list of two lawful lists, into columns with room for it.
module _ (way : Join) (a b : Columns) (k : ℕ) (r : Results) {buffer : List ℕ} (lawful : Lawful a b k buffer)
    (long : room_for 4_096 r ≡ true) where
  k_most : k ≤ 4_096
  k_most = (k_limits k lawful.some).1

  enough : (n : ℕ) → n ≤ 4_096 → room_for n r ≡ true
  enough n h = room_fewer r h long

  none : k_list_refusal a b k r ≡ 0
  unfolding k_list_refusal or_else
  none = rw (lawful.lists, lawful.some, enough k k_most)

  found : List Entry
  found = k_list k (sites a) (sites b)

  few : length found ≤ 4_096
  unfolding found k_list best_k
  few = omega (arith, k_most, length_best rank_before k (all_pairs (sites a) (sites b)))

  module _ {l : Result Listed Refusal} (s : Results) (answer : answer_of (listed s) l ≡ k_list_answer way a b k r) where
    pub never_refused : {e : Refusal} → l ≡ Err e → ⊥
    unfolding answer_of k_list_answer
    never_refused {e} is =
        (refused_number (k_list_refusal a b k r) (number e) _ (sym (ap (answer_of (listed s)) is) ∙ answer)).1 none

    module _ {told : Listed} (e : l ≡ Ok told) where
      abbrev count : ℕ
      count = told.count

      values : (s ≡ holding found r) × (count ≡ length found)
      unfolding answer_of k_list_answer found
      values =
          let v = sym (answered_values (k_list_refusal a b k r) _ _ (sym answer ∙ ap (answer_of (listed s)) e)).1 in
          (ap (λ x. x.results) v, ap (λ x. x.count) v)

      -- What the text is written from.
      pub text_ready : (room_for count s ≡ true) × (51 + 84 * count ≤ length buffer)
      text_ready = (
        rw (values.0, values.1) (room_holding (length found) found r (enough (length found) few) (omega arith)),
        omega (arith, lawful.room, few, values.1),
      )

      pub text_written : {total z : ℕ} {before after : List ℕ} {ah bh : List ℤ} → Plane a → Plane b → Grounded a.x ah → Grounded b.x bh
          → Counted a b lawful.lists ah bh total
          → Put 0 (entries_text a.number b.number total (entries_of count s)) before after z
          → Put 0 (listing_text k (sites a) (sites b)) before after z
      unfolding found
      text_written {total} pa pb ga gb all p =
          let same : entries_of count s ≡ k_list k (sites a) (sites b) =
          rw (values.0, values.1) (entries_holding found r) in
          let level = both_level a b lawful.lists in
          rw (listing_text_lem k a b level.0 level.1, ← same, ← all_counted a b lawful.lists pa pb ga gb all) p

-- Result columns of 4,096 zeros have room.
pub zeros_room : room_for 4_096 (results (replicate 4_096 0) (replicate 4_096 0) (replicate 4_096 0)) ≡ true
unfolding room_for
zeros_room = refl
