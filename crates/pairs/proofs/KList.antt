-- What a K list answers.
use Rattle.std.specs.Prelude.{Ok, Err}
use Rattle.std.proofs.Common.{◌≡◌, ℕ, Bool, true, false, not, List, [], length, ℤ, sym, refl, ap, ◌∙◌, subst, ap₂, arith}
use Rattle.order.specs.Terms.{Sorted}
use Rattle.order.proofs.Best.{best_nil}
use Rattle.site.specs.declared.refusals.Refusal.{Refusal}
use Rattle.site.specs.Answer.{afterwards, refuse_if, or_else, number, answer_of}
use Rattle.site.specs.SiteList.{Columns, raised, sites}
use Rattle.site.specs.Refusal.{list_refusal, lists_refusal}
use Rattle.site.specs.Terms.{Numbered}
use Rattle.site.proofs.Answer.{
  refusal_numbered,
  result_ok,
  result_err,
  after_err,
  after_answered,
  first_refused,
  next_decides,
  or_else_first,
  or_else_second,
  fault_none,
}
use Rattle.site.proofs.Accepted.{
  accepted_level,
  accepted_length,
  accepted_order,
  accepted_coordinates,
  accepted_heights,
  both_accepted,
}
use Rattle.entry.specs.declared.Entry.{Entry}
use Rattle.entry.specs.Entry.{rank_before, best_k, lawful_k}
use Rattle.entry.proofs.Rank.{k_limits}
use Rattle.entry.specs.Results.{Results, holding, room_for, entries_of}
use Rattle.sweep.specs.Strip.{Placed, whole, strip}
use Rattle.sweep.specs.Terms.{SweepAsked}
use Rattle.sweep.proofs.Strip.{strip_whole}
use Rattle.join.specs.declared.Join.{Join}
use Rattle.join.specs.declared.Joined.{Joined}
use Rattle.join.specs.Join.{counts_of, Found, join}
use Rattle.join.specs.Terms.{JoinedTo, JoinedStrips}
use Rattle.join.proofs.JoinLaws.{join_whole_best}
use Rattle.pairs.specs.declared.Listed.{Listed}
use Rattle.pairs.specs.KList.{k_list, k_list_refusal, k_list_values, k_list_answer, listed}

sorted_none : (r : Results) → Sorted rank_before (entries_of 0 r)
unfolding entries_of Sorted
sorted_none r = tt

-- A whole list is its strip from 0 to its length.
pub whole_strip : (c : Columns) → list_refusal c ≡ 0 → strip 0 (length c.x) (sites c) ≡ whole (sites c)
whole_strip c ok = strip_whole (length c.x) (sites c) (omega (arith, accepted_length c ok))

-- What a join of two whole lists finds.
pub join_k_list : (way : Join) (k : ℕ) (a b : Columns) → list_refusal a ≡ 0 → list_refusal b ≡ 0
    → (join way k (whole (sites a)) (whole (sites b)) []).entries ≡ k_list k (sites a) (sites b)
unfolding k_list best_k
join_k_list way k a b oka okb =
    join_whole_best way k (sites a) (sites b) [] [] (accepted_order a oka) (accepted_order b okb)
    (sym (best_nil rank_before k))

values_are : (s : Found) (l : List Entry) {before after : Results} {answer : Joined} → s.entries ≡ l
    → JoinedTo s before after answer
    → k_list_values after answer.entries (counts_of answer.counters)
    ≡ k_list_values (holding l before) (length l) s.counts
values_are s l {before} e v =
    let held = v.columns ∙ ap (λ (t : List Entry). holding t before) e in
    let count = v.entries ∙ ap length e in
    λ i. k_list_values (held i) (count i) (v.counts i)

module _ (a b : Columns) (k : ℕ) (r : Results) where
  -- The refusal, by its tests.
  pub k_lists_refused : (e : Refusal) → number e ≡ lists_refusal a b → number e ≡ k_list_refusal a b k r
  unfolding k_list_refusal
  k_lists_refused e p = first_refused _ p (refusal_numbered e)

  module _ {lawful : Bool} (none : lists_refusal a b ≡ 0) (l : lawful ≡ lawful_k k) where
    pub k_unlawful : lawful ≡ false → 4 ≡ k_list_refusal a b k r
    unfolding k_list_refusal
    k_unlawful h = next_decides refl none (first_refused _ (rw (← l, h)) (λ e. omega arith))

    module _ {room : Bool} (h : lawful ≡ true) (m : room ≡ room_for k r) where
      pub k_short : room ≡ false → 6 ≡ k_list_refusal a b k r
      unfolding k_list_refusal
      k_short g = next_decides refl none (next_decides {q = 0} (rw (← l, h)) refl (rw (← m, g)))

      pub k_accepted : room ≡ true → 0 ≡ k_list_refusal a b k r
      unfolding k_list_refusal
      k_accepted g = next_decides refl none (next_decides {q = 0} (rw (← l, h)) refl (rw (← m, g)))

  pub k_refused : (way : Join) (e : Refusal) → number e ≡ k_list_refusal a b k r
      → (answer_of (listed r) (Err e) ≡ k_list_answer way a b k r)
      × (r ≡ afterwards (λ v. v.results) (k_list_answer way a b k r) r)
  unfolding k_list_answer
  k_refused way e p = (result_err (listed r) _ e p, after_err (listed r) (λ v. v.results) _ r e p)

  -- What no refusal tells.
  module _ (ok : k_list_refusal a b k r ≡ 0) where
    pub lists_accepted : (list_refusal a ≡ 0) × (list_refusal b ≡ 0)
    unfolding k_list_refusal
    lists_accepted = both_accepted a b (or_else_first _ _ ok)

    pub rest_accepted : or_else (refuse_if (not (lawful_k k)) 4) (refuse_if (not (room_for k r)) 6) ≡ 0
    unfolding k_list_refusal
    rest_accepted = or_else_second (lists_refusal a b) _ ok

    over_whole : (way : Join)
        → join way k (strip 0 (length a.x) (sites a)) (strip 0 (length b.x) (sites b)) (entries_of 0 r)
        ≡ join way k (whole (sites a)) (whole (sites b)) []
    unfolding entries_of
    over_whole way =
        let l = lists_accepted in
        ap₂ (λ (p q : List Placed). join way k p q []) (whole_strip a l.0) (whole_strip b l.1)

module _ (ax ay : List ℤ) (an : List ℕ) (ah bx by : List ℤ) (bn : List ℕ) (bh : List ℤ) (k : ℕ) (r : Results)
    (ok : k_list_refusal (raised ax ay an ah) (raised bx by bn bh) k r ≡ 0) where
  abbrev a : Columns
  a = raised ax ay an ah

  abbrev b : Columns
  b = raised bx by bn bh

  -- What the join asks.
  pub join_asks : SweepAsked ax ay ah bx by bh 0 (length ax) 0 (length bx) k 0 r
  join_asks =
      let l = lists_accepted a b k r ok in
      let rest = rest_accepted a b k r ok in
      let m = k_limits k (fault_none (lawful_k k) 3 (or_else_first _ _ rest)) in
      let room = fault_none (room_for k r) 5 (or_else_second _ _ rest) in
      record {
        a = record {
          lawful = accepted_coordinates a l.0;
          heights = accepted_heights ax ay an ah l.0;
          range = omega arith;
          inside = omega arith;
        };
        b = record {
          lawful = accepted_coordinates b l.1;
          heights = accepted_heights bx by bn bh l.1;
          range = omega arith;
          inside = omega arith;
        };
        some = m.0;
        few = m.1;
        ready = record { room = room; most = omega arith; sorted = sorted_none r };
      }

  -- What it then answers and leaves.
  pub joined_is : (way : Join) {after : Results} {answer : Joined}
      → Numbered ax ay ah bx by bh (JoinedStrips way 0 (length ax) 0 (length bx) k 0 r after answer)
      → let told : Listed = record { count = answer.entries; counters = answer.counters } in
      (answer_of (listed after) (Ok told) ≡ k_list_answer way a b k r)
      × (after ≡ afterwards (λ v. v.results) (k_list_answer way a b k r) r)
  unfolding k_list_answer
  joined_is way {after} {answer} w =
      let s = join way k (whole (sites a)) (whole (sites b)) [] in
      let l = lists_accepted a b k r ok in
      let u = w.numbered an bn (accepted_level a l.0) (accepted_level b l.1) in
      let v : JoinedTo s r after answer = subst (λ (t : Found). JoinedTo t r after answer) (over_whole a b k r ok way) u in
      let e = values_are s (k_list k (sites a) (sites b)) (join_k_list way k a b l.0 l.1) v in (
        result_ok (listed after) _ ok e,
        ap (λ v. v.results) e ∙ after_answered (λ v. v.results) _ r ok,
      )
