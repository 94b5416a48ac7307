-- What a distance list answers.
use Rattle.std.specs.Prelude.{Ok, Err}
use Rattle.std.proofs.Common.{◌≡◌, ℕ, ◌<◌, ◌≤◌, min, List, map, length, ℤ, sym, refl, ap, ◌∙◌, zero-add, arith, ltb-false, le-ltb, lt-ltb}
use Rattle.column.proofs.Stored.{stored_start}
use Rattle.site.specs.declared.refusals.Refusal.{Refusal}
use Rattle.site.specs.Answer.{afterwards, number, answer_of}
use Rattle.site.specs.SiteList.{Columns, raised, sites}
use Rattle.site.specs.Terms.{Coordinates, Heights}
use Rattle.site.specs.Refusal.{lists_refusal}
use Rattle.site.proofs.Answer.{
  refusal_numbered,
  result_ok,
  result_err,
  after_err,
  after_answered,
  first_refused,
  next_decides,
  or_else_first,
  or_else_second,
  no_fault,
}
use Rattle.site.proofs.Accepted.{accepted_level, accepted_coordinates, accepted_heights, both_accepted}
use Rattle.entry.specs.declared.Entry.{Entry}
use Rattle.pairs.specs.DistanceList.{distance_list, distance_refusal, distance_values, distance_answer}
use Rattle.pairs.specs.Internal.{near_pairs, Room, Written}
use Rattle.pairs.proofs.NearPairs.{list_is}

-- Two accepted lists.
module _ (ax ay : List ℤ) (an : List ℕ) (ah bx by : List ℤ) (bn : List ℕ) (bh : List ℤ)
    (ok : lists_refusal (raised ax ay an ah) (raised bx by bn bh) ≡ 0) where
  pub both_lawful : (Coordinates ax ay × Heights (length ax) ah) × (Coordinates bx by × Heights (length bx) bh)
  both_lawful =
      let a = raised ax ay an ah in
      let b = raised bx by bn bh in
      let l = both_accepted a b ok in (
        (accepted_coordinates a l.0, accepted_heights ax ay an ah l.0),
        (accepted_coordinates b l.1, accepted_heights bx by bn bh l.1),
      )

  both_listed : (e : ℕ)
      → distance_list e (sites (raised ax ay an ah)) (sites (raised bx by bn bh)) ≡ near_pairs e ax ay ah bx by bh 0
  both_listed e =
      let a = raised ax ay an ah in
      let b = raised bx by bn bh in
      let l = both_accepted a b ok in
      list_is e ax ay an ah bx by bn bh (accepted_level a l.0) (accepted_level b l.1)

module _ (ax ay : List ℤ) (an : List ℕ) (ah bx by : List ℤ) (bn : List ℕ) (bh : List ℤ) (e : ℕ) (first second : List ℕ) where
  abbrev a : Columns
  a = raised ax ay an ah

  abbrev b : Columns
  b = raised bx by bn bh

  abbrev listed : List Entry
  listed = distance_list e (sites a) (sites b)

  -- The same pairs, of the coordinate columns.
  abbrev near : List Entry
  near = near_pairs e ax ay ah bx by bh 0

  near_is : lists_refusal a b ≡ 0 → listed ≡ near
  near_is ok = both_listed ax ay an ah bx by bn bh ok e

  -- The refusal, by its tests.
  pub lists_refused : (r : Refusal) → number r ≡ lists_refusal a b → number r ≡ distance_refusal a b e first second
  unfolding distance_refusal
  lists_refused r p = first_refused _ p (refusal_numbered r)

  module _ {n : ℕ} (none : lists_refusal a b ≡ 0) (count : n ≡ length near) where
    counted : length listed ≡ n
    counted = ap length (near_is none) ∙ sym count

    pub too_short : min (length first) (length second) < n → 6 ≡ distance_refusal a b e first second
    unfolding distance_refusal
    too_short h = next_decides refl none (rw (counted, lt-ltb (min (length first) (length second)) n h))

    pub room : n ≤ min (length first) (length second) → 0 ≡ distance_refusal a b e first second
    unfolding distance_refusal
    room h = next_decides refl none (rw (counted, le-ltb (min (length first) (length second)) n h))

  -- What no refusal tells.
  module _ (ok : distance_refusal a b e first second ≡ 0) where
    accepted_lists : lists_refusal a b ≡ 0
    unfolding distance_refusal
    accepted_lists = or_else_first _ _ ok

    accepted_room : length listed ≤ min (length first) (length second)
    unfolding distance_refusal
    accepted_room = ltb-false _ _ (no_fault _ 5 (or_else_second (lists_refusal a b) _ ok))

    pub accepted : (Coordinates ax ay × Heights (length ax) ah)
        × ((Coordinates bx by × Heights (length bx) bh) × (Room near 0 first second))
    accepted =
        let l = both_lawful ax ay an ah bx by bn bh accepted_lists in
        let m = accepted_room in
        let n = ap length (near_is accepted_lists) in
        (l.0, (l.1, record { in_first = omega arith; in_second = omega arith }))

  -- The answer and the columns.
  pub refused_is : (r : Refusal) → number r ≡ distance_refusal a b e first second
      → (answer_of (distance_values first second) (Err r) ≡ distance_answer a b e first second)
      × ((first ≡ afterwards (λ v. v.first) (distance_answer a b e first second) first)
      × (second ≡ afterwards (λ v. v.second) (distance_answer a b e first second) second))
  unfolding distance_answer
  refused_is r p =
      let values = distance_values first second in (
        result_err values _ r p,
        (after_err values (λ v. v.first) _ first r p, after_err values (λ v. v.second) _ second r p),
      )

  pub answered_is : {n : ℕ} {first' second' : List ℕ} → distance_refusal a b e first second ≡ 0
      → Written near 0 first second first' second' n
      → (answer_of (distance_values first' second') (Ok n) ≡ distance_answer a b e first second)
      × ((first' ≡ afterwards (λ v. v.first) (distance_answer a b e first second) first)
      × (second' ≡ afterwards (λ v. v.second) (distance_answer a b e first second) second))
  unfolding distance_answer
  answered_is {n} {first'} {second'} ok w =
      let v : Written listed 0 first second first' second' n = rw (near_is (accepted_lists ok)) w in
      let f = v.in_first ∙ stored_start (map (λ p. p.first) listed) first in
      let s = v.in_second ∙ stored_start (map (λ p. p.second) listed) second in
      let c = v.count ∙ zero-add (length listed) in (
        result_ok (distance_values first' second') n ok (λ i. distance_values (f i) (s i) (c i)),
        (f ∙ after_answered (λ v. v.first) _ first ok, s ∙ after_answered (λ v. v.second) _ second ok),
      )
