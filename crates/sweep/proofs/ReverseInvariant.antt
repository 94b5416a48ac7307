-- What holds at each turn of Reverse Run.
use mathlib.Core.Path.{◌≡◌, sym, ◌∙◌}
use mathlib.Core.Bool.{Bool, true, false}
use mathlib.Core.List.{List, [], ◌∷◌, map}
use Prim.Native.Nat.{ℕ, ◌+◌, ◌-◌, ◌≤◌, ◌<◌, ◌^◌}
use native.Mathlib.Omega.{arith}
use lib.Dec.{ltb}
use lib.IntN.{ℤ}
use lib.ListN.{take, length-map}
use borrow.Author.Tests.{ltb-true, ltb-false}
use Rattle.order.proofs.Order.{by_test, never_both}
use Rattle.entry.specs.Entry.{apart}
use Rattle.entry.specs.declared.Queue.{Queue}
use Rattle.entry.specs.Results.{Results, entries_of}
use Rattle.entry.specs.Terms.{started, Updated}
use Rattle.sweep.specs.declared.Reference.{Reference}
use Rattle.sweep.specs.declared.Tally.{Tally}
use Rattle.sweep.specs.declared.Way.TheVariants.{ReverseRun}
use Rattle.sweep.specs.Strip.{Placed}
use Rattle.sweep.specs.Scan.{Candidate, State, scan}
use Rattle.sweep.specs.Sweep.{reverse_over, leads, look, sweep}
use Rattle.sweep.specs.Terms.{spot, rightward, SweepAsked}
use Rattle.sweep.specs.Internal.{leftward, reference_at, look_from, first_next, state_of, ScanAsked, Tallied}
use Rattle.sweep.proofs.ReverseLaws.{reverse_nil, reverse_first, reverse_first_last, reverse_second, reverse_second_last}
use Rattle.sweep.proofs.Counted.{scan_passed, reverse_counted}
use Rattle.sweep.proofs.SiteRuns.{rightward_nil, rightward_cons, leftward_nil, leftward_more, take_leftward, length_leftward}
use Rattle.entry.proofs.Updated.{updated_start, updated_twice}
use Rattle.sweep.proofs.FirstNext.{next_none, next_alone, next_leads}
use Rattle.sweep.proofs.ReferenceLaws.{looks_first, looks_second, reference_asks}
use Rattle.sweep.proofs.SweptStrips.{swept_fits}

-- References up to `i` and `j` are taken, down to each list's left limit: the rest leads where the whole sweep leads.
pub record ReverseInvariant (ax ay ah bx by bh : List ℤ) (aFrom aTo bFrom bTo k old : ℕ) (before r : Results) (i j aLimit bLimit : ℕ) (t : Tally) : Type 0 where
  pub a_limit : aLimit ≤ i
  pub a_most : i ≤ aTo
  pub b_limit : bLimit ≤ j
  pub b_most : j ≤ bTo
  pub updated : Updated k before old r t.queue
  pub whole : reverse_over leads look apart k (rightward ax ay ah i (aTo - i)) (rightward bx by bh j (bTo - j)) (leftward ax ay ah aLimit (i - aLimit))
      (leftward bx by bh bLimit (j - bLimit)) (state_of t r)
      ≡ sweep ReverseRun k (rightward ax ay ah aFrom (aTo - aFrom)) (rightward bx by bh bFrom (bTo - bFrom)) (entries_of old before)

-- ---- one step, whichever list is next

module _ (ax ay ah bx by bh : List ℤ) (aTo bTo k i j : ℕ) (u v : List Placed) (s : State) where
  step_first : first_next ax i aTo bx j bTo ≡ true
      → (i < aTo)
      × (reverse_over leads look apart k (rightward ax ay ah i (aTo - i)) (rightward bx by bh j (bTo - j)) u v s
      ≡ reverse_over leads look apart k (rightward ax ay ah (i + 1) (aTo - (i + 1))) (rightward bx by bh j (bTo - j)) (spot ax ay ah i ∷ u)
      (take (scan apart k (map (look (spot ax ay ah i)) v) s).passed v) (scan apart k (map (look (spot ax ay ah i)) v) s).state)
  step_first h =
      by_test (ltb i aTo)
      (λ t.
      let in_a = ltb-true i aTo t in
      (in_a, rw (rightward_cons ax ay ah i aTo in_a) (go in_a)))
      (λ t. never_both h (sym (next_none ax i aTo bx j bTo (ltb-false i aTo t))))
    where
      go : i < aTo → reverse_over leads look apart k (spot ax ay ah i ∷ rightward ax ay ah (i + 1) (aTo - (i + 1))) (rightward bx by bh j (bTo - j)) u v s
          ≡ reverse_over leads look apart k (rightward ax ay ah (i + 1) (aTo - (i + 1))) (rightward bx by bh j (bTo - j)) (spot ax ay ah i ∷ u)
          (take (scan apart k (map (look (spot ax ay ah i)) v) s).passed v) (scan apart k (map (look (spot ax ay ah i)) v) s).state
      go in_a =
          by_test (ltb j bTo)
          (λ t.
          let in_b = ltb-true j bTo t in
          rw (rightward_cons bx by bh j bTo in_b)
          (reverse_first leads look apart k (spot ax ay ah i) (rightward ax ay ah (i + 1) (aTo - (i + 1))) (spot bx by bh j) (rightward bx by bh (j + 1) (bTo - (j + 1))) u v s
          (next_leads ax i aTo bx j bTo ay ah by bh in_a in_b ∙ h)))
          (λ t.
          rw (rightward_nil bx by bh j bTo (ltb-false j bTo t))
          (reverse_first_last leads look apart k (spot ax ay ah i) (rightward ax ay ah (i + 1) (aTo - (i + 1))) u v s))

  step_second : first_next ax i aTo bx j bTo ≡ false → j < bTo
      → reverse_over leads look apart k (rightward ax ay ah i (aTo - i)) (rightward bx by bh j (bTo - j)) u v s
      ≡ reverse_over leads look apart k (rightward ax ay ah i (aTo - i)) (rightward bx by bh (j + 1) (bTo - (j + 1)))
      (take (scan apart k (map (λ c. look c (spot bx by bh j)) u) s).passed u) (spot bx by bh j ∷ v) (scan apart k (map (λ c. look c (spot bx by bh j)) u) s).state
  step_second h in_b =
      rw (rightward_cons bx by bh j bTo in_b)
      (by_test (ltb i aTo)
      (λ t.
      let in_a = ltb-true i aTo t in
      rw (rightward_cons ax ay ah i aTo in_a)
      (reverse_second leads look apart k (spot ax ay ah i) (rightward ax ay ah (i + 1) (aTo - (i + 1))) (spot bx by bh j) (rightward bx by bh (j + 1) (bTo - (j + 1))) u v s
      (next_leads ax i aTo bx j bTo ay ah by bh in_a in_b ∙ h)))
      (λ t.
      rw (rightward_nil ax ay ah i aTo (ltb-false i aTo t))
      (reverse_second_last leads look apart k (spot bx by bh j) (rightward bx by bh (j + 1) (bTo - (j + 1))) u v s)))

  step_none : first_next ax i aTo bx j bTo ≡ false → bTo ≤ j
      → reverse_over leads look apart k (rightward ax ay ah i (aTo - i)) (rightward bx by bh j (bTo - j)) u v s ≡ s
  step_none h out =
      rw (rightward_nil bx by bh j bTo out)
      (by_test (ltb i aTo)
      (λ t. never_both (sym (next_alone ax i aTo bx j bTo (ltb-true i aTo t) out)) h)
      (λ t. rw (rightward_nil ax ay ah i aTo (ltb-false i aTo t)) (reverse_nil leads look apart k u v s)))

-- What a scan passed: the sites past the new limit.
passed_run : (xs ys hs : List ℤ) {limit stop at : ℕ} (k : ℕ) (f : Placed → Candidate) (s : State) → limit ≤ at
    → stop + (scan apart k (map f (leftward xs ys hs limit (at - limit))) s).passed ≡ at
    → (stop ≤ at) × (take (scan apart k (map f (leftward xs ys hs limit (at - limit))) s).passed (leftward xs ys hs limit (at - limit)) ≡ leftward xs ys hs stop (at - stop))
passed_run xs ys hs {limit} {stop} {at} k f s h is =
    let v = leftward xs ys hs limit (at - limit) in
    let n = scan_passed apart k (map f v) s in
    let m = length-map v f in
    let l = length_leftward xs ys hs limit (at - limit) in
    (omega arith, take_leftward xs ys hs limit stop at (scan apart k (map f v) s).passed (omega arith) is)

module _ {ax ay ah bx by bh : List ℤ} {aFrom aTo bFrom bTo k old : ℕ} {before : Results} (asked : SweepAsked ax ay ah bx by bh aFrom aTo bFrom bTo k old before) where
  pub invariant_start : {q : Queue} → q ≡ started before.distance old k
      → ReverseInvariant ax ay ah bx by bh aFrom aTo bFrom bTo k old before before aFrom bFrom aFrom bFrom (record { at = 0; looks = 0; distances = 0; queue = q })
  unfolding sweep state_of
  invariant_start is =
      let s = updated_start asked.ready asked.some is in
      record {
        a_limit = omega arith;
        a_most = asked.a.range;
        b_limit = omega arith;
        b_most = asked.b.range;
        updated = s.0;
        whole = rw (s.1, leftward_nil ax ay ah aFrom aFrom (omega arith), leftward_nil bx by bh bFrom bFrom (omega arith));
      }

  module _ {r : Results} {i j aLimit bLimit : ℕ} {t : Tally} (f : ReverseInvariant ax ay ah bx by bh aFrom aTo bFrom bTo k old before r i j aLimit bLimit t)
      {b : Bool} (test : b ≡ first_next ax i aTo bx j bTo) where
    abbrev u : List Placed
    u = leftward ax ay ah aLimit (i - aLimit)

    abbrev v : List Placed
    v = leftward bx by bh bLimit (j - bLimit)

    fits : (t.looks ≤ 2 ^ 62) × (t.distances ≤ 2 ^ 62)
    fits =
        swept_fits ReverseRun ax ay ah bx by bh aFrom aTo bFrom bTo k old before asked t r
        (rw f.whole at (reverse_counted leads look apart k (rightward ax ay ah i (aTo - i)) (rightward bx by bh j (bTo - j)) u v (state_of t r)))

    -- Every site has been taken.
    pub invariant_end : b ≡ false → bTo ≤ j
        → Tallied k before old (sweep ReverseRun k (rightward ax ay ah aFrom (aTo - aFrom)) (rightward bx by bh bFrom (bTo - bFrom)) (entries_of old before)) r t
    invariant_end h out =
        record { updated = f.updated; state = sym (step_none ax ay ah bx by bh aTo bTo k i j u v (state_of t r) (sym test ∙ h) out) ∙ f.whole }

    pub invariant_in : b ≡ true → i < aTo
    invariant_in h = (step_first ax ay ah bx by bh aTo bTo k i j [] [] (state_of t r) (sym test ∙ h)).0

    module _ {o : Reference} where
      pub invariant_ask_first : b ≡ true → o ≡ reference_at ax ay ah i false → ScanAsked o bx by bh bLimit j k t r
      invariant_ask_first h is =
          reference_asks false asked.a.lawful asked.a.heights (omega (arith, invariant_in h, asked.a.inside)) is asked.b.lawful asked.b.heights f.b_limit (omega (arith, f.b_most, asked.b.inside)) f.updated.queue fits

      pub invariant_ask_second : j < bTo → o ≡ reference_at bx by bh j true → ScanAsked o ax ay ah aLimit i k t r
      invariant_ask_second in_b is =
          reference_asks true asked.b.lawful asked.b.heights (omega (arith, asked.b.inside)) is asked.a.lawful asked.a.heights f.a_limit (omega (arith, f.a_most, asked.a.inside)) f.updated.queue fits

      module _ {after : Results} {n : Tally} where
        -- The first list's site is taken; the second list's limit is where the scan ended.
        pub invariant_first : b ≡ true → o ≡ reference_at ax ay ah i false
            → Tallied k r t.queue.count (scan apart k (map (look_from o) v) (state_of t r)).state after n
            × (n.at + (scan apart k (map (look_from o) v) (state_of t r)).passed ≡ j)
            → ReverseInvariant ax ay ah bx by bh aFrom aTo bFrom bTo k old before after (i + 1) j aLimit n.at n
        invariant_first h is done =
            let seen = looks_first ax ay ah i is in
            let step = step_first ax ay ah bx by bh aTo bTo k i j u v (state_of t r) (sym test ∙ h) in
            let passed = passed_run bx by bh k (look (spot ax ay ah i)) (state_of t r) f.b_limit (rw seen at done.1) in
            record {
              a_limit = omega (arith, f.a_limit);
              a_most = omega (arith, step.0);
              b_limit = passed.0;
              b_most = f.b_most;
              updated = updated_twice f.updated done.0.updated;
              whole = rw (← leftward_more ax ay ah aLimit i f.a_limit, ← passed.1, rw seen at done.0.state) (sym step.1 ∙ f.whole);
            }

        -- The second list's site is taken; the first list's limit is where the scan ended.
        pub invariant_second : b ≡ false → j < bTo → o ≡ reference_at bx by bh j true
            → Tallied k r t.queue.count (scan apart k (map (look_from o) u) (state_of t r)).state after n
            × (n.at + (scan apart k (map (look_from o) u) (state_of t r)).passed ≡ i)
            → ReverseInvariant ax ay ah bx by bh aFrom aTo bFrom bTo k old before after i (j + 1) n.at bLimit n
        invariant_second h in_b is done =
            let seen = looks_second bx by bh j is in
            let step = step_second ax ay ah bx by bh aTo bTo k i j u v (state_of t r) (sym test ∙ h) in_b in
            let passed = passed_run ax ay ah k (λ c. look c (spot bx by bh j)) (state_of t r) f.a_limit (rw seen at done.1) in
            record {
              a_limit = passed.0;
              a_most = f.a_most;
              b_limit = omega (arith, f.b_limit);
              b_most = omega arith;
              updated = updated_twice f.updated done.0.updated;
              whole = rw (← leftward_more bx by bh bLimit j f.b_limit, ← passed.1, rw seen at done.0.state) (sym step ∙ f.whole);
            }
