-- What holds at each turn of the classic sweep.
use mathlib.Core.Path.{◌≡◌, sym, ◌∙◌}
use mathlib.Core.Bool.{Bool, true, false}
use mathlib.Core.Logic.{◌⊎◌, ⊎_elim}
use mathlib.Core.List.{List, map}
use Prim.Native.Nat.{ℕ, ◌+◌, ◌-◌, ◌≤◌, ◌<◌, ◌^◌}
use native.Mathlib.Omega.{arith}
use lib.IntN.{ℤ}
use Rattle.entry.specs.Entry.{apart}
use Rattle.entry.specs.declared.Queue.{Queue}
use Rattle.entry.specs.Results.{Results, entries_of}
use Rattle.entry.specs.Terms.{started, Updated}
use Rattle.sweep.specs.declared.Reference.{Reference}
use Rattle.sweep.specs.declared.Tally.{Tally}
use Rattle.sweep.specs.declared.Way.TheVariants.{Classic}
use Rattle.sweep.specs.Scan.{scan}
use Rattle.sweep.specs.Sweep.{classic_over, leads, look, sweep}
use Rattle.sweep.specs.Terms.{spot, rightward, SweepAsked}
use Rattle.sweep.specs.Internal.{reference_at, look_from, first_next, state_of, ScanAsked, Tallied}
use Rattle.sweep.proofs.ClassicLaws.{classic_nil, classic_nil_right, classic_first, classic_second}
use Rattle.sweep.proofs.Counted.{classic_counted}
use Rattle.sweep.proofs.SiteRuns.{rightward_nil, rightward_cons}
use Rattle.entry.proofs.Updated.{updated_start, updated_twice}
use Rattle.sweep.proofs.FirstNext.{next_leads}
use Rattle.sweep.proofs.ReferenceLaws.{looks_first, looks_second, reference_asks}
use Rattle.sweep.proofs.SweptStrips.{swept_fits}

-- Two fingers: the sites from them on, from the state held now, lead where the whole sweep leads.
pub record ClassicInvariant (ax ay ah bx by bh : List ℤ) (aFrom aTo bFrom bTo k old : ℕ) (before r : Results) (i j : ℕ) (t : Tally) : Type 0 where
  pub updated : Updated k before old r t.queue
  pub whole : classic_over leads look apart k (rightward ax ay ah i (aTo - i)) (rightward bx by bh j (bTo - j)) (state_of t r)
      ≡ sweep Classic k (rightward ax ay ah aFrom (aTo - aFrom)) (rightward bx by bh bFrom (bTo - bFrom)) (entries_of old before)

module _ {ax ay ah bx by bh : List ℤ} {aFrom aTo bFrom bTo k old : ℕ} {before : Results} (asked : SweepAsked ax ay ah bx by bh aFrom aTo bFrom bTo k old before) where
  pub invariant_start : {q : Queue} → q ≡ started before.distance old k
      → ClassicInvariant ax ay ah bx by bh aFrom aTo bFrom bTo k old before before aFrom bFrom (record { at = 0; looks = 0; distances = 0; queue = q })
  unfolding sweep state_of
  invariant_start is =
      let s = updated_start asked.ready asked.some is in
      record { updated = s.0; whole = rw s.1 }

  module _ {r : Results} {i j : ℕ} {t : Tally} (f : ClassicInvariant ax ay ah bx by bh aFrom aTo bFrom bTo k old before r i j t) where
    fits : (t.looks ≤ 2 ^ 62) × (t.distances ≤ 2 ^ 62)
    fits =
        swept_fits Classic ax ay ah bx by bh aFrom aTo bFrom bTo k old before asked t r
        (rw f.whole at (classic_counted leads look apart k (rightward ax ay ah i (aTo - i)) (rightward bx by bh j (bTo - j)) (state_of t r)))

    -- One strip has run out.
    pub invariant_end : (aTo ≤ i) ⊎ (bTo ≤ j)
        → Tallied k before old (sweep Classic k (rightward ax ay ah aFrom (aTo - aFrom)) (rightward bx by bh bFrom (bTo - bFrom)) (entries_of old before)) r t
    invariant_end out = record { updated = f.updated; state = sym ended ∙ f.whole }
      where
        ended : classic_over leads look apart k (rightward ax ay ah i (aTo - i)) (rightward bx by bh j (bTo - j)) (state_of t r) ≡ state_of t r
        ended =
            ⊎_elim
            (λ h. rw (rightward_nil ax ay ah i aTo h) (classic_nil leads look apart k (rightward bx by bh j (bTo - j)) (state_of t r)))
            (λ h. rw (rightward_nil bx by bh j bTo h) (classic_nil_right leads look apart k (rightward ax ay ah i (aTo - i)) (state_of t r)))
            out

    module _ (in_a : i < aTo) (in_b : j < bTo) where
      leading : {b v : Bool} → b ≡ first_next ax i aTo bx j bTo → b ≡ v → leads (spot ax ay ah i) (spot bx by bh j) ≡ v
      leading test h = next_leads ax i aTo bx j bTo ay ah by bh in_a in_b ∙ sym test ∙ h

      pub invariant_ask_first : {o : Reference} → o ≡ reference_at ax ay ah i false → ScanAsked o bx by bh j bTo k t r
      invariant_ask_first is =
          reference_asks false asked.a.lawful asked.a.heights (omega (arith, asked.a.inside)) is asked.b.lawful asked.b.heights (omega arith) asked.b.inside f.updated.queue fits

      pub invariant_ask_second : {o : Reference} → o ≡ reference_at bx by bh j true → ScanAsked o ax ay ah i aTo k t r
      invariant_ask_second is =
          reference_asks true asked.b.lawful asked.b.heights (omega (arith, asked.b.inside)) is asked.a.lawful asked.a.heights (omega arith) asked.a.inside f.updated.queue fits

      module _ {b : Bool} (test : b ≡ first_next ax i aTo bx j bTo) {o : Reference} {after : Results} {u : Tally} where
        -- The first list's finger moves on.
        pub invariant_first : b ≡ true → o ≡ reference_at ax ay ah i false
            → Tallied k r t.queue.count (scan apart k (map (look_from o) (rightward bx by bh j (bTo - j))) (state_of t r)).state after u
            → ClassicInvariant ax ay ah bx by bh aFrom aTo bFrom bTo k old before after (i + 1) j u
        invariant_first h is s =
            let p = rightward ax ay ah (i + 1) (aTo - (i + 1)) in
            let q = rightward bx by bh j (bTo - j) in
            let seen : state_of u after ≡ (scan apart k (map (look (spot ax ay ah i)) q) (state_of t r)).state = rw (looks_first ax ay ah i is) at s.state in
            let step : classic_over leads look apart k (rightward ax ay ah i (aTo - i)) q (state_of t r) ≡ classic_over leads look apart k p q (state_of u after)
            = rw (seen, rightward_cons ax ay ah i aTo in_a, rightward_cons bx by bh j bTo in_b)
            (classic_first leads look apart k (spot ax ay ah i) p (spot bx by bh j) (rightward bx by bh (j + 1) (bTo - (j + 1))) (state_of t r) (leading test h)) in
            record { updated = updated_twice f.updated s.updated; whole = sym step ∙ f.whole }

        -- The second list's finger moves on.
        pub invariant_second : b ≡ false → o ≡ reference_at bx by bh j true
            → Tallied k r t.queue.count (scan apart k (map (look_from o) (rightward ax ay ah i (aTo - i))) (state_of t r)).state after u
            → ClassicInvariant ax ay ah bx by bh aFrom aTo bFrom bTo k old before after i (j + 1) u
        invariant_second h is s =
            let p = rightward ax ay ah i (aTo - i) in
            let q = rightward bx by bh (j + 1) (bTo - (j + 1)) in
            let seen : state_of u after ≡ (scan apart k (map (λ c. look c (spot bx by bh j)) p) (state_of t r)).state = rw (looks_second bx by bh j is) at s.state in
            let step : classic_over leads look apart k p (rightward bx by bh j (bTo - j)) (state_of t r) ≡ classic_over leads look apart k p q (state_of u after)
            = rw (seen, rightward_cons ax ay ah i aTo in_a, rightward_cons bx by bh j bTo in_b)
            (classic_second leads look apart k (spot ax ay ah i) (rightward ax ay ah (i + 1) (aTo - (i + 1))) (spot bx by bh j) q (state_of t r) (leading test h)) in
            record { updated = updated_twice f.updated s.updated; whole = sym step ∙ f.whole }
