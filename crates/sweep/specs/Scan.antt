-- One scan: a reference against a run of other sites, until a look stops it.
use Rattle.std.specs.Prelude.{Bool, cond, ◌&&◌, List, [], ◌∷◌, ℕ, suc, ltb, eqb, length}
use Rattle.entry.specs.declared.Entry.{Entry}
use Rattle.entry.specs.Entry.{offer, last_distance}

-- What a look at a pair tests and offers: the x-difference squared, and the entry.
pub record Candidate : Type 0 where
  pub gap : ℕ
  pub entry : Entry

-- The list and the two counters, which are never added. (01: looks, distances.)
pub record State : Type 0 where
  pub entries : List Entry
  pub looks : ℕ
  pub distances : ℕ

abbrev pub state : List Entry → ℕ → ℕ → State
state entries looks distances = record { entries = entries; looks = looks; distances = distances }

-- "if the list has K entries and the x-difference squared is greater than the last entry's squared distance"
unfoldable pub beyond : ℕ → List Entry → ℕ → Bool
beyond k l gap = eqb (length l) k && ltb (last_distance l) gap

-- The state after a scan, and how many candidates it passed before it stopped or ran out.
pub record Scanned : Type 0 where
  pub state : State
  pub passed : ℕ

-- `counts`: which pairs the list takes.
module _ (counts : Entry → Bool) (k : ℕ) where
  -- The list with a pair "by rank, the entry past K dropping out", or as it is where the pair does not count.
  unfoldable pub taken : Entry → List Entry → List Entry
  taken e l = cond (counts e) (offer k e l) l

  -- What a look leaves. It stops the scan, or "the distance is worked out and the pair takes its place"; one that does
  -- not count is worked out and counted all the same.
  abbrev pub look_at : Candidate → State → State
  look_at c s =
      let on = state (taken c.entry s.entries) (suc s.looks) (suc s.distances) in
      cond (beyond k s.entries c.gap) (state s.entries (suc s.looks) s.distances) on

  unfoldable pub scan : List Candidate → State → Scanned
  scan [] s = record { state = s; passed = 0 }
  scan (c ∷ l) s =
      let r = scan l (look_at c s) in
      let on : Scanned = record { state = r.state; passed = suc r.passed } in
      cond (beyond k s.entries c.gap) (record { state = look_at c s; passed = 0 }) on
