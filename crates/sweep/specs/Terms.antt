-- Terms of contracts that other crates cite: sites of three coordinate columns, and what a sweep asks and promises.
use Rattle.std.specs.Prelude.{List, [], ◌∷◌, ◌≡◌, ℕ, zero, suc, ◌≤◌, ◌<◌, ℤ, pos, get_or, length}
use Rattle.site.specs.Site.{Site}
use Rattle.site.specs.SiteList.{raised_site}
use Rattle.site.specs.Terms.{Coordinates, Heights, Numbered}
use Rattle.site.specs.declared.Spots.{Spots}
use Rattle.entry.specs.Results.{Results, entries_of, holding}
use Rattle.entry.specs.Terms.{Ready}
use Rattle.sweep.specs.declared.Swept.{Swept}
use Rattle.sweep.specs.declared.Way.{Way}
use Rattle.sweep.specs.Strip.{Placed, strip}
use Rattle.sweep.specs.Scan.{State}
use Rattle.sweep.specs.Sweep.{sweep}

-- A site that needs no number: a sweep reads none.
abbrev pub spot_of : ℤ → ℤ → ℤ → ℕ → Placed
spot_of x y h place = record { place = place; site = raised_site x y 0 h }

-- The site at a place of three coordinate columns.
unfoldable pub spot : List ℤ → List ℤ → List ℤ → ℕ → Placed
spot xs ys hs i = spot_of (get_or xs i (pos 0)) (get_or ys i (pos 0)) (get_or hs i (pos 0)) i

-- `n` sites from place `from` on.
unfoldable pub rightward : List ℤ → List ℤ → List ℤ → ℕ → ℕ → List Placed
rightward xs ys hs from zero = []
rightward xs ys hs from (suc n) = spot xs ys hs from ∷ rightward xs ys hs (suc from) n

-- A strip of a lawful list, by its coordinate columns.
pub record StripIn (xs ys hs : List ℤ) (from to : ℕ) : Type 0 where
  pub lawful : Coordinates xs ys
  pub heights : Heights (length xs) hs
  pub range : from ≤ to
  pub inside : to ≤ length xs

-- A sweep asks: two strips, and result columns ready for up to `k` entries.
pub record SweepAsked (ax ay ah bx by bh : List ℤ) (aFrom aTo bFrom bTo k count : ℕ) (r : Results) : Type 0 where
  pub a : StripIn ax ay ah aFrom aTo
  pub b : StripIn bx by bh bFrom bTo
  pub some : 0 < k
  pub few : k ≤ 4_096
  pub ready : Ready k count r

-- A sweep promises: its answer and the result columns are those of the state `s`; past the entries nothing changes.
pub record SweptTo (s : State) (before after : Results) (answer : Swept) : Type 0 where
  pub entries : answer.entries ≡ length s.entries
  pub looks : answer.looks.0 ≡ s.looks
  pub distances : answer.distances.0 ≡ s.distances
  pub columns : after ≡ holding s.entries before

-- The same over strips of two lists.
abbrev pub SweptStrips : Way → ℕ → ℕ → ℕ → ℕ → ℕ → ℕ → Results → Results → Swept → List Site → List Site → Type 0
SweptStrips way aFrom aTo bFrom bTo k count before after answer a b =
    SweptTo (sweep way k (strip aFrom aTo a) (strip bFrom bTo b) (entries_of count before)) before after answer

-- What holds of two lists that were lent, whatever the numbers of their sites.
abbrev pub NumberedLists : Spots → Spots → (List Site → List Site → Type 0) → Type 0
NumberedLists a b holds = Numbered a.x.now a.y.now a.height.now b.x.now b.y.now b.height.now holds
