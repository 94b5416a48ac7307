-- The entries of a distance column: what is known of entries that are not refused, both ways.
use mathlib.Core.Path.{◌≡◌, sym}
use mathlib.Core.Bool.{Bool, true, not}
use mathlib.Core.List.{List}
use Prim.Native.Nat.{ℕ, ◌≤◌, ◌<◌}
use borrow.Author.Tests.{ltb-true, ltb-false, lt-ltb, le-ltb}
use lib.Dec.{ltb}
use lib.ListN.{length, take}
use lib.Seq.{length-take-le}
use Rattle.order.specs.Lists.{all, All}
use Rattle.order.proofs.Lists.{all_holds, holds_all, all_weaken}
use Rattle.site.specs.Answer.{refuse_if, or_else}
use Rattle.site.specs.Site.{square}
use Rattle.site.proofs.Answer.{or_else_first, or_else_second, no_fault, fault_none}
use Rattle.site.proofs.Tests.{or_first, or_second}
use Rattle.bands.specs.Bands.{last_to}
use Rattle.bands.specs.Calls.{entries_refusal}
use Rattle.bands.specs.Internal.{Tariff, Covered, Priceable, Chargeable}

-- Whether a squared distance is below the square of the last band's end.
abbrev pub below : ℕ → Bool
below d = ltb d (square last_to)

-- Both columns have room for the entries, which are not too many.
pub record Room (distance : List ℕ) (count : ℕ) (prices : List ℕ) : Type 0 where
  pub column : count ≤ length prices
  pub entries : count ≤ length distance
  pub few : count ≤ 4_096

-- And each squared distance is below the end.
pub record Entries (distance : List ℕ) (count : ℕ) (prices : List ℕ) : Type 0 where
  pub room : Room distance count prices
  pub below : All (λ d. d < square last_to) (take count distance)

module _ (distance : List ℕ) (count : ℕ) (prices : List ℕ) where
  -- Where there is room the distances decide.
  pub distances_decide : {r : Bool} → Room distance count prices → r ≡ all below (take count distance)
      → entries_refusal distance count prices ≡ refuse_if (not r) 7
  unfolding entries_refusal or_else
  distances_decide w e = rw (le-ltb _ _ w.column, le-ltb _ _ w.entries, le-ltb _ _ w.few, e)

  -- Entries with no fault are not refused,
  pub accepted_entries : Entries distance count prices → entries_refusal distance count prices ≡ 0
  accepted_entries e =
      distances_decide e.room
      (sym (holds_all below (take count distance)
      (all_weaken (λ d. d < square last_to) (λ d. below d ≡ true) (λ d. lt-ltb d (square last_to)) _ e.below)))

  module _ (ok : entries_refusal distance count prices ≡ 0) where
    -- and the other way round.
    pub entries_accepted : Entries distance count prices
    unfolding entries_refusal
    entries_accepted =
        let none = no_fault _ 5 (or_else_first _ _ ok) in
        let rest = or_second (ltb (length prices) count) _ none in
        record {
          room = record {
            column = ltb-false _ _ (or_first _ _ none);
            entries = ltb-false _ _ (or_first _ _ rest);
            few = ltb-false _ _ (or_second (ltb (length distance) count) _ rest);
          };
          below = all_weaken (λ d. below d ≡ true) (λ d. d < square last_to) (λ d. ltb-true d (square last_to)) _
              (all_holds below _ (fault_none _ 6 (or_else_second _ _ ok)));
        }

    -- So a tariff that is not refused either prices them.
    pub chargeable : {t : Tariff} → Priceable t → t.refusal ≡ 0 → Chargeable t.ends t.prices (take count distance) prices
    chargeable {t} p none =
        let e = entries_accepted in
        let long : length (take count distance) ≡ count = length-take-le count distance e.room.entries in
        record {
          tiers = p.tiers none;
          covered = all_weaken (λ d. d < square last_to) (Covered t.ends) (p.covers none) _ e.below;
          few = rw long e.room.few;
          room = rw long e.room.column;
        }
