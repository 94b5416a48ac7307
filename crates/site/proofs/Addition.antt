-- The refusal of an addition, by the tests in their order, and what an accepted one has.
use mathlib.Core.Path.{◌≡◌}
use mathlib.Core.Bool.{Bool, true, false, not, cond, ◌||◌}
use Prim.Native.Nat.{ℕ, ◌≤◌, ◌<◌}
use borrow.Author.Tests.{lt-leb, le-leb, leb-false}
use lib.Dec.{leb}
use lib.ListN.{length}
use Rattle.site.specs.Answer.{or_else}
use Rattle.site.specs.Site.{Site, lawful_site}
use Rattle.site.specs.SiteList.{Columns, sites, in_use}
use Rattle.site.specs.InUse.{used_refusal, present}
use Rattle.site.specs.Addition.{add_refusal}
use Rattle.site.proofs.Tests.{or_first, or_second}
use Rattle.site.proofs.Answer.{first_refused, or_else_first, or_else_second, no_fault, fault_none}

-- "6: adding when the columns are full or 65,535 sites are in use."
abbrev no_room : Columns → ℕ → Bool
no_room c n = leb (length c.x) n || leb 65_535 n

module _ (c : Columns) (n : ℕ) (s : Site) where
  pub add_used : {r : ℕ} → r ≡ used_refusal c n → (r ≡ 0 → ⊥) → r ≡ add_refusal c n s
  unfolding add_refusal
  add_used e h = first_refused _ e h

  module _ (ok : used_refusal c n ≡ 0) where
    pub add_outside : lawful_site s ≡ false → 2 ≡ add_refusal c n s
    unfolding add_refusal or_else
    add_outside h = simp (ok, h)

    module _ (p : lawful_site s ≡ true) where
      pub add_full : length c.x ≤ n → 6 ≡ add_refusal c n s
      unfolding add_refusal or_else
      add_full h = simp (ok, p, le-leb (length c.x) n h)

      module _ (room : n < length c.x) where
        pub add_most : 65_535 ≤ n → 6 ≡ add_refusal c n s
        unfolding add_refusal or_else
        add_most h = simp (ok, p, lt-leb (length c.x) n room, le-leb 65_535 n h)

        pub add_present : n < 65_535 → present s (sites (in_use n c)) ≡ true → 11 ≡ add_refusal c n s
        unfolding add_refusal or_else
        add_present h k = simp (ok, p, lt-leb (length c.x) n room, lt-leb 65_535 n h, k)

        pub add_ok : n < 65_535 → present s (sites (in_use n c)) ≡ false → 0 ≡ add_refusal c n s
        unfolding add_refusal or_else
        add_ok h k = simp (ok, p, lt-leb (length c.x) n room, lt-leb 65_535 n h, k)

  -- What an accepted addition has.
  module _ (ok : add_refusal c n s ≡ 0) where
    pub added_used : used_refusal c n ≡ 0
    unfolding add_refusal
    added_used = or_else_first (used_refusal c n) _ ok

    -- What is tested after the sites in use, and after the new site.
    site_rest : or_else (cond (not (lawful_site s)) 2 0) (or_else (cond (no_room c n) 6 0) (cond (present s (sites (in_use n c))) 11 0)) ≡ 0
    unfolding add_refusal
    site_rest = or_else_second (used_refusal c n) _ ok

    room_rest : or_else (cond (no_room c n) 6 0) (cond (present s (sites (in_use n c))) 11 0) ≡ 0
    room_rest = or_else_second (cond (not (lawful_site s)) 2 0) _ site_rest

    pub added_lawful : lawful_site s ≡ true
    added_lawful = fault_none (lawful_site s) 1 (or_else_first _ (or_else (cond (no_room c n) 6 0) _) site_rest)

    room_left : no_room c n ≡ false
    room_left = no_fault (no_room c n) 5 (or_else_first _ (cond (present s (sites (in_use n c))) 11 0) room_rest)

    pub added_new : present s (sites (in_use n c)) ≡ false
    added_new = no_fault (present s (sites (in_use n c))) 10 (or_else_second (cond (no_room c n) 6 0) _ room_rest)

    pub added_room : n < length c.x
    added_room = leb-false (length c.x) n (or_first (leb (length c.x) n) (leb 65_535 n) room_left)

    pub added_few : n < 65_535
    added_few = leb-false 65_535 n (or_second (leb (length c.x) n) (leb 65_535 n) room_left)
