-- The entries of a K list can always be priced: no two sites are as far apart as the bands reach.
use mathlib.Core.Path.{◌≡◌, sym, ap, ◌∙◌}
use mathlib.Core.Bool.{true, ◌&&◌}
use mathlib.Core.List.{List, [], ◌∷◌, map, zip_with, Memᴰ}
use Prim.Native.Nat.{ℕ, ◌≤◌, ◌<◌}
use native.Mathlib.Omega.{arith}
use lib.IntN.{ℤ}
use lib.ListN.{length, get_or, length-map, length-append}
use Rattle.order.specs.Lists.{all, sum}
use Rattle.order.proofs.Best.{length_best}
use Rattle.order.proofs.Lists.{all_at, all_map, mem_all}
use Rattle.order.proofs.Sorted.{mem_best}
use Rattle.column.specs.Column.{overwritten}
use Rattle.site.specs.Site.{Site, within, height_within, further_limits, all_within, lawful_site, square, squared_distance}
use Rattle.site.specs.SiteList.{Columns, sites}
use Rattle.site.specs.Refusal.{list_refusal}
use Rattle.site.proofs.Answer.{answered_values, or_else_first, fault_none}
use Rattle.site.proofs.Accepted.{accepted_lawful}
use Rattle.site.proofs.Distance.{squared_over, squared_distance_is, squared_gap_within, squared_height_within}
use Rattle.site.proofs.ListRefusal.{lawful_is}
use Rattle.site.proofs.SiteList.{nowhere, sites_length, sites_at}
use Rattle.site.proofs.Tests.{and_first, and_second}
use Rattle.entry.specs.declared.Entry.{Entry}
use Rattle.entry.specs.Entry.{rank_before, best_k, lawful_k}
use Rattle.entry.specs.Results.{Results, holding}
use Rattle.entry.proofs.Rank.{k_limits}
use Rattle.entry.proofs.Below.{written}
use Rattle.bands.specs.Bands.{last_to}
use Rattle.bands.proofs.Entries.{Entries}
use Rattle.bands.proofs.Cover.{every_distance_once, every_entry_priced, accepted_priced}
use Rattle.sweep.specs.Strip.{all_pairs}
use Rattle.sweep.proofs.Strip.{mem_pairs}
use Rattle.pairs.specs.KList.{k_list, k_list_refusal, k_list_answer}
use Rattle.pairs.proofs.KList.{lists_accepted, rest_accepted}
use Rattle.demands.specs.Prices.{AsLent, EntriesArePriced, PricesHold}
use Rattle.demands.proofs.KClosest.{k_list_values_lem}

-- ---- how far apart two sites are

-- A lawful site's coordinates are inside the limits.
lawful_parts : (s : Site) → lawful_site s ≡ true
    → (within s.x ≡ true) × (within s.y ≡ true) × (all_within further_limits s.further ≡ true)
lawful_parts s h =
    let rest = all_within further_limits s.further in
    let all = sym (lawful_is s) ∙ h in
    let others = and_second (within s.x) (within s.y && rest) all in
    (and_first (within s.x) _ all, and_first (within s.y) rest others, and_second (within s.y) rest others)

-- So the first of the others, a height.
height_first : (h : ℤ) (l : List ℤ) → all_within further_limits (h ∷ l) ≡ true → height_within h ≡ true
unfolding all_within all zip_with
height_first h l w = and_first (height_within h) _ w

-- What heights add.
further_bound : (l m : List ℤ) → all_within further_limits l ≡ true → all_within further_limits m ≡ true → length l ≤ 1
    → squared_over l m ≤ 400_000_000
unfolding sum zip_with
further_bound [] m p q one = omega arith
further_bound (h ∷ []) [] p q one = omega arith
further_bound (h ∷ []) (k ∷ m) p q one =
    omega (arith, squared_height_within h k (height_first h [] p) (height_first k m q))
further_bound (h ∷ g ∷ l) m p q one = absurd (omega arith)

-- The greatest squared distance of two lawful sites.
distance_bound : (s t : Site) → lawful_site s ≡ true → lawful_site t ≡ true → length s.further ≤ 1
    → squared_distance s t ≤ 8_000_000_000_400_000_000
distance_bound s t p q one =
    let i = lawful_parts s p in
    let j = lawful_parts t q in
    omega (
      arith,
      squared_distance_is s t,
      squared_gap_within s.x t.x i.0 j.0,
      squared_gap_within s.y t.y i.1 j.1,
      further_bound s.further t.further i.2 j.2 one,
    )

-- ---- a K list

-- The site at a place of an accepted list.
module _ (c : Columns) (ok : list_refusal c ≡ 0) (i : ℕ) (h : i < length (sites c)) where
  site_lawful : lawful_site (get_or (sites c) i nowhere) ≡ true
  site_lawful = all_at (λ s. lawful_site s ≡ true) (sites c) i nowhere h (accepted_lawful c ok).inside

  site_as_lent : AsLent c → length (get_or (sites c) i nowhere).further ≤ 1
  site_as_lent one =
      let level = (accepted_lawful c ok).level in
      rw (sites_at c level i nowhere (omega (arith, sites_length c level)), length-map) one

-- A column is at least as long as what was written into it.
overwritten_long : (v column : List ℕ) → length v ≤ length (overwritten v column)
unfolding overwritten
overwritten_long v column = rw length-append (omega arith)

module _ (a b : Columns) (k : ℕ) (r : Results) (one : AsLent a) (ok : k_list_refusal a b k r ≡ 0) where
  abbrev l : List Entry
  l = k_list k (sites a) (sites b)

  -- Each entry is nearer than the bands reach.
  entry_bound : (e : Entry) → Memᴰ e l → e.distance < square last_to
  unfolding k_list best_k square
  entry_bound e m =
      let lists = lists_accepted a b k r ok in
      let p = mem_pairs (sites a) (sites b) nowhere (mem_best rank_before k (all_pairs (sites a) (sites b)) m) in
      omega (
        arith,
        p.right,
        distance_bound (get_or (sites a) e.first nowhere) (get_or (sites b) e.second nowhere)
            (site_lawful a lists.0 e.first p.first_below) (site_lawful b lists.1 e.second p.second_below)
            (site_as_lent a lists.0 e.first p.first_below one),
      )

  -- There are at most 4,096.
  few : length l ≤ 4_096
  unfolding k_list best_k
  few =
      let m = k_limits k (fault_none (lawful_k k) 3 (or_else_first _ _ (rest_accepted a b k r ok))) in
      omega (arith, length_best rank_before k (all_pairs (sites a) (sites b)))

  -- Its entries as a price call is given them.
  entries : (prices : List ℕ) → length l ≤ length prices → Entries (holding l r).distance (length l) prices
  unfolding holding
  entries prices room = record {
    room = record {
      column = room;
      entries = omega (arith, overwritten_long (map (λ e. e.distance) l) r.distance, length-map l (λ e. e.distance));
      few = few;
    };
    below = rw (written l (λ e. e.distance) r.distance)
        (all_map (λ d. d < square last_to) (λ e. e.distance) l (mem_all (λ e. e.distance < square last_to) l entry_bound));
  }

-- A call that prices them is answered.
pub entries_are_priced : EntriesArePriced
unfolding EntriesArePriced k_list_answer
entries_are_priced way a b k r v one two accepted bands prices lawful room =
    let ok = (answered_values (k_list_refusal a b k r) _ v accepted).0 in
    let is = k_list_values_lem way a b k r v accepted in
    rw (← is) (accepted_priced bands _ _ prices lawful (entries a b k r one ok prices (omega (arith, ap (λ v. v.count) is))))

pub prices_hold : PricesHold
prices_hold = record { distances = every_distance_once; priced = every_entry_priced; k_lists = entries_are_priced }
