-- Pairs written into the two columns, one run of pairs after another.
use Rattle.std.proofs.Common.{◌≡◌, ℕ, ◌+◌, ◌<◌, ◌≤◌, List, [], ◌∷◌, ◌++◌, map, length, set, sym, refl, ap, ◌∙◌, arith, length-append}
use mathlib.Core.List.{map-append}
use lib.ListN.{length-map}
use Rattle.column.specs.Column.{stored}
use Rattle.column.proofs.Stored.{stored_length, stored_none, stored_after, sets_stored}
use Rattle.entry.specs.declared.Entry.{Entry}
use Rattle.pairs.specs.Internal.{Room, Written}

module _ {n r : ℕ} {f s f' s' : List ℕ} where
  -- No pair.
  pub written_none : f' ≡ f → s' ≡ s → r ≡ n → Written [] n f s f' s' r
  written_none p q e =
      record { count = omega (arith, e); in_first = p ∙ sym (stored_none n f); in_second = q ∙ sym (stored_none n s) }

  -- One pair.
  pub written_one : (e : Entry) → f' ≡ set f n e.first → s' ≡ set s n e.second → r ≡ n + 1 → Room (e ∷ []) n f s
      → Written (e ∷ []) n f s f' s' r
  written_one e p q d room =
      record {
        count = omega (arith, d);
        in_first = p ∙ sets_stored (e.first ∷ []) f n room.in_first;
        in_second = q ∙ sets_stored (e.second ∷ []) s n room.in_second;
      }

  pub written_lengths : {l : List Entry} → Room l n f s → Written l n f s f' s' r
      → (length f' ≡ length f) × (length s' ≡ length s)
  written_lengths {l} room w = (
    ap length w.in_first ∙ stored_length n (map (λ e. e.first) l) f (rw length-map room.in_first),
    ap length w.in_second ∙ stored_length n (map (λ e. e.second) l) s (rw length-map room.in_second),
  )

-- Where there is a pair, both columns have a place for it.
pub room_some : {A : Type 0} (f : A → Entry) {l m : List A} {o : A} {n : ℕ} {first second : List ℕ}
    → l ≡ o ∷ m → Room (map f l) n first second → (n < length first) × (n < length second)
room_some f {l} {m} {o} {n} {first} {second} e r =
    let room : Room (map f (o ∷ m)) n first second = rw e at r in
    (omega (arith, room.in_first), omega (arith, room.in_second))

-- Some pairs and then others.
module _ (l m : List Entry) {n : ℕ} {f s : List ℕ} (room : Room (l ++ m) n f s) where
  pub room_first : Room l n f s
  room_first =
      let e = length-append l m in
      record { in_first = omega (arith, room.in_first); in_second = omega (arith, room.in_second) }

  module _ {k : ℕ} {f' s' : List ℕ} (w : Written l n f s f' s' k) where
    pub room_rest : Room m k f' s'
    room_rest =
        let e = length-append l m in
        let same = written_lengths room_first w in
        let c = w.count in
        record { in_first = omega (arith, room.in_first); in_second = omega (arith, room.in_second) }

    column_then : (v : Entry → ℕ) (c c' c'' : List ℕ) → n + length (l ++ m) ≤ length c → c' ≡ stored n (map v l) c
        → c'' ≡ stored k (map v m) c' → c'' ≡ stored n (map v (l ++ m)) c
    column_then v c c' c'' h p q =
        let e = w.count in
        q
        ∙ ap (stored k (map v m)) p
        ∙ stored_after n k (map v l) (map v m) c (omega (arith, length-map l v)) (omega (arith, length-append l m))
        ∙ ap (λ (t : List ℕ). stored n t c) (sym (map-append v l m))

    pub written_then : (f'' s'' : List ℕ) (r : ℕ) → Written m k f' s' f'' s'' r → Written (l ++ m) n f s f'' s'' r
    written_then f'' s'' r u =
        record {
          count = omega (arith, w.count, u.count, length-append l m);
          in_first = column_then (λ e. e.first) f f' f'' room.in_first w.in_first u.in_first;
          in_second = column_then (λ e. e.second) s s' s'' room.in_second w.in_second u.in_second;
        }

-- On the way from the columns `f` and `s` to all pairs `l` written: with those left written, `l` is.
pub record Writing (l : List Entry) (n : ℕ) (f s : List ℕ) (left : List Entry) (k : ℕ) (f' s' : List ℕ) : Type 0 where
  pub same_first : length f' ≡ length f
  pub same_second : length s' ≡ length s
  pub room : Room left k f' s'
  pub finish : (f'' s'' : List ℕ) (r : ℕ) → Written left k f' s' f'' s'' r → Written l n f s f'' s'' r

pub writing_starts : {l : List Entry} {n : ℕ} {f s : List ℕ} → Room l n f s → Writing l n f s l n f s
writing_starts room = record { same_first = refl; same_second = refl; room = room; finish = λ f s r w. w }

module _ {l left : List Entry} {n k : ℕ} {f s f' s' : List ℕ} (g : Writing l n f s left k f' s') where
  module _ (m rest : List Entry) (e : left ≡ m ++ rest) where
    pub writing_room : Room m k f' s'
    writing_room = room_first m rest (rw e at g.room)

    pub writing_more : {k' : ℕ} {f'' s'' : List ℕ} → Written m k f' s' f'' s'' k' → Writing l n f s rest k' f'' s''
    writing_more w =
        let room : Room (m ++ rest) k f' s' = rw e at g.room in
        let same = written_lengths writing_room w in
        record {
          same_first = same.0 ∙ g.same_first;
          same_second = same.1 ∙ g.same_second;
          room = room_rest m rest room w;
          finish = λ a b r u. g.finish a b r (rw e (written_then m rest room w a b r u));
        }

  pub writing_ends : left ≡ [] → Written l n f s f' s' k
  writing_ends e = g.finish f' s' k (rw e (written_none refl refl refl))
