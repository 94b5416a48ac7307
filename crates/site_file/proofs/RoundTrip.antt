-- The reader accepts exactly what the writer can write, and yields the lists that were written.
use mathlib.Core.Path.{◌≡◌, refl, sym, ap, ◌∙◌}
use mathlib.Core.List.{List, [], ◌++◌, flat_map, append_assoc, append-nil}
use Prim.Native.Nat.{ℕ, ◌+◌, ◌*◌, ◌≤◌, ◌<◌}
use native.Mathlib.Omega.{arith}
use lib.ListN.{length, take, drop, length-drop, take-append-drop}
use lib.Seq.{take-add, take_all, take_at, drop-drop}
use Rattle.order.specs.Lists.{All}
use Rattle.column.specs.Column.{overwritten}
use Rattle.site.specs.Site.{Site}
use Rattle.site.specs.Answer.{answered, or_else, answer_of}
use Rattle.site.specs.SiteList.{Columns, sites, site_at, columns_of}
use Rattle.site.specs.Refusal.{content_refusal, lists_refusal}
use Rattle.site.proofs.Answer.{answer_values, answered_values, or_none}
use Rattle.site.proofs.SiteList.{columns_sites, columns_length}
use Rattle.site.proofs.Accepted.{accepted_length, accepted_content}
use Rattle.site_file.specs.declared.Which.{Which}
use Rattle.site_file.specs.declared.Which.TheVariants.{First, Second}
use Rattle.site_file.specs.Bytes.{bytes4, word}
use Rattle.site_file.specs.File.{site_bytes, contents_bytes, file_bytes, start_in, count_in, sites_from, sites_in}
use Rattle.site_file.specs.Calls.{
  WriteValues,
  write_values,
  write_refusal,
  write_answer,
  contents_refusal,
  read_refusal,
  site_answer,
}
use Rattle.site_file.specs.RoundTrip.{EveryOutputAccepted, EveryAcceptedIsOutput}
use Rattle.site_file.proofs.Word.{Bytes, digits, bytes_back}
use Rattle.site_file.proofs.File.{from_length, list_length}
use Rattle.site_file.proofs.ReadAnswer.{Laid, contents_right, read_laid, read_answered, site_found}
use Rattle.site_file.proofs.WriteAnswer.{ready, contents_length, body_end, file_length, write_ready}
use Rattle.site_file.proofs.SitesIn.{Fit, sites_read, body_back, sites_fit, columns_numbers, list_flat, columns_accepted}

-- The four words of a file's contents.
contents_words : (n m : ℕ) → n ≤ 65_535 → m ≤ 65_535 → (r : List ℕ)
    → (word (contents_bytes n m ++ r) 0 ≡ 16) × (word (contents_bytes n m ++ r) 4 ≡ n)
    × (word (contents_bytes n m ++ r) 8 ≡ 16 + 12 * n) × (word (contents_bytes n m ++ r) 12 ≡ m)
unfolding contents_bytes bytes4 word
contents_words n m hn hm r =
    (refl, digits n (omega arith), digits (16 + 12 * n) (omega arith), digits m (omega arith))

-- What a file of two lists says.
module _ (a b : List Site) (hn : length a ≤ 65_535) (hm : length b ≤ 65_535) where
  file_words : (word (file_bytes a b) 0 ≡ 16) × (word (file_bytes a b) 4 ≡ length a)
      × (word (file_bytes a b) 8 ≡ 16 + 12 * length a) × (word (file_bytes a b) 12 ≡ length b)
  unfolding file_bytes
  file_words = contents_words (length a) (length b) hn hm (flat_map site_bytes a ++ flat_map site_bytes b)

  file_contents : 0 ≡ contents_refusal (file_bytes a b)
  file_contents =
      let size = file_length a b in
      let w = file_words in
      contents_right (file_bytes a b) (omega arith) (omega arith) (omega arith) w.0 (omega arith) (omega arith)

  file_bodies : All Fit a → All Fit b
      → (sites_from (file_bytes a b) 16 (length a) ≡ a) × (sites_from (file_bytes a b) (16 + 12 * length a) (length b) ≡ b)
  unfolding file_bytes
  file_bodies h k =
      let c : List ℕ = contents_bytes (length a) (length b) in
      let e : c ++ (flat_map site_bytes a ++ flat_map site_bytes b)
      ≡ (c ++ flat_map site_bytes a) ++ (flat_map site_bytes b ++ []) =
      rw (append-nil (flat_map site_bytes b), append_assoc c (flat_map site_bytes a) (flat_map site_bytes b)) in (
        sites_read a c (flat_map site_bytes b) 16 (contents_length (length a) (length b)) h,
        rw e (sites_read b (c ++ flat_map site_bytes a) [] (16 + 12 * length a) (body_end a b) k),
      )

  module _ (fa : All Fit a) (fb : All Fit b) where
    file_first : sites_in (file_bytes a b) First ≡ a
    unfolding sites_in start_in count_in
    file_first = rw (file_words.0, file_words.1) (file_bodies fa fb).0

    file_second : sites_in (file_bytes a b) Second ≡ b
    unfolding sites_in start_in count_in
    file_second = rw (file_words.2, file_words.3) (file_bodies fa fb).1

    file_accepted : content_refusal a ≡ 0 → content_refusal b ≡ 0 → 0 ≡ read_refusal (file_bytes a b)
    unfolding read_refusal or_else
    file_accepted ha hb = rw (← file_contents, file_first, file_second, ha, hb)

-- The writer's output is the bytes of the two lists.
output_bytes : (a b : Columns) (buffer : List ℕ) (v : WriteValues) → write_answer a b buffer ≡ answered v
    → (write_refusal a b (length buffer) ≡ 0) × (take v.length v.buffer ≡ file_bytes (sites a) (sites b))
unfolding write_answer overwritten
output_bytes a b buffer v h =
    let told = answered_values (write_refusal a b (length buffer)) _ v h in
    let file : List ℕ = file_bytes (sites a) (sites b) in
    (told.0, rw (← told.1) (take_at file (drop (length file) buffer) _ refl))

-- A site of the file, by place.
yields_site : (file : List ℕ) (w : Which) (c : Columns) (place : ℕ) → 0 ≡ contents_refusal file
    → sites_in file w ≡ sites c → count_in file w ≡ length c.x → place < length c.x
    → site_answer file w place ≡ answered (site_at (sites c) place)
yields_site file w c place ok same count h =
    site_found file w place (sym ok) (omega arith) ∙ ap (λ (l : List Site). answered (site_at l place)) same

pub every_output_accepted : EveryOutputAccepted
unfolding count_in answer_of
every_output_accepted a b buffer v pa pb ha hb h =
    let out = output_bytes a b buffer v h in
    let k = ready a b (length buffer) out.0 in
    let na = accepted_length a k.first in
    let nb = accepted_length b k.second in
    let la : length (sites a) ≤ 65_535 = omega arith in
    let lb : length (sites b) ≤ 65_535 = omega arith in
    let fa = sites_fit a pa k.first ha in
    let fb = sites_fit b pb k.second hb in
    let file : List ℕ = file_bytes (sites a) (sites b) in
    let ok : 0 ≡ contents_refusal file = file_contents (sites a) (sites b) la lb in
    let n : word file 4 ≡ length a.x = (file_words (sites a) (sites b) la lb).1 ∙ na in
    let m : word file 12 ≡ length b.x = (file_words (sites a) (sites b) la lb).3 ∙ nb in
    let first : sites_in file First ≡ sites a = file_first (sites a) (sites b) la lb fa fb in
    let second : sites_in file Second ≡ sites b = file_second (sites a) (sites b) la lb fa fb in
    let accepted : 0 ≡ read_refusal file =
    file_accepted (sites a) (sites b) la lb fa fb (accepted_content a k.first) (accepted_content b k.second) in
    rw out.1
    (record {
      accepted = sym (read_answered file accepted (sym n) (sym m));
      first = first;
      second = second;
      first_site = λ place lt. yields_site file First a place ok first n lt;
      second_site = λ place lt. yields_site file Second b place ok second m lt;
    })

-- The contents of an accepted file, written again.
contents_back : (file : List ℕ) → Bytes file → 16 ≤ length file
    → bytes4 (word file 0) ++ (bytes4 (word file 4) ++ (bytes4 (word file 8) ++ bytes4 (word file 12))) ≡ take 16 file
contents_back file h k =
    let parts : take 16 file
    ≡ take 4 file ++ (take 4 (drop 4 file) ++ (take 4 (drop 8 file) ++ take 4 (drop 12 file))) =
    take-add 4 12 file
    ∙ ap (λ (r : List ℕ). take 4 file ++ r)
    (take-add 4 8 (drop 4 file)
    ∙ ap (λ (r : List ℕ). take 4 (drop 4 file) ++ r)
    (rw (drop-drop 4 4 file) (take-add 4 4 (drop 8 file) ∙ rw (drop-drop 4 8 file)))) in
    rw (
      bytes_back file 0 h (omega arith),
      bytes_back file 4 h (omega arith),
      bytes_back file 8 h (omega arith),
      bytes_back file 12 h (omega arith),
    )
    (sym parts)

-- An accepted file, written again.
file_back : (file : List ℕ) → Bytes file → Laid file → file_bytes (sites_in file First) (sites_in file Second) ≡ file
unfolding file_bytes contents_bytes sites_in start_in count_in
file_back file h g =
    let n : ℕ = word file 4 in
    let m : ℕ = word file 12 in
    let first : flat_map site_bytes (sites_from file 16 n) ≡ take (12 * n) (drop 16 file) =
    body_back file 16 n h (omega (arith, g.size)) in
    let second : flat_map site_bytes (sites_from file (16 + 12 * n) m) ≡ drop (16 + 12 * n) file =
    body_back file (16 + 12 * n) m h (omega (arith, g.size))
    ∙ take_all (12 * m) (drop (16 + 12 * n) file) (omega (arith, g.size, length-drop (16 + 12 * n) file)) in
    let bodies : take (12 * n) (drop 16 file) ++ drop (16 + 12 * n) file ≡ drop 16 file =
    rw (← drop-drop (12 * n) 16 file) (take-append-drop (12 * n) (drop 16 file)) in
    let head : bytes4 16 ++ (bytes4 n ++ (bytes4 (16 + 12 * n) ++ bytes4 m)) ≡ take 16 file =
    rw (g.first, g.second) at (contents_back file h g.room) in
    rw (from_length, from_length, g.first, g.second, first, second, bodies, head) (take-append-drop 16 file)

pub every_accepted_is_output : EveryAcceptedIsOutput
unfolding sites_in count_in columns_of lists_refusal write_answer
every_accepted_is_output file h ok =
    let g = read_laid file ok in
    let a : Columns = columns_of (sites_in file First) in
    let b : Columns = columns_of (sites_in file Second) in
    let na : length a.x ≡ word file 4 = columns_length (sites_in file First) ∙ list_length file First in
    let nb : length b.x ≡ word file 12 = columns_length (sites_in file Second) ∙ list_length file Second in
    let lists : lists_refusal a b ≡ 0 = or_none _ _ (columns_accepted file ok First) ∙ columns_accepted file ok Second in
    let bytes : file_bytes (sites a) (sites b) ≡ file =
    rw (columns_sites (sites_in file First) (list_flat file First), columns_sites (sites_in file Second) (list_flat file Second)) (file_back file h g) in (
      a,
      b,
      refl,
      refl,
      columns_numbers file (start_in file First) (word file 4) h,
      columns_numbers file (start_in file Second) (word file 12) h,
      λ buffer room.
          let none = write_ready a b (length buffer) (sym lists) (omega (arith, g.size)) in
          sym (answer_values (sym none)) ∙ ap
          (λ (l : List ℕ). answered (write_values (overwritten l buffer) (length l))) bytes,
    )
