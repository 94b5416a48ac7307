-- What the calls on a site file answer.
use Rattle.std.specs.Prelude.{not, ◌&&◌, ◌||◌, List, ℕ, ◌+◌, ◌*◌, leb, ltb, eqb, length}
use Rattle.column.specs.Column.{overwritten}
use Rattle.site.specs.Site.{Site}
use Rattle.site.specs.Answer.{Answer, answer_unless, refuse_if, or_else}
use Rattle.site.specs.SiteList.{Columns, sites, site_at}
use Rattle.site.specs.Refusal.{content_refusal, lists_refusal}
use Rattle.site_file.specs.declared.Which.{Which}
use Rattle.site_file.specs.declared.Which.TheVariants.{First, Second}
use Rattle.site_file.specs.declared.Counts.{Counts}
use Rattle.site_file.specs.File.{file_bytes, start_in, count_in, sites_in}

pub record WriteValues : Type 0 where
  pub buffer : List ℕ
  pub length : ℕ

abbrev pub write_values : List ℕ → ℕ → WriteValues
write_values buffer length = record { buffer = buffer; length = length }

-- Writing: 1, 2, 3 for each list, then "6: a file longer than its buffer".
unfoldable pub write_refusal : Columns → Columns → ℕ → ℕ
write_refusal a b room = or_else (lists_refusal a b) (refuse_if (ltb room (length (file_bytes (sites a) (sites b)))) 6)

-- "the file writer, the file's length", and the buffer with the file from its start on; or the refusal.
unfoldable pub write_answer : Columns → Columns → List ℕ → Answer WriteValues
write_answer a b buffer =
    let file = file_bytes (sites a) (sites b) in
    answer_unless (write_refusal a b (length buffer)) (write_values (overwritten file buffer) (length file))

-- "A file below 16 bytes gets 10; any other is tested for 1 (counts), then 10": contents or length wrong.
unfoldable pub contents_refusal : List ℕ → ℕ
contents_refusal file =
    let n = count_in file First in
    let m = count_in file Second in
    let starts = eqb (start_in file First) 16 && eqb (start_in file Second) (16 + 12 * n) in
    or_else (refuse_if (ltb (length file) 16) 10)
    (or_else (refuse_if (ltb 65_535 n || ltb 65_535 m) 1)
    (refuse_if (not (starts && eqb (length file) (16 + 12 * n + 12 * m))) 10))

-- ".. then its lists for 2 and 3."
unfoldable pub read_refusal : List ℕ → ℕ
read_refusal file =
    or_else (contents_refusal file) (or_else (content_refusal (sites_in file First)) (content_refusal (sites_in file Second)))

pub record ReadValues : Type 0 where
  pub first : ℕ
  pub second : ℕ

abbrev pub read_values : ℕ → ℕ → ReadValues
read_values first second = record { first = first; second = second }

-- The values that the struct of the code stands for.
abbrev pub counts : Counts → ReadValues
counts told = read_values told.first told.second

-- "the file reader, both site counts", or the refusal.
unfoldable pub read_answer : List ℕ → Answer ReadValues
read_answer file = answer_unless (read_refusal file) (read_values (count_in file First) (count_in file Second))

-- "Reading a site of a file makes the tests for 1 and 10 again, then 8, but not those for 2 and 3."
unfoldable pub site_refusal : List ℕ → Which → ℕ → ℕ
site_refusal file which place = or_else (contents_refusal file) (refuse_if (leb (count_in file which) place) 8)

-- "a site of a file, its x, y and number", or the refusal.
unfoldable pub site_answer : List ℕ → Which → ℕ → Answer Site
site_answer file which place = answer_unless (site_refusal file which place) (site_at (sites_in file which) place)
