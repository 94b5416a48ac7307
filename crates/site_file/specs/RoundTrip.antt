-- The reader accepts exactly what the writer can write, and finds in it what was written. (01: site file.)
use Rattle.std.specs.Prelude.{◌≡◌, List, ℕ, ◌≤◌, ◌<◌, length, take}
use Rattle.order.specs.Lists.{All}
use Rattle.column.specs.Column.{overwritten}
use Rattle.site.specs.Answer.{answered}
use Rattle.site.specs.SiteList.{Columns, Plane, sites, site_at}
use Rattle.site_file.specs.declared.Which.TheVariants.{First, Second}
use Rattle.site_file.specs.File.{sites_in}
use Rattle.site_file.specs.Calls.{WriteValues, write_values, write_answer}
use Rattle.site_file.specs.Calls.{read_refusal, read_values, read_answer, site_answer}

-- What a column of numbers can hold.
abbrev pub Numbers : Columns → Type 0
Numbers c = All (λ n. n < 4_294_967_296) c.number

-- A file is accepted with two lists, and consulting it site by site yields them.
pub record Yields (file : List ℕ) (a b : Columns) : Type 0 where
  pub accepted : read_answer file ≡ answered (read_values (length a.x) (length b.x))
  pub first : sites_in file First ≡ sites a
  pub second : sites_in file Second ≡ sites b
  pub first_site : (p : ℕ) → p < length a.x → site_answer file First p ≡ answered (site_at (sites a) p)
  pub second_site : (p : ℕ) → p < length b.x → site_answer file Second p ≡ answered (site_at (sites b) p)

-- Every output is accepted, and yields the two lists that were written: as many bytes of the buffer as are answered.
abbrev pub EveryOutputAccepted : Type 0
EveryOutputAccepted =
    (a b : Columns) (buffer : List ℕ) (v : WriteValues) → Plane a → Plane b → Numbers a → Numbers b →
    write_answer a b buffer ≡ answered v → Yields (take v.length v.buffer) a b

-- Every accepted file is the output for some two lists, in every buffer that has room for it.
abbrev pub EveryAcceptedIsOutput : Type 0
EveryAcceptedIsOutput =
    (file : List ℕ) → All (λ byte. byte < 256) file → read_refusal file ≡ 0 →
    (a : Columns) × (b : Columns) × Plane a × Plane b × Numbers a × Numbers b ×
    ((buffer : List ℕ) → length file ≤ length buffer →
    write_answer a b buffer ≡ answered (write_values (overwritten file buffer) (length file)))
