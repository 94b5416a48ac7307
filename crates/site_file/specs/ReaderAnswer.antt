-- What a reader of a file answers: the file consulted through the starts that the reader holds.
use Rattle.std.specs.Prelude.{Bool, not, ◌&&◌, List, ℕ, ◌+◌, ◌*◌, leb, eqb}
use Rattle.site.specs.Site.{Site}
use Rattle.site.specs.Answer.{Answer, answer_unless, refuse_if, or_else}
use Rattle.site_file.specs.declared.Which.{Which}
use Rattle.site_file.specs.declared.Which.TheVariants.{First, Second}
use Rattle.site_file.specs.File.{start_in, count_in, site_in}
use Rattle.site_file.specs.Calls.{contents_refusal}

-- The held start of a list.
unfoldable pub held_start : ℕ → ℕ → Which → ℕ
held_start first second First = first
held_start first second Second = second

-- The held starts are those that the file's contents say.
unfoldable pub own_starts : List ℕ → ℕ → ℕ → Bool
own_starts file first second = eqb (start_in file First) first && eqb (start_in file Second) second

-- As in consulting a file; starts that are not the file's get 10 after its contents and length.
unfoldable pub reader_refusal : List ℕ → ℕ → ℕ → Which → ℕ → ℕ
reader_refusal file first second which place =
    or_else (contents_refusal file)
    (or_else (refuse_if (not (own_starts file first second)) 10) (refuse_if (leb (count_in file which) place) 8))

unfoldable pub reader_answer : List ℕ → ℕ → ℕ → Which → ℕ → Answer Site
reader_answer file first second which place =
    answer_unless (reader_refusal file first second which place) (site_in file (held_start first second which + 12 * place))
