-- `open` meets its contract: the file as it was lent, and its words 0 and 8.
use mathlib.Core.Path.{refl}
use Rattle.site_file.specs.File.{start_in}
use Rattle.site_file.proofs.consulting.open.Goals as goal

pub returns : goal.returns
unfolding start_in
returns c = (refl, c.word_at.ensures, c.word_at-2.ensures)
