-- `consult` meets its contract: the reader that was opened holds the file and its own starts.
use mathlib.Core.Path.{◌∙◌}
use Rattle.site_file.proofs.ReaderAnswer.{held_by}
use Rattle.site_file.proofs.consulting.consult.Goals as goal

pub returns : goal.returns
returns c = c.site_in.ensures ∙ held_by _ _ _ _ c.open.ensures.0 c.open.ensures.1 c.open.ensures.2
