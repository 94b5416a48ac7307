-- `put_word` meets its contract.
use mathlib.Core.Path.{◌∙◌}
use Rattle.site_file.specs.Bytes.{bytes4}
use Rattle.site_file.proofs.Bytes.{part_stored}
use Rattle.site_file.proofs.numbers.put_word.Goals as goal

pub returns : goal.returns
unfolding bytes4
returns c = part_stored _ (bytes4 c.args.n) _ (c.copy_from_slice.ensures.after ∙ c.to_le_bytes.ensures)
