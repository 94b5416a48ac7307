-- `whole_word` meets its contract.
use native.Mathlib.Omega.{arith}
use Rattle.site_file.specs.Bytes.{word}
use Rattle.site_file.proofs.numbers.whole_word.Goals as goal

pub returns : goal.returns
unfolding word
returns c = omega (arith, c.from_le_bytes.ensures)
