-- `word_at` meets its contract: other words are read in the rest of the file.
use native.Mathlib.Omega.{arith}
use Rattle.site_file.specs.Bytes.{word}
use Rattle.site_file.proofs.Word.{word_made, word_none}
use Rattle.site_file.proofs.numbers.word_at.Goals as goal

pub returns-then-file-at : goal.returns-then-file-at
returns-then-file-at c = word_none _ _ c.if-file-at.true

pub returns : goal.returns
unfolding word
returns c = word_made c.args.file.now c.args.at (omega (arith, c.from_le_bytes.ensures))
