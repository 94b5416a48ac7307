-- `put_contents` meets its contract: four words stored in a row.
use Rattle.site_file.proofs.WriteAnswer.{contents_stored}
use Rattle.site_file.proofs.writing.put_contents.Goals as goal

pub returns : goal.returns
returns c =
    contents_stored _ _ _ c.requires.0 c.put_word.ensures
    c.put_word-2.ensures
    c.put_word-3.ensures c.put_word-4.ensures
