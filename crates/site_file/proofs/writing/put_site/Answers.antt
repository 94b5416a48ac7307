-- `put_site` meets its contract: three words stored in a row.
use Rattle.site_file.proofs.File.{site_stored}
use Rattle.site_file.proofs.writing.put_site.Goals as goal

pub returns : goal.returns
returns c =
    site_stored _ _ _ _ _ c.requires c.ranges.x c.ranges.y c.unsigned.ensures
    c.put_word.ensures c.unsigned-2.ensures c.put_word-2.ensures
    c.put_word-3.ensures
