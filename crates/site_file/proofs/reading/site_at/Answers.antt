-- `site_at` meets its contract.
use Rattle.site_file.proofs.File.{site_made}
use Rattle.site_file.proofs.reading.site_at.Goals as goal

pub returns : goal.returns
returns c =
    site_made _ _ (record { sfits = c.signed.type_inv }) (record { sfits = c.signed-2.type_inv })
    c.whole_word.ensures c.signed.ensures
    c.whole_word-2.ensures c.signed-2.ensures c.whole_word-3.ensures
