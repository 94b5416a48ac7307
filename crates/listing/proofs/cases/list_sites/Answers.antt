-- Both lists read into columns, and their text.
use Rattle.site_file.proofs.ReadAnswer.{read_contents}
use Rattle.listing.proofs.FileLists.{read_lawful, read_text}
use Rattle.listing.proofs.cases.list_sites.Goals as goal

pub read_sites-requires-clause-file_value : goal.read_sites-requires-clause-file_value
read_sites-requires-clause-file_value c = read_contents _ c.requires.file_lists.accepted

pub read_sites-requires-2-clause-file_value : goal.read_sites-requires-2-clause-file_value
read_sites-requires-2-clause-file_value c = read_contents _ c.requires.file_lists.accepted

pub list_columns-requires-clause-lawful : goal.list_columns-requires-clause-lawful
list_columns-requires-clause-lawful c = read_lawful _ _ c.read_sites.ensures c.read_sites-2.ensures c.requires.file_lists

pub returns : goal.returns
returns c = read_text _ _ c.read_sites.ensures c.read_sites-2.ensures c.list_columns.ensures
