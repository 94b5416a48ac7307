-- `count_in` meets its contract.
use Rattle.site_file.specs.File.{count_in}
use Rattle.site_file.proofs.reading.count_in.Goals as goal

pub returns-in-First : goal.returns-in-First
unfolding count_in
returns-in-First c = rw c.in-First.is c.word_at.ensures

pub returns-in-Second : goal.returns-in-Second
unfolding count_in
returns-in-Second c = rw c.in-Second.is c.word_at-in-Second.ensures
