-- `bands::edit` meets its contract: the band is stored inside the table, and past it nothing is.
use Rattle.std.proofs.Common.{length, arith}
use borrow.Author.Tests.{le-leb, lt-leb}
use Rattle.site.specs.Answer.{answer_unless, afterwards, number, answer_of}
use Rattle.bands.specs.Calls.{edit_answer}
use Rattle.bands.proofs.edit.Goals as goal

pub returns-then-bands-place : goal.returns-then-bands-place
unfolding answer_of number edit_answer answer_unless afterwards
returns-then-bands-place c =
    let past = le-leb (length c.args.bands.now) c.args.place (omega arith) in (simp past, simp past)

pub returns : goal.returns
unfolding answer_of edit_answer answer_unless afterwards
returns c = let inside = lt-leb (length c.args.bands.now) c.args.place (omega arith) in (simp inside, simp inside)
