-- The first line, then the lines of the entries.
use native.Mathlib.Omega.{arith}
use Rattle.listing.proofs.EntryLines.{heading_next, text_put}
use Rattle.listing.proofs.body.put_text.Goals as goal

pub put_entries-requires-clause-count_in_bounds : goal.put_entries-requires-clause-count_in_bounds
put_entries-requires-clause-count_in_bounds c =
    omega (arith, c.requires.count_in_bounds, heading_next _ _ c.put_heading-next.ensures, c.put_heading-next.auto)

pub returns : goal.returns
returns c =
    text_put _ _ _ _ _ c.requires.second_value (omega (arith, c.requires.count_in_bounds)) c.put_heading-next.ensures
    c.put_entries.ensures
