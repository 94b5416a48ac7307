-- The lines of the entries: those from place `i` on are left.
use Rattle.listing.proofs.EntryLines.{lines_starts, lines_here, lines_more, lines_ends}
use Rattle.listing.proofs.body.put_entries.Goals as goal

pub loop-i-init : goal.loop-i-init
loop-i-init c =
    lines_starts _ _ _ _ _ _ c.requires.second_value c.requires.count_in_bounds

pub put_entry_at-next-requires-clause-i_in_bounds : goal.put_entry_at-next-requires-clause-i_in_bounds
put_entry_at-next-requires-clause-i_in_bounds c = lines_here _ _ _ _ _ _ c.loop-i-test.true c.loop-i.invariant

pub loop-i-preserved : goal.loop-i-preserved
loop-i-preserved c = lines_more _ _ _ _ _ _ c.loop-i-test.true c.loop-i.invariant c.put_entry_at-next.ensures

pub returns : goal.returns
returns c = lines_ends _ _ _ _ _ _ c.loop-i-test.false c.loop-i.invariant
