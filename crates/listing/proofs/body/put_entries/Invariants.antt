-- The lines of the entries: those from place `i` on are left.
use Rattle.entry.specs.Results.{results}
use Rattle.listing.specs.Internal.{number_at}
use Rattle.listing.proofs.EntryLines.{LinesLeft}
use Rattle.listing.proofs.body.put_entries.Given as goal

abbrev pub invariant-loop-i : goal.invariant-loop-i
invariant-loop-i l = LinesLeft (number_at l.an) (number_at l.bn) l.count (results l.distance l.first l.second) l.at l.initial.out l.out l.next l.i
