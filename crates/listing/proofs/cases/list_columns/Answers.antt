-- The text with result columns of 4,096 entries, and with heights of 0.
use Rattle.listing.proofs.FileLists.{zeros_grounded}
use Rattle.listing.proofs.ListingText.{zeros_room}
use Rattle.listing.proofs.cases.list_columns.Goals as goal

pub list_with-requires-clause-grounded : goal.list_with-requires-clause-grounded
list_with-requires-clause-grounded c =
    let few = c.requires.ax_len_bound in
    (zeros_grounded c.args.ax.now few.0, zeros_grounded c.args.bx.now few.1)

pub list_with-requires-clause-second_value : goal.list_with-requires-clause-second_value
list_with-requires-clause-second_value c = zeros_room
