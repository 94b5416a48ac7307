-- Columns for both lists of a file: neither has more than 4,000 sites.
use lib.IntN.{pos}
use Rattle.site_file.specs.declared.Which.TheVariants.{First, Second}
use Rattle.listing.proofs.FileLists.{file_few, zeros_part, zeros_sized}
use Rattle.listing.proofs.cases.list_file.Goals as goal

pub slice_bounds-ax-end : goal.slice_bounds-ax-end
slice_bounds-ax-end c = file_few c.requires First c.count_in-n.ensures

pub slice_bounds-list_sites-end : goal.slice_bounds-list_sites-end
slice_bounds-list_sites-end c = zeros_part (pos 0) _ (file_few c.requires First c.count_in-n.ensures)

pub slice_bounds-ay-end : goal.slice_bounds-ay-end
slice_bounds-ay-end c = file_few c.requires First c.count_in-n.ensures

pub slice_bounds-list_sites-end-2 : goal.slice_bounds-list_sites-end-2
slice_bounds-list_sites-end-2 c = zeros_part (pos 0) _ (file_few c.requires First c.count_in-n.ensures)

pub slice_bounds-an-end : goal.slice_bounds-an-end
slice_bounds-an-end c = file_few c.requires First c.count_in-n.ensures

pub slice_bounds-list_sites-end-3 : goal.slice_bounds-list_sites-end-3
slice_bounds-list_sites-end-3 c = zeros_part 0 _ (file_few c.requires First c.count_in-n.ensures)

pub slice_bounds-bx-end : goal.slice_bounds-bx-end
slice_bounds-bx-end c = file_few c.requires Second c.count_in-m.ensures

pub slice_bounds-list_sites-end-4 : goal.slice_bounds-list_sites-end-4
slice_bounds-list_sites-end-4 c = zeros_part (pos 0) _ (file_few c.requires Second c.count_in-m.ensures)

pub slice_bounds-by-end : goal.slice_bounds-by-end
slice_bounds-by-end c = file_few c.requires Second c.count_in-m.ensures

pub slice_bounds-list_sites-end-5 : goal.slice_bounds-list_sites-end-5
slice_bounds-list_sites-end-5 c = zeros_part (pos 0) _ (file_few c.requires Second c.count_in-m.ensures)

pub slice_bounds-bn-end : goal.slice_bounds-bn-end
slice_bounds-bn-end c = file_few c.requires Second c.count_in-m.ensures

pub slice_bounds-list_sites-end-6 : goal.slice_bounds-list_sites-end-6
slice_bounds-list_sites-end-6 c = zeros_part 0 _ (file_few c.requires Second c.count_in-m.ensures)

pub list_sites-requires-clause-file_bound : goal.list_sites-requires-clause-file_bound
list_sites-requires-clause-file_bound c = (
  rw (← c.count_in-n.ensures) (file_few c.requires First c.count_in-n.ensures),
  rw (← c.count_in-m.ensures) (file_few c.requires Second c.count_in-m.ensures),
)

pub list_sites-requires-clause-sized : goal.list_sites-requires-clause-sized
list_sites-requires-clause-sized c = zeros_sized _ c.count_in-n.ensures (file_few c.requires First c.count_in-n.ensures)

pub list_sites-requires-clause-sized_2 : goal.list_sites-requires-clause-sized_2
list_sites-requires-clause-sized_2 c = zeros_sized _ c.count_in-m.ensures (file_few c.requires Second c.count_in-m.ensures)
