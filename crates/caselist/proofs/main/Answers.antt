-- What is written out is the text at the start of the buffer.
use Rattle.std.proofs.Common.{◌≤◌, length, ◌≡◌, ℕ, List, ◌∙◌, ap, sym, arith}
use lib.ListN.{drop, length-append}
use lib.Seq.{length-take-le}
use Rattle.column.specs.Column.{overwritten}
use Rattle.caselist.proofs.main.Goals as goal

-- A text stands within the buffer that holds it.
within : (text before : List ℕ) {n : ℕ} {after : List ℕ} → n ≡ length text → after ≡ overwritten text before → n ≤ length after
unfolding overwritten
within text before p q = omega (arith, ap length q ∙ length-append text (drop (length text) before))

pub slice_bounds-out-end : goal.slice_bounds-out-end
slice_bounds-out-end c = within _ _ c.list_cases-length.ensures.0 c.list_cases-length.ensures.1

pub slice_bounds-write_all-end : goal.slice_bounds-write_all-end
slice_bounds-write_all-end c = sym (length-take-le _ _ (within _ _ c.list_cases-length.ensures.0 c.list_cases-length.ensures.1))
