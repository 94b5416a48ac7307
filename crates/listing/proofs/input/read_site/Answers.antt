-- One site of a file into its columns: the consulted file is never refused.
use native.Mathlib.Omega.{arith}
use Rattle.site_file.proofs.ReadAnswer.{laid, inside}
use Rattle.listing.proofs.FileLists.{x_stored, y_stored, number_stored, found_site, found_always}
use borrow.Author.Rules.{rules}
use Rattle.listing.proofs.input.read_site.Goals as goal

pub overflow_cast-i : goal.overflow_cast-i
overflow_cast-i c =
    let g = inside _ c.args.which (laid _ c.requires.file_value.0) in
    omega (arith, c.requires.file_value.1)

pub returns-in-Ok : goal.returns-in-Ok
returns-in-Ok c =
    let args = c.args in
    let pre = c.requires.file_value in
    let read = found_site _ _ _ _ c.consult.ensures pre.0 pre.1 c.in-Ok.is in (
      x_stored args.i read args.x.now (search rules),
      (y_stored args.i read args.y.now (search rules), number_stored args.i read args.number.now),
    )

pub returns-in_default : goal.returns-in_default
returns-in_default c =
    let pre = c.requires.file_value in
    absurd (found_always _ _ _ _ c.consult.ensures pre.0 pre.1 c.in_default.is)
