-- Writing some bytes.
use mathlib.Core.Path.{refl}
use Rattle.site_file.proofs.Bytes.{part_stored}
use Rattle.listing.proofs.line.put_bytes.Goals as goal

pub returns : goal.returns
returns c = record { position = refl; buffer = part_stored c.args.at c.args.text.now _ c.copy_from_slice.ensures.after }
