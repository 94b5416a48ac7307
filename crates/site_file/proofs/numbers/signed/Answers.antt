-- `signed` meets its contract, for every `u32`.
use Rattle.site_file.proofs.Bytes.{signed_made}
use Rattle.site_file.proofs.numbers.signed.Goals as goal

pub returns : goal.returns
returns c = signed_made _ c.ranges.n c.cast_signed.ensures
