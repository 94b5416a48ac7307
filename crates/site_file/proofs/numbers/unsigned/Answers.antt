-- `unsigned` meets its contract, for every `i32`.
use Rattle.site_file.proofs.Bytes.{unsigned_made}
use Rattle.site_file.proofs.numbers.unsigned.Goals as goal

pub returns : goal.returns
returns c = unsigned_made _ c.ranges.n c.cast_unsigned.ensures
