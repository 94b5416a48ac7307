-- The first line is two words and two numbers.
use native.Mathlib.Omega.{arith}
use Rattle.listing.proofs.Lines.{field_next, heading_put}
use Rattle.listing.specs.Listing.{bytes}
use Rattle.listing.proofs.line.put_heading.Goals as goal

pub put_bytes-past_of-requires : goal.put_bytes-past_of-requires
put_bytes-past_of-requires c =
    omega (
      arith,
      field_next _ _ c.put_field-past_entries.ensures,
      c.put_field-past_entries.auto,
      c.put_bytes-past_pairs.ensures.position,
      c.put_bytes-past_pairs.auto,
      c.requires,
    )

pub put_field-requires : goal.put_field-requires
put_field-requires c =
    omega (
      arith,
      c.put_bytes-past_of.ensures.position,
      c.put_bytes-past_of.auto,
      field_next _ _ c.put_field-past_entries.ensures,
      c.put_field-past_entries.auto,
      c.put_bytes-past_pairs.ensures.position,
      c.put_bytes-past_pairs.auto,
      c.requires,
    )

pub returns : goal.returns
unfolding bytes
returns c =
    let pre = c.requires in
    heading_put _ _ pre c.put_bytes-past_pairs.ensures c.put_field-past_entries.ensures c.put_bytes-past_of.ensures
    c.put_field.ensures
