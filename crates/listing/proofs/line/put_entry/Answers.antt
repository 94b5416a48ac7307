-- The line of an entry is four fields.
use native.Mathlib.Omega.{arith}
use Rattle.listing.proofs.Lines.{field_next, entry_put}
use Rattle.listing.proofs.line.put_entry.Goals as goal

pub put_field-past_distance-requires : goal.put_field-past_distance-requires
put_field-past_distance-requires c =
    let pre = c.requires in
    omega (arith, field_next _ _ c.put_field-past_rank.ensures, c.put_field-past_rank.auto, pre)

pub put_field-past_first-requires : goal.put_field-past_first-requires
put_field-past_first-requires c =
    omega (
      arith,
      field_next _ _ c.put_field-past_distance.ensures,
      c.put_field-past_distance.auto,
      field_next _ _ c.put_field-past_rank.ensures,
      c.put_field-past_rank.auto,
      c.requires,
    )

pub put_field-requires : goal.put_field-requires
put_field-requires c =
    omega (
      arith,
      field_next _ _ c.put_field-past_first.ensures,
      c.put_field-past_first.auto,
      field_next _ _ c.put_field-past_distance.ensures,
      c.put_field-past_distance.auto,
      field_next _ _ c.put_field-past_rank.ensures,
      c.put_field-past_rank.auto,
      c.requires,
    )

pub returns : goal.returns
returns c =
    entry_put _ _ _ _ c.requires c.put_field-past_rank.ensures c.put_field-past_distance.ensures
    c.put_field-past_first.ensures c.put_field.ensures
