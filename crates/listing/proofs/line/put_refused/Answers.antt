-- A refusal is a word and a number.
use Rattle.listing.proofs.Lines.{refused_put}
use Rattle.listing.specs.Listing.{bytes}
use Rattle.listing.proofs.line.put_refused.Goals as goal

pub returns : goal.returns
unfolding bytes
returns c =
    refused_put _ c.requires c.put_bytes-past_refused.ensures
    c.put_field.ensures
