-- `lawful_at` meets its contract.
use mathlib.Core.Path.{◌∙◌}
use Rattle.site_file.proofs.File.{lawful_made, lawful_not}
use borrow.Author.Rules.{rules}
use Rattle.site_file.proofs.reading.lawful_at.Goals as goal

pub returns-then-within : goal.returns-then-within
returns-then-within c =
    lawful_made _ _ c.site_at-s.ensures (search rules)
    c.within.ensures c.if-within.true (search rules) c.within-then-within.ensures

pub returns-else-within : goal.returns-else-within
returns-else-within c =
    c.if-within.false
    ∙ lawful_not _ _ c.site_at-s.ensures (search rules) c.within.ensures
    c.if-within.false
