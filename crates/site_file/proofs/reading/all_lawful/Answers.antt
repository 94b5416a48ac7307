-- `all_lawful` meets its contract: each place is tested.
use mathlib.Core.Path.{refl, ◌∙◌}
use native.Mathlib.Omega.{arith}
use borrow.Author.Rules.{rules}
use Rattle.std.proofs.lemmas.Iterator.{YieldsList-from_range}
use Rattle.std.proofs.lemmas.Iterator.Search.{all_from_yields_List}
use Rattle.site_file.proofs.File.{lawful_place, lawful_run}
use Rattle.site_file.proofs.reading.all_lawful.Goals as goal

pub returns : goal.returns
returns c =
    let a = c.args in
    all_from_yields_List (lawful_place a.file.now a.start) _ _ _ c.all.ensures.ran
    (YieldsList-from_range 0 a.count a.count refl (omega arith)) (λ x b q k. search rules)
    ∙ lawful_run a.file.now a.start a.count
