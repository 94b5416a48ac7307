-- `all_ascending` meets its contract: each place but the last is tested beside the next.
use mathlib.Core.Path.{refl, ◌∙◌}
use Prim.Native.Nat.{◌-◌}
use borrow.Author.Rules.{rules}
use Rattle.std.proofs.lemmas.Iterator.{YieldsList-from_range}
use Rattle.std.proofs.lemmas.Iterator.Search.{all_from_yields_List}
use Rattle.site_file.proofs.File.{ordered_place, ascending_run}
use Rattle.site_file.proofs.reading.all_ascending.Goals as goal

pub returns : goal.returns
returns c =
    let a = c.args in
    all_from_yields_List (ordered_place a.file.now a.start) _ _ _ c.all.ensures.ran
    (YieldsList-from_range 1 a.count (a.count - 1) refl refl) (λ x b q k. search rules)
    ∙ ascending_run a.file.now a.start a.count
