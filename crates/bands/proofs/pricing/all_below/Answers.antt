-- `bands::all_below` meets its contract.
use Rattle.std.proofs.Common.{◌≡◌, ℕ, Bool, List, [], ◌∷◌, refl, ◌∙◌, rules, tests}
use Rattle.std.specs.List.{list_all}
use Rattle.std.proofs.lemmas.Iterator.{YieldsList-from_slice}
use Rattle.std.proofs.lemmas.Iterator.Search.{all_from_yields_List}
use Rattle.order.specs.Lists.{all}
use Rattle.site.specs.Site.{square}
use Rattle.bands.proofs.Entries.{below}
use Rattle.bands.proofs.pricing.all_below.Goals as goal

-- The library's word for it.
all_is : (test : ℕ → Bool) (l : List ℕ) → list_all test l ≡ all test l
unfolding all
all_is test [] = refl
all_is test (d ∷ l) = rw (all_is test l)

pub returns : goal.returns
unfolding square
returns c =
    let l = c.args.column.now in
    all_from_yields_List below _ _ _ c.all.ensures.ran (YieldsList-from_slice l cc) (λ x b q k. search (rules, tests))
    ∙ all_is below l
