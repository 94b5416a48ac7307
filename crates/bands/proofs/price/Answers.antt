-- `bands::price` meets its contract: the tariff of the table prices as the table does.
use mathlib.Core.Path.{ap, ◌∙◌}
use Rattle.bands.specs.Calls.{priced_by}
use Rattle.bands.specs.Internal.{Tariff, price_at}
use Rattle.bands.proofs.TariffLaws.{gathered_priceable, gathered_answer}
use Rattle.bands.proofs.price.Goals as goal

pub price_by-requires : goal.price_by-requires
price_by-requires c = rw c.gather.ensures (gathered_priceable _)

pub returns : goal.returns
returns c =
    let a = c.args in
    let same = λ (t : Tariff). priced_by t.refusal (price_at t.ends t.prices) a.distance.now a.count a.prices.now in
    let e = ap same c.gather.ensures ∙ gathered_answer a.bands.now a.distance.now a.count a.prices.now in
    rw e at c.price_by.ensures
